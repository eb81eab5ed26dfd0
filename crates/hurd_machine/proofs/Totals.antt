-- The totals of servers after a change.
use Rattle.std.proofs.Common.{if◌then◌else◌, is_some, nat_lt, ◌≡◌, ◌≢◌, ℕ, ◌+◌, Bool, true, false, cond, not, Option, Some, None, refl, sym, ap, ap₂, ◌∙◌, inl, inr, arith}
use Rattle.std.specs.Option.{option_map}
use Rattle.hurd_machine.proofs.Common.{Header, Name, NameMap, Node, NodeMap, Site, edit, get, home_in, insert, is_dir, is_entered, is_one, is_other, new_site, retain_keys, with_header, without_sites}
use Rattle.hurd_trans_iface.specs.Totals.{counts_for, total_in}
use Rattle.hurd_nodes.specs.Totals.{nodes_in, total_if}
use Rattle.hurd_creds.proofs.NameLaws.{same_map_by, same_or_apart, same_name-itself, same_name-apart, edit_here, edit_apart, edit_absent, get_here, get_apart}
use Rattle.hurd_nodes.proofs.Sites.{home-apart, home-here, home-was, home-stays, home-kept}
use Rattle.hurd_nodes.proofs.PartLaws.{same_bool}
use Rattle.hurd_machine.proofs.Nodes.{header_in}
use Rattle.hurd_creds.proofs.Retained.{get-retained, retained, dropped, was_retained}
use Rattle.hurd_machine.proofs.Sites.{home_is, not_home}
use Rattle.hurd_creds.proofs.Sums.{of_found, total, total_edit, total_insert, total_kept, total_retained, total_none}
use Rattle.std.proofs.lemmas.Bool.{cases_Bool}

-- maps of which some names are kept, after a change

module _ {X : Type 0} (m : NameMap X) (k : Name) (p : Name → Bool) where
  kept_edit : (g : X → X) → p k ≡ true → retain_keys (edit k g m) p ≡ edit k g (retain_keys m p)
  kept_edit g mine = same_map_by _ _ (λ n. elim (same_or_apart n k) [
    | inl e ↦ rw e (retained (edit k g m) p k mine ∙ edit_here m k g ∙ ap (option_map g) (sym (retained m p k mine)) ∙ sym (edit_here (retain_keys m p) k g))
    | inr a ↦ get-retained (edit k g m) p n ∙ ap (λ o. cond (p n) o None) (edit_apart m k g n a) ∙ sym (get-retained m p n) ∙ sym (edit_apart (retain_keys m p) k g n a)
  ])

  kept_other : (g : X → X) → p k ≡ false → retain_keys (edit k g m) p ≡ retain_keys m p
  kept_other g other = same_map_by _ _ (λ n. elim (same_or_apart n k) [
    | inl e ↦ rw e (dropped (edit k g m) p k other ∙ sym (dropped m p k other))
    | inr a ↦ get-retained (edit k g m) p n ∙ ap (λ o. cond (p n) o None) (edit_apart m k g n a) ∙ sym (get-retained m p n)
  ])

  module _ (q : Name → Bool) (same : (n : Name) → n ≢ k → q n ≡ p n) (x : X) where
    inserted_apart : (n : Name) → n ≢ k → get (retain_keys (insert m k x) q) n ≡ get (retain_keys m p) n
    inserted_apart n a = get-retained (insert m k x) q n ∙ ap₂ (λ (b : Bool) (o : Option X). cond b o None) (same n a) (get_apart m k x n a) ∙ sym (get-retained m p n)

    kept_insert : q k ≡ true → retain_keys (insert m k x) q ≡ insert (retain_keys m p) k x
    kept_insert mine = same_map_by _ _ (λ n. elim (same_or_apart n k) [
      | inl e ↦ rw e (retained (insert m k x) q k mine ∙ get_here m k x ∙ sym (get_here (retain_keys m p) k x))
      | inr a ↦ inserted_apart n a ∙ sym (get_apart (retain_keys m p) k x n a)
    ])

    kept_new : get m k ≡ None → q k ≡ false → retain_keys (insert m k x) q ≡ retain_keys m p
    kept_new none other = same_map_by _ _ (λ n. elim (same_or_apart n k) [
      | inl e ↦ rw e (dropped (insert m k x) q k other ∙ sym (get-retained m p k ∙ ap (λ o. cond (p k) o None) none ∙ nothing (p k)))
      | inr a ↦ inserted_apart n a
    ])
      where
        nothing : (b : Bool) → ◌≡◌ {A = Option X} (cond b None None) None
        nothing true = refl
        nothing false = refl

-- totals after a change of nodes

abbrev count : Node → ℕ
count x = counts_for x.header

-- what the nodes that a server has count for
abbrev pub own_total : NodeMap → NameMap Site → Name → ℕ
own_total nodes sites s = total_in (nodes_in nodes sites s)

module _ (nodes : NodeMap) (sites : NameMap Site) (s : Name) where
  abbrev own : Name → Bool
  own n = is_one s (home_in sites n)

  -- of another server's node
  pub total_other : (k : Name) (g : Node → Node) → own k ≡ false → own_total (edit k g nodes) sites s ≡ own_total nodes sites s
  unfolding total_in
  total_other k g other = ap (total count) (kept_other nodes k own g other)

  -- of a node of its own
  pub total_here : (k : Name) (g : Node → Node) → own k ≡ true → (x : Node) → get nodes k ≡ Some x → own_total (edit k g nodes) sites s + count x ≡ own_total nodes sites s + count (g x)
  unfolding total_in
  total_here k g mine x is =
      ap (λ (m : NodeMap). total count m + count x) (kept_edit nodes k own g mine) ∙ total_edit count (nodes_in nodes sites s) k g x (retained nodes own k mine ∙ is)

  -- that counts for as much as before
  pub total_still : (k : Name) (g : Node → Node) → ((x : Node) → get nodes k ≡ Some x → count (g x) ≡ count x) → own_total (edit k g nodes) sites s ≡ own_total nodes sites s
  unfolding total_in
  total_still k g same = elim (cases_Bool (own k)) [
    | inl mine ↦ ap (total count) (kept_edit nodes k own g mine) ∙ total_kept count (nodes_in nodes sites s) k g (λ x is. same x (sym (retained nodes own k mine) ∙ is))
    | inr other ↦ total_other k g other
  ]

  -- where no node has another home
  pub total_homes : (others : NameMap Site) → ((n : Name) → home_in others n ≡ home_in sites n) → own_total nodes others s ≡ own_total nodes sites s
  unfolding total_in
  total_homes others same =
      ap (total count) (same_map_by (nodes_in nodes others s) (nodes_in nodes sites s) (λ n.
      get-retained nodes (λ q. is_one s (home_in others q)) n ∙ ap (λ o. cond (is_one s o) (get nodes n) None) (same n) ∙ sym (get-retained nodes own n)))

  -- with a new node of a server
  module _ (k q : Name) (node : Node) (new : get nodes k ≡ None) where
    abbrev grown : Name → Bool
    grown n = is_one s (home_in (insert sites k (new_site q)) n)

    same_homes : (n : Name) → n ≢ k → grown n ≡ own n
    same_homes n a = ap (is_one s) (home-apart sites k (new_site q) n a)

    pub total_made : s ≡ q → own_total (insert nodes k node) (insert sites k (new_site q)) s ≡ own_total nodes sites s + count node
    unfolding total_in
    total_made is =
        let mine : grown k ≡ true = ap (is_one s) (home-here sites k (new_site q)) ∙ rw is (same_name-itself q) in
        let none : get (nodes_in nodes sites s) k ≡ None = get-retained nodes own k ∙ nothing (own k) (get nodes k) new in
        let sum = ap (λ (m : NodeMap). total count m) (kept_insert nodes k own grown same_homes node mine) in
        let put = total_insert count (nodes_in nodes sites s) k node in
        let zero_found : of_found count (get (nodes_in nodes sites s) k) ≡ 0 = ap (of_found count) none in
        let grows : total count (insert (nodes_in nodes sites s) k node) ≡ total count (nodes_in nodes sites s) + count node = omega (arith, put, zero_found) in
        sum ∙ grows
      where
        nothing : (b : Bool) (o : Option Node) → o ≡ None → cond b o None ≡ None
        nothing true o e = e
        nothing false o e = refl

    pub total_unmade : s ≢ q → own_total (insert nodes k node) (insert sites k (new_site q)) s ≡ own_total nodes sites s
    unfolding total_in
    total_unmade apart =
        let other : grown k ≡ false = ap (is_one s) (home-here sites k (new_site q)) ∙ same_name-apart s q apart in
        ap (total count) (kept_new nodes k own grown same_homes node new other)

  -- of a server that has no node
  pub total_empty : ((n : Name) → home_in sites n ≡ Some s → ⊥) → own_total nodes sites s ≡ 0
  unfolding total_in
  total_empty none = total_none count (nodes_in nodes sites s) (λ n x is. absurd (none n (home_is s (home_in sites n) (was_retained nodes own n x is).1)))

  -- without another server and its nodes
  pub total_left : (q : Name) → s ≢ q → own_total (retain_keys nodes (is_other q sites)) (without_sites q sites) s ≡ own_total nodes sites s
  unfolding total_in
  total_left q apart =
      ap (total count) (same_map_by _ _ (λ n.
      get-retained (retain_keys nodes (is_other q sites)) (λ r. is_one s (home_in (without_sites q sites) r)) n
      ∙ ap₂ (λ (b : Bool) (o : Option Node). cond b o None) (same_home n) (get-retained nodes (is_other q sites) n)
      ∙ both (home_in sites n) (get nodes n) ∙ sym (get-retained nodes own n)))
    where
      same_home : (n : Name) → is_one s (home_in (without_sites q sites) n) ≡ own n
      same_home n = same_bool _ _ (λ h. ap (is_one s) (home-was sites q n s (home_is s _ h)) ∙ same_name-itself s) (λ h. ap (is_one s) (home-stays sites q n s apart (home_is s _ h)) ∙ same_name-itself s)

      both : (o : Option Name) (x : Option Node) → cond (is_one s o) (cond (not (is_one q o)) x None) None ≡ cond (is_one s o) x None
      both o x = elim (cases_Bool (is_one s o)) [
        | inl mine ↦
            let other : is_one q o ≡ false = not_home q o (λ e. apart (let equal : Some q ≡ Some s = sym e ∙ home_is s o mine in cc)) in
            ap (λ b. cond (is_one s o) (cond (not b) x None) None) other
        | inr out ↦ ap (λ b. cond b (cond (not (is_one q o)) x None) None) out ∙ sym (ap (λ b. cond b x None) out)
      ]

  -- without nodes of its own that count for nothing, and any of others
  pub total_swept : (p : Name → Bool) → ((n : Name) (x : Node) → p n ≡ false → home_in sites n ≡ Some s → get nodes n ≡ Some x → count x ≡ 0) → own_total (retain_keys nodes p) (retain_keys sites p) s ≡ own_total nodes sites s
  unfolding total_in
  total_swept p none =
      ap (total count) (same_map_by _ (retain_keys (nodes_in nodes sites s) p) (λ n.
      get-retained (retain_keys nodes p) (λ q. is_one s (home_in (retain_keys sites p) q)) n
      ∙ ap₂ (λ (o : Option Name) (x : Option Node). cond (is_one s o) x None) (home-kept sites p n) (get-retained nodes p n)
      ∙ both (p n) (home_in sites n) (get nodes n)
      ∙ ap (λ x. cond (p n) x None) (sym (get-retained nodes own n)) ∙ sym (get-retained (nodes_in nodes sites s) p n)))
      ∙ total_retained count (nodes_in nodes sites s) p (λ n x out is. let l = was_own n x is in none n x out l.0 l.1)
    where
      both : (b : Bool) (o : Option Name) (x : Option Node) → cond (is_one s (cond b o None)) (cond b x None) None ≡ cond b (cond (is_one s o) x None) None
      both true o x = refl
      both false o x = refl

      was_own : (n : Name) (x : Node) → get (nodes_in nodes sites s) n ≡ Some x → (home_in sites n ≡ Some s) × (get nodes n ≡ Some x)
      was_own n x is = let l = was_retained nodes own n x is in (home_is s (home_in sites n) l.1, l.0)

-- of what no entry names
pub unentered_none : (h : Header) → is_entered h ≡ false → counts_for h ≡ 0
unentered_none h out = go (is_dir h.kind) out
  where
    go : (b : Bool) → (if b then is_some h.parent else nat_lt 0 h.links) ≡ false → (if b then 0 else if nat_lt 0 h.links then h.size else 0) ≡ 0
    go true e = refl
    go false e = ap (λ (c : Bool). if c then h.size else 0) e

-- the same edit of a header that is alike, in two worlds

module _ (nodes others : NodeMap) (sites places : NameMap Site) (s k : Name) (f : Header → Header) (home : home_in places k ≡ home_in sites k) (header : header_in (get others k) ≡ header_in (get nodes k)) where
  pub total_alike : own_total others places s ≡ own_total nodes sites s → own_total (edit k (with_header f) others) places s ≡ own_total (edit k (with_header f) nodes) sites s
  total_alike e = elim (cases_Bool (is_one s (home_in sites k))) [
    | inl mine ↦ go (get nodes k) (get others k) refl refl header mine
    | inr other ↦ total_other others places s k (with_header f) (ap (is_one s) home ∙ other) ∙ e ∙ sym (total_other nodes sites s k (with_header f) other)
  ]
    where
      go : (o p : Option Node) → get nodes k ≡ o → get others k ≡ p → header_in p ≡ header_in o → is_one s (home_in sites k) ≡ true
          → own_total (edit k (with_header f) others) places s ≡ own_total (edit k (with_header f) nodes) sites s
      go None None ox py same mine =
          ap (λ (m : NodeMap). own_total m places s) (edit_absent others k (with_header f) py) ∙ e ∙ sym (ap (λ (m : NodeMap). own_total m sites s) (edit_absent nodes k (with_header f) ox))
      go (Some a) (Some b) ox py same mine =
          let one : own_total (edit k (with_header f) nodes) sites s + counts_for a.header ≡ own_total nodes sites s + counts_for (f a.header) = total_here nodes sites s k (with_header f) mine a ox in
          let two : own_total (edit k (with_header f) others) places s + counts_for b.header ≡ own_total others places s + counts_for (f b.header) = total_here others places s k (with_header f) (ap (is_one s) home ∙ mine) b py in
          let alike : b.header ≡ a.header = cc (same) in
          let was : counts_for b.header ≡ counts_for a.header = ap counts_for alike in
          let now : counts_for (f b.header) ≡ counts_for (f a.header) = ap (λ (h : Header). counts_for (f h)) alike in
          omega (arith, one, two, was, now, e)
      go o p ox py same mine = absurd (cc (same))

-- a total that is read, where what counts is alike

pub total_part : (b c : Bool) (k l : ℕ) → c ≡ b → (b ≡ true → l ≡ k) → total_if c l ≡ total_if b k
total_part true true k l e same = ap Some (same refl)
total_part false false k l e same = refl
total_part b c k l e same = absurd (cc (e))

-- what is alike before a change that leaves trees is so after it
pub total_both : (b c : Bool) (k l m n : ℕ) → total_if c l ≡ total_if b k → (l ≡ k → n ≡ m) → total_if c n ≡ total_if b m
total_both true true k l m n e next = ap Some (next (cc (e)))
total_both false false k l m n e next = refl
total_both true false k l m n e next = absurd (cc (e))
total_both false true k l m n e next = absurd (cc (e))
