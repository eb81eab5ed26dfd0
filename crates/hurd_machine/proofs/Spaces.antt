-- The space that is left in a tree: the same in worlds that agree, and what an answer within it shows.
use Rattle.std.proofs.Common.{if◌then◌else◌, ◌≡◌, ℕ, Bool, true, false, is_some, List, Option, Some, None, refl, sym, ap, ◌∙◌, inl, inr}
use Rattle.std.specs.Prelude.{Result, Ok, Err}
use Rattle.std.proofs.lemmas.Bool.{cases_Bool}
use Rattle.hurd_machine.proofs.Common.{Did, ENOSPC, Errno, Header, Name, OfNode, Seen, Sees, ServerInfo, TotalOf, World, counts_for, fitting, home_at, keeps_tree, limit_by, limit_of, overfills, server_at, space_at, space_with, total_at, total_if, tree_by}
use Rattle.hurd_trans_iface.specs.Behaviour.{Effect, size_left}
use Rattle.hurd_trans_iface.specs.declared.begun.ServerKind.{ServerKind}
use Rattle.hurd_trans_iface.proofs.Goods.{good}
use Rattle.hurd_nodes.specs.Shown.{space_for}
use Rattle.hurd_machine.specs.World.{nodes_of}
use Rattle.hurd_machine.proofs.Totals.{own_total}
use Rattle.hurd_machine.proofs.Faces.{face_reads, limit_told}
use Rattle.hurd_machine.proofs.Views.{Agree, home_same, face_same}

-- what is answered within a limit is answered without one

if_ok : {A : Type 0} (full : Bool) (x : Result A Errno) (a : A) → (if full then Err ENOSPC else x) ≡ Ok a → x ≡ Ok a
if_ok true x a h = absurd (cc)
if_ok false x a h = h

pub effect_fits : {T : Type 0} (space : Option ℕ) (h : Header) (e : Effect T) (d : Did T) → fitting space h e ≡ Ok d → e ≡ Ok d
effect_fits None h e d is = is
effect_fits (Some k) h (Err e) d is = absurd (cc)
effect_fits (Some k) h (Ok x) d is = if_ok (overfills (Some k) (counts_for h) (counts_for (size_left x.size h))) (Ok x) d is

-- only a server of a tree has a limit
limit_tree : (k : ServerKind) (text : List ℕ) (most : ℕ) → limit_of k text ≡ Some most → keeps_tree k ≡ true
limit_tree k text most e = elim (cases_Bool (keeps_tree k)) [
  | inl tree ↦ tree
  | inr lone ↦ let none : limit_of k text ≡ None = (good k).unlimited lone text in absurd (cc (none, e))
]

module _ {S : ℕ → Bool} {v w : World} (a : Agree S v w) (n : Name) (seen : Seen S v n) where
  -- of a server that has a limit S sees the total where it sees a node of it
  total_seen : (s : Name) (i : ServerInfo) (most : ℕ) → home_at v n ≡ Some s → server_at v s ≡ Some i → limit_of i.kind i.text ≡ Some most → Sees S v (TotalOf s)
  total_seen s i most home is l = record { info = i; is_server = is; knows = OfNode n seen home; tree = limit_tree i.kind i.text most l; why = inl (ap (λ (o : Option ℕ). is_some o) l) }

  sum_same : (s : Name) (i : ServerInfo) (most : ℕ) → home_at v n ≡ Some s → server_at v s ≡ Some i → limit_of i.kind i.text ≡ Some most → own_total w.nodes w.sites s ≡ own_total v.nodes v.sites s
  sum_same s i most home is l =
      let part = a.parts (TotalOf s) (total_seen s i most home is l) in
      let total : total_at w s ≡ total_at v s = cc (part) in
      let tree_v : tree_by (server_at v s) ≡ true = ap tree_by is ∙ limit_tree i.kind i.text most l in
      let tree_w : tree_by (server_at w s) ≡ true = face_reads tree_by (λ j. refl) (server_at v s) (server_at w s) (face_same a n s seen home) ∙ tree_v in
      let some : Some (own_total w.nodes w.sites s) ≡ Some (own_total v.nodes v.sites s) = sym (ap (λ b. total_if b (own_total w.nodes w.sites s)) tree_w) ∙ total ∙ ap (λ b. total_if b (own_total v.nodes v.sites s)) tree_v in
      cc (some)

  -- so it knows what is left
  pub space_same : space_at w n ≡ space_at v n
  space_same = ap (space_for (nodes_of w)) (home_same a n seen) ∙ go (home_at v n) refl
    where
      by_limit : (s : Name) (i : ServerInfo) → home_at v n ≡ Some s → server_at v s ≡ Some i → (l : Option ℕ) → limit_of i.kind i.text ≡ l → space_with l (own_total w.nodes w.sites s) ≡ space_with l (own_total v.nodes v.sites s)
      by_limit s i home is None e = refl
      by_limit s i home is (Some most) e = ap (λ k. space_with (Some most) k) (sum_same s i most home is e)

      by_server : (s : Name) → home_at v n ≡ Some s → (o : Option ServerInfo) → server_at v s ≡ o → space_with (limit_by o) (own_total w.nodes w.sites s) ≡ space_with (limit_by o) (own_total v.nodes v.sites s)
      by_server s home None e = refl
      by_server s home (Some i) e = by_limit s i home e (limit_of i.kind i.text) refl

      go : (o : Option Name) → home_at v n ≡ o → space_for (nodes_of w) o ≡ space_for (nodes_of v) o
      go None e = refl
      go (Some s) e =
          ap (λ l. space_with l (own_total w.nodes w.sites s)) (face_reads limit_by (λ i. limit_told i.kind i.text) (server_at v s) (server_at w s) (face_same a n s seen e))
          ∙ by_server s e (server_at v s) refl
