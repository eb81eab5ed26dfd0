-- An entry taken out of a directory, as a piece of any call: the node that it named has a link less, or no parent.
use Rattle.std.proofs.Common.{if◌then◌else◌, ◌≡◌, ◌≢◌, ◌∙◌, ℕ, ◌+◌, ◌-◌, ◌≤◌, Bool, true, false, ◌||◌, cond, List, [], ◌∷◌, Option, Some, None, nat_lt, sym, refl, ap, ap₂, subst, inl, inr, arith}
use Rattle.std.proofs.lemmas.Bool.Decides.{nat_tests}
use Rattle.std.proofs.lemmas.Slice.Eq.{bytes_eq-Decides}
use Rattle.hurd_machine.proofs.Common.{AreDistinct, AttrOf, Body, BodyOf, Change, Coherent, Content, Dir, EditBody, EditHeader, EmptyOf, GoodBehaviour, HasDistinctNames, Header, IsShaped, Linked, Listing, Name, Node, NodeMap, Part, Sees, World, apply, apply_all, body_at, bytes_eq, count_list, edit, entry_in, entry_of, get, header_at, header_of, info_at, insert, is_dir, is_of, less_entry, list_any, lists, lists_at, one_if, same_name, times_in, times_listed, tree_by, unlinked, with_body, with_header, without_entry, Seen}
use Rattle.hurd_creds.proofs.NameLaws.{same_name-itself, same_name-apart, edit_found}
use Rattle.hurd_trans_iface.specs.Nodes.{Entry}
use Rattle.hurd_trans_iface.specs.Kinds.{behaviour_of}
use Rattle.hurd_trans_iface.specs.declared.begun.ServerKind.{ServerKind}
use Rattle.hurd_machine.specs.World.{nodes_of}
use Rattle.hurd_machine.proofs.Nodes.{header_in, body_in, node_of_header, header-with_body, edit_keeps, node_of_body}
use Rattle.hurd_machine.proofs.Listed.{times_edited, times_named, dir_kind}
use Rattle.hurd_machine.proofs.Coherence.{IsUnlisted, MayMove, Proper, entry_lists, entry_stands, none_if}
use Rattle.hurd_machine.proofs.Filled.{filled_append, filled_header, filled_removed, tree_header}
use Rattle.hurd_machine.proofs.Confine.{Less, less_same}
use Rattle.hurd_machine.proofs.Links.{Relisted}
use Rattle.hurd_machine.proofs.Relinks.{file_linked, dir_linked}
use Rattle.hurd_machine.proofs.Piece.{Stands, Piece}
use Rattle.std.specs.Option.{option_map}
use Rattle.std.proofs.lemmas.Bool.{cases_Bool}
use Rattle.hurd_machine.proofs.Frame.{Recounts, recounts_body}

-- a directory with one entry less

pub same_exact : (a b : List ℕ) → bytes_eq a b ≡ true → a ≡ b
same_exact a b h = (bytes_eq-Decides a b).0 h

-- an entry afterwards was there

entry_before : (name other : List ℕ) (m : Name) (es : List Entry) → AreDistinct es → entry_in other (less_entry name es) ≡ Some m → entry_in other es ≡ Some m
entry_before name other m [] d = λ h. h
entry_before name other m (e ∷ es) d = go (bytes_eq e.name name) (bytes_eq e.name other) refl (entry_before name other m es d.1)
  where
    go : (a b : Bool) → bytes_eq e.name other ≡ b → (entry_in other (less_entry name es) ≡ Some m → entry_in other es ≡ Some m)
        → entry_in other (if a then es else e ∷ less_entry name es) ≡ Some m → cond b (Some e.node) (entry_in other es) ≡ Some m
    go true true eb ih h = let none : None ≡ Some m = sym d.0 ∙ ap (λ z. entry_in z es) (same_exact e.name other eb) ∙ h in absurd (cc)
    go true false eb ih h = h
    go false true eb ih h = rw eb at h
    go false false eb ih h = ih (rw eb at h)

pub entry_of_before : (name other : List ℕ) (m : Name) (b : Body) → HasDistinctNames b → entry_of other (Some (without_entry name b)) ≡ Some m → entry_of other (Some b) ≡ Some m
entry_of_before name other m (Content bs) d h = h
entry_of_before name other m (Listing es) d h = entry_before name other m es d h

-- a body without an entry has no entry more
pub none_without : (name other : List ℕ) (o : Option Body) → ((b : Body) → o ≡ Some b → HasDistinctNames b) → entry_of other o ≡ None → entry_of other (option_map (without_entry name) o) ≡ None
none_without name other None d none = none
none_without name other (Some b) d none = none_if _ (λ m e. let old = entry_of_before name other m b (d b refl) e in cc)

-- names stay distinct

none_before : (name other : List ℕ) (es : List Entry) → AreDistinct es → entry_in other es ≡ None → entry_in other (less_entry name es) ≡ None
none_before name other es d none = none_if _ (λ m e. let old = entry_before name other m es d e in cc)

distinct_without : (name : List ℕ) (es : List Entry) → AreDistinct es → AreDistinct (less_entry name es)
distinct_without name [] d = tt
distinct_without name (e ∷ es) d = go (bytes_eq e.name name) (distinct_without name es d.1)
  where
    go : (a : Bool) → AreDistinct (less_entry name es) → AreDistinct (if a then es else e ∷ less_entry name es)
    go true ih = d.1
    go false ih = (none_before name e.name es d.1 d.0, ih)

pub names_without : (name : List ℕ) (b : Body) → HasDistinctNames b → HasDistinctNames (without_entry name b)
names_without name (Content bs) d = tt
names_without name (Listing es) d = distinct_without name es d

pub shape_without : (name : List ℕ) (b : Body) (h : Header) → IsShaped h b → IsShaped h (without_entry name b)
shape_without name (Content bs) h s = s
shape_without name (Listing es) h s = s

-- which nodes are entries, and how often

fewer : (name : List ℕ) (m : Name) (es : List Entry) → list_any (is_of m) (less_entry name es) ≡ true → list_any (is_of m) es ≡ true
fewer name m [] = λ h. h
fewer name m (e ∷ es) = go (bytes_eq e.name name) (is_of m e) refl (fewer name m es)
  where
    go : (a b : Bool) → is_of m e ≡ b → (list_any (is_of m) (less_entry name es) ≡ true → list_any (is_of m) es ≡ true) → list_any (is_of m) (if a then es else e ∷ less_entry name es) ≡ true
        → (b || list_any (is_of m) es) ≡ true
    go a true eb ih h = refl
    go true false eb ih h = h
    go false false eb ih h = ih (rw eb at h)

pub lists_before : (name : List ℕ) (m : Name) (b : Body) → lists m (without_entry name b) ≡ true → lists m b ≡ true
lists_before name m (Content bs) h = h
lists_before name m (Listing es) h = fewer name m es h

-- of an entry for n that goes, this many are of m
abbrev pub taken : Name → Name → ℕ
taken n m = one_if (same_name n m)

count_without : (name : List ℕ) (n m : Name) (es : List Entry) → entry_in name es ≡ Some n → count_list (is_of m) (less_entry name es) + taken n m ≡ count_list (is_of m) es
count_without name n m [] = λ h. absurd (cc)
count_without name n m (e ∷ es) = go (bytes_eq e.name name) (count_without name n m es)
  where
    go : (a : Bool) → (entry_in name es ≡ Some n → count_list (is_of m) (less_entry name es) + taken n m ≡ count_list (is_of m) es) → cond a (Some e.node) (entry_in name es) ≡ Some n
        → count_list (is_of m) (if a then es else e ∷ less_entry name es) + taken n m ≡ one_if (is_of m e) + count_list (is_of m) es
    go true ih h = let same : e.node ≡ n = cc in let one : one_if (is_of m e) ≡ taken n m = ap (λ z. one_if (same_name z m)) same in omega arith
    go false ih h = let rest = ih h in omega arith

pub times_without : (name : List ℕ) (n m : Name) (b : Body) → entry_of name (Some b) ≡ Some n → times_in m (without_entry name b) + taken n m ≡ times_in m b
times_without name n m (Content bs) h = absurd (cc)
times_without name n m (Listing es) h = count_without name n m es h

-- once less of the node itself, as often of others

pub times_taken : (name : List ℕ) (n : Name) (b : Body) → entry_of name (Some b) ≡ Some n → times_in n (without_entry name b) + 1 ≡ times_in n b
times_taken name n b h = let all = times_without name n n b h in let one : taken n n ≡ 1 = ap one_if (same_name-itself n) in omega arith

pub times_others : (name : List ℕ) (n m : Name) (b : Body) → m ≢ n → entry_of name (Some b) ≡ Some n → times_in m (without_entry name b) ≡ times_in m b
times_others name n m b apart h = let all = times_without name n m b h in let none : taken n m ≡ 0 = ap one_if (same_name-apart n m (λ e. apart (sym e))) in omega arith

-- the bodies of a coherent world have distinct names
pub distinct_at : (w : World) → Coherent w → (d : Name) (b : Body) → body_at w d ≡ Some b → HasDistinctNames b
distinct_at w c d b is = let x = node_of_body (get w.nodes d) b is in subst HasDistinctNames x.2 (c.tree.distinct d x.0 x.1)

-- what an entry less leaves of a world

module _ (h : Header) where
  -- a file without a link
  abbrev lighter : Header
  lighter = record h { links = h.links - 1 }

  -- a directory without its parent
  abbrev orphaned : Header
  orphaned = record h { parent = None }

  file_unlinked : is_dir h.kind ≡ false → unlinked h ≡ lighter
  file_unlinked file = ap₂ (λ (k : ℕ) (p : Option Name). let j : Header = record h { links = k; parent = p } in j) (ap (λ b. if b then h.links else h.links - 1) file) (ap (λ b. if b then None else h.parent) file)

  dir_unlinked : is_dir h.kind ≡ true → unlinked h ≡ orphaned
  dir_unlinked dir = ap₂ (λ (k : ℕ) (p : Option Name). let j : Header = record h { links = k; parent = p } in j) (ap (λ b. if b then h.links else h.links - 1) dir) (ap (λ b. if b then None else h.parent) dir)

  -- no parent is new
  parent_before : (p : Name) → (unlinked h).parent ≡ Some p → h.parent ≡ Some p
  parent_before p e = go (is_dir h.kind) e
    where
      go : (b : Bool) → (if b then None else h.parent) ≡ Some p → h.parent ≡ Some p
      go true e = absurd (cc)
      go false e = e

-- edits of a header that do the same to the one that is there
edit_same : (m : NodeMap) (n : Name) (f g : Header → Header) (k : Header) → header_of m n ≡ Some k → f k ≡ g k → edit n (with_header f) m ≡ edit n (with_header g) m
edit_same m n f g k is same =
    let x = node_of_header (get m n) k is in
    edit_found m n (with_header f) x.0 x.1
    ∙ ap (λ (h : Header). let y : Node = record { header = h; body = x.0.body } in insert m n y) (ap f x.2 ∙ same ∙ sym (ap g x.2))
    ∙ sym (edit_found m n (with_header g) x.0 x.1)

-- an entry that may be taken out of a directory of a tree: what it names is there, of the same server, and no directory with entries
pub record MayRemove (w : World) (d : Name) (name : List ℕ) (n : Name) : Type 0 where
  pub dir : Node
  pub is_dir : get w.nodes d ≡ Some dir
  pub entry : entry_of name (Some dir.body) ≡ Some n
  pub header : Header
  pub is_header : header_at w n ≡ Some header
  pub tree : tree_by (info_at w n) ≡ true
  pub empty : header.kind ≡ Dir → (m : Name) → lists_at m (body_at w n) ≡ false

-- an entry may be taken out of any directory
pub cut_proper : (w : World) → Coherent w → (d : Name) (name : List ℕ) → Proper w (EditBody d (without_entry name))
cut_proper w c d name b is = record {
  shape = λ h. shape_without name b h;
  distinct = names_without name b;
  entries = λ k e. entry_stands c d k (ap (lists_at k) is ∙ lists_before name k b e);
}

-- what was an entry once is none any more
pub cut_unlisted : (w : World) (d : Name) (name : List ℕ) (n : Name) (dir : Node) → get w.nodes d ≡ Some dir → entry_of name (Some dir.body) ≡ Some n → times_listed w.nodes n ≤ 1
    → IsUnlisted (apply (EditBody d (without_entry name)) w).nodes n
cut_unlisted w d name n dir is_dir entry once e listed =
    let cut : World = apply (EditBody d (without_entry name)) w in
    let edited = times_edited w.nodes d n (without_entry name) dir is_dir in
    let one = times_taken name n dir.body entry in
    let some : nat_lt 0 (times_listed cut.nodes n) ≡ true = times_named cut.nodes e n listed in
    absurd (grind (arith, nat_tests))

module _ (d : Name) (name : List ℕ) (n : Name) where
  abbrev cutting : List Change
  cutting = EditBody d (without_entry name) ∷ []

  abbrev pub unlinking : List Change
  unlinking = EditBody d (without_entry name) ∷ EditHeader n unlinked ∷ []

  -- an entry less shows nothing
  unlinked_less : (S : ℕ → Bool) (v : World) (h : Header) → Less S v n (unlinked h) h
  unlinked_less S v h = less_same S v n (unlinked h) h refl refl refl refl (λ p e. inl (parent_before h p e))

  module _ (w : World) (c : Coherent w) (m : MayRemove w d name n) where
    abbrev cut : World
    cut = apply_all cutting w

    abbrev pub left : World
    left = apply_all unlinking w

    abbrev IsLoose : Name → Type 0
    IsLoose k = k ≡ n

    still : header_at cut n ≡ Some m.header
    still = edit_keeps header_in (with_body (without_entry name)) (header-with_body (without_entry name)) w.nodes d n ∙ m.is_header

    less : Relisted IsLoose (nodes_of w) d m.dir.body (without_entry name m.dir.body)
    less = record { times = λ k out. times_others name n k m.dir.body out m.entry; fuller = inl (λ k e. lists_before name k m.dir.body e) }

    -- the header is left as an edit by f leaves it
    left_by : (f : Header → Header) → unlinked m.header ≡ f m.header → Linked (nodes_of (apply_all (EditBody d (without_entry name) ∷ EditHeader n f ∷ []) w)) → Linked (nodes_of left)
    left_by f same l = subst (λ (nodes : NodeMap). Linked (nodes_of (record w { nodes = nodes }))) (sym (edit_same cut.nodes n unlinked f m.header still same)) l

    -- a file that an entry names has a link
    has_link : Linked (nodes_of w) → is_dir m.header.kind ≡ false → nat_lt 0 m.header.links ≡ true
    has_link l file =
        let counted : m.header.links ≡ times_listed w.nodes n = (l.nodes n m.header m.is_header).links m.tree ∙ ap (λ b. cond b 1 (times_listed w.nodes n)) file in
        let here : entry_of name (body_at w d) ≡ Some n = ap (λ (o : Option Node). entry_of name (body_in o)) m.is_dir ∙ m.entry in
        ap (nat_lt 0) counted ∙ times_named w.nodes d n (entry_lists name (body_at w d) n here)

    file_left : Linked (nodes_of w) → is_dir m.header.kind ≡ false → Linked (nodes_of left)
    file_left l file =
        let some = has_link l file in
        let one = times_taken name n m.dir.body m.entry in
        let gone : (lighter m.header).links + times_in n m.dir.body ≡ m.header.links + times_in n (without_entry name m.dir.body) = grind (arith, nat_tests) in
        left_by lighter (file_unlinked m.header file) (file_linked w d n (without_entry name) lighter m.dir m.header m.is_dir m.is_header file less (λ h. (refl, refl)) gone l)

    dir_left : Linked (nodes_of w) → is_dir m.header.kind ≡ true → Linked (nodes_of left)
    dir_left l dir =
        let one = times_taken name n m.dir.body m.entry in
        let kind = dir_kind m.header.kind dir in
        left_by orphaned (dir_unlinked m.header dir)
        (dir_linked w d n (without_entry name) orphaned m.dir m.header m.is_dir m.is_header kind (m.empty kind) less.times (λ k e. lists_before name k m.dir.body e) (omega arith) (λ h. (refl, refl)) refl l)

    pub left_linked : Linked (nodes_of w) → Linked (nodes_of left)
    left_linked l = elim (cases_Bool (is_dir m.header.kind)) [ inl e ↦ dir_left l e | inr e ↦ file_left l e ]

    -- what was named keeps its parent, or is no entry any more and has none
    may_move : Linked (nodes_of w) → MayMove cut cut.nodes n (unlinked m.header).parent m.header.parent
    may_move l = elim (cases_Bool (is_dir m.header.kind)) [
      | inl e ↦
          let none : (unlinked m.header).parent ≡ None = ap (λ (h : Header). h.parent) (dir_unlinked m.header e) in
          inr (cut_unlisted w d name n m.dir m.is_dir m.entry ((l.nodes n m.header m.is_header).once (dir_kind m.header.kind e)), λ p is. absurd (cc (none, is)))
      | inr e ↦ inl (ap (λ (h : Header). h.parent) (file_unlinked m.header e))
    ]

    head_proper : Linked (nodes_of w) → Proper cut (EditHeader n unlinked)
    head_proper l h is = let same : m.header ≡ h = cc (still, is) in subst (λ (k : Header). ((unlinked k).kind ≡ k.kind) × MayMove cut cut.nodes n (unlinked k).parent k.parent) same (refl, may_move l)

  -- a task of S may take an entry out of a directory whose entries S sees
  pub unlinking_piece : ((k : ServerKind) → GoodBehaviour (behaviour_of k)) → {t : ℕ} {T : Part → Type 0} {w : World} → Stands w → MayRemove w d name n → T (BodyOf d) → T (EmptyOf d) → T (AttrOf n) → Recounts T w n unlinked
      → ((S : ℕ → Bool) → S t ≡ true → Sees S w (BodyOf d) × Seen S w n) → Piece t T w w unlinking
  unlinking_piece good {t} {T} {w} s m body empty attr counts sees = record {
    within = ((body, inl empty), ((attr, recounts_body T w d (without_entry name) n unlinked counts), tt));
    proper = (cut_proper w s.coherent d name, λ one. (head_proper w s.coherent m s.linked, λ two. tt));
    linked = left_linked w s.coherent m s.linked;
    filled = filled_append cutting (EditHeader n unlinked ∷ []) w (filled_removed good w d name) (filled_header (apply_all cutting w) n unlinked (λ h. refl) (tree_header (apply_all cutting w) n unlinked m.tree)) s.filled;
    held = s.held;
    may = λ S ours. ((inr (inl (sees S ours).0), λ b other m is e. inl (entry_of_before name other m b (distinct_at w s.coherent d b is) e)), ((λ h at. unlinked_less S w h, inr (inl (sees S ours).1)), tt));
  }
