-- The laws of renames.
use Rattle.std.proofs.Common.{◌≡◌, ◌≢◌, ◌⊎◌, ◌∙◌, ℕ, ◌&&◌, ◌||◌, not, Bool, true, false, true≢false, if◌then◌else◌, List, [], ◌++◌, Option, Some, None, refl, sym, subst, inl, inr, ap, ap₂}
use Rattle.std.specs.Prelude.{Result, Ok, is_some}
use Rattle.std.specs.Option.{option_map}
use Rattle.hurd_machine.proofs.Common.{AnEmpty, AttrOf, Body, BodyOf, Change, Coherent, Dir, EACCES, EBUSY, EDIED, EINVAL, EISDIR, ENOENT, ENOTDIR, ENOTEMPTY, EROFS, EXDEV, EditBody, EmptyOf, Errno, Header, LeadsUp, Linked, Listing, Name, Named, Node, Part, Plan, Planned, Seen, Sees, ServerInfo, Sound, World, active_at, answered, apply, apply_all, are_kin, body_at, both_asks, entry_of, get, header_at, home_at, info_at, is_dir, is_empty_dir, is_removed, less_entry, lists_at, may, renames_at, same_name, tree_by, unlinked, with_body, with_header, without_entry}
use Rattle.std.proofs.lemmas.Bool.{and_parts, not-true}
use Rattle.hurd_creds.proofs.NameLaws.{same_or_apart, apart_if_not_same, same_name-apart, edit_apart}
use Rattle.hurd_trans_iface.specs.Nodes.{Entry}
use Rattle.hurd_creds.specs.Names.{is_one}
use Rattle.hurd_trans_iface.proofs.Goods.{good}
use Rattle.hurd_machine.specs.declared.call.Reply.TheVariants.{Done}
use Rattle.hurd_nodes.specs.Shown.{rename_by, rename_edits_at}
use Rattle.hurd_machine.specs.World.{nodes_of}
use Rattle.hurd_machine.proofs.Nodes.{header_in, body_in, node_of_header, edit_keeps, edit_reads, header-with_header, header-with_body, body-with_header, body-with_body}
use Rattle.hurd_machine.proofs.Views.{Agree, header_same, home_same, active_same, body_same}
use Rattle.hurd_machine.proofs.Coherence.{entry_lists}
use Rattle.hurd_machine.proofs.Frame.{Full}
use Rattle.hurd_machine.proofs.Links.{leads_unless, listing_of}
use Rattle.hurd_machine.specs.Touched.{OnLinks}
use Rattle.hurd_machine.proofs.Lasts.{recounts_unlinked}
use Rattle.hurd_machine.proofs.Linking.{kin_are}
use Rattle.hurd_machine.proofs.Removals.{MayRemove, unlinking, distinct_at, left_linked, unlinking_piece}
use Rattle.hurd_machine.proofs.Renames.{MayGo, may_go, going, taken_none, taken_other, going_piece}
use Rattle.hurd_machine.proofs.Asks.{IsPlain, info_alike, is_root_same, on_ok, given_ok, first_ok, on_same, given_same, first_same, on_plain, given_plain, first_plain, ok_plain, answered_same, answered_plain, done_plain}
use Rattle.hurd_machine.proofs.CallLaws.{CallLaws, answered_piece}
use Rattle.hurd_core.specs.Core.{Does, settled_edits}
use Rattle.hurd_core.proofs.PlanLaws.{does-planned, planned-then}
use Rattle.hurd_dirs.specs.declared.rename.Renaming.{Renaming}
use Rattle.hurd_dirs.specs.Entry.{name_asks, may_change, may_take}
use Rattle.hurd_dirs.specs.Remove.{is_empty_at}
use Rattle.hurd_dirs.specs.Rename.{parent_in, is_inside, trees_ask, leaves_asks, gives_way, old_asks, rename_asks, moves, renames, plan_rename, touches_rename}
use Rattle.hurd_dirs.proofs.EntryLaws.{IsOpenTree, open_tree, dir_kind, name_plain, named_seen, entries_seen, child_seen, child_empty}
use Rattle.hurd_machine.proofs.BothLaws.{AreNamed, are_named, both_same, both_plain}
use Rattle.hurd_dirs.proofs.RemoveLaws.{kin_itself, empty_none, empty_by, removable}
use Rattle.hurd_dirs.proofs.ClimbLaws.{inside_same, inside_around, inside_fewer}
use Rattle.hurd_machine.proofs.Piece.{Stands, Piece, Whole, stands, whole_none, piece_then, settled}

-- what an answer shows

-- two directories of one tree that may be searched and written
record AreTrees (w : World) (a b : Named) : Type 0 where
  from : IsOpenTree w a
  to : IsOpenTree w b
  kin : home_at w a.right.node ≡ home_at w b.right.node

are_trees : (w : World) (a b : Named) (u : Unit {0}) → trees_ask w a b ≡ Ok u → AreTrees w a b
are_trees w a b u is =
    let d = given_ok ENOTDIR (is_dir a.header.kind && is_dir b.header.kind) _ u is in
    let t = given_ok EROFS (tree_by (info_at w a.right.node) && tree_by (info_at w b.right.node)) _ u d.1 in
    let k = given_ok EXDEV (are_kin (home_at w a.right.node) (home_at w b.right.node)) _ u t.1 in
    let m = given_ok EACCES (may_change a && may_change b) _ u k.1 in
    let dirs = and_parts _ _ d.0 in
    let trees = and_parts _ _ t.0 in
    let both = and_parts _ _ m.0 in
    record { from = open_tree w a dirs.0 trees.0 both.0; to = open_tree w b dirs.1 trees.1 both.1; kin = sym (kin_are (home_at w a.right.node) (home_at w b.right.node) k.0) }

-- what goes, to a directory that isn't removed, and isn't below it
record Leaves (w : World) (name : List ℕ) (a b : Named) (l : Name × Header) : Type 0 where
  here : not (is_removed w b.right.node b.header) ≡ true
  entry : entry_of name (body_at w a.right.node) ≡ Some l.0
  is_header : header_at w l.0 ≡ Some l.1
  kin : are_kin (home_at w a.right.node) (home_at w l.0) ≡ true
  out : not (is_dir l.1.kind && is_inside w l.0 b.right.node) ≡ true

leaves : (w : World) (name : List ℕ) (a b : Named) (l : Name × Header) → leaves_asks w name a b ≡ Ok l → Leaves w name a b l
leaves w name a b l is =
    let h = given_ok ENOENT (not (is_removed w b.right.node b.header)) _ l is in
    let e = on_ok ENOENT (entry_of name (body_at w a.right.node)) _ l h.1 in
    let k = on_ok EDIED (header_at w e.0) _ l e.2 in
    let s = given_ok EDIED (are_kin (home_at w a.right.node) (home_at w e.0)) _ l k.2 in
    let t = given_ok EACCES (may_take a.right.ids a.header k.0) _ l s.1 in
    let i = given_ok EINVAL (not (is_dir k.0.kind && is_inside w e.0 b.right.node)) _ l t.1 in
    let same : (e.0, k.0) ≡ l = cc (i.1) in
    rw (← same) (record { here = h.0; entry = e.1; is_header = k.1; kin = s.0; out = i.0 })

-- what gives way: if it is a directory, it has no entries
record Way (w : World) (d m : Name) : Type 0 where
  header : Header
  is_header : header_at w m ≡ Some header
  kin : are_kin (home_at w d) (home_at w m) ≡ true
  empty : (not (is_dir header.kind) || is_empty_at (body_at w m)) ≡ true

way : (w : World) (b : Named) (k : Header) (m : Name) (u : Unit {0}) → gives_way w b k m ≡ Ok u → Way w b.right.node m
way w b k m u is =
    let j = on_ok EDIED (header_at w m) _ u is in
    let s = given_ok EDIED (are_kin (home_at w b.right.node) (home_at w m)) _ u j.2 in
    let t = given_ok EACCES (may_take b.right.ids b.header j.0) _ u s.1 in
    let o = given_ok ENOTDIR (not (is_dir k.kind) || is_dir j.0.kind) _ u t.1 in
    let i = given_ok EISDIR (is_dir k.kind || not (is_dir j.0.kind)) _ u o.1 in
    let x = given_ok EBUSY (not (is_dir j.0.kind && is_some (active_at w m))) _ u i.1 in
    let e = given_ok ENOTEMPTY (not (is_dir j.0.kind) || is_empty_at (body_at w m)) _ u x.1 in
    record { header = j.0; is_header = j.1; kin = s.0; empty = e.0 }

record Asked (w : World) (t p q : ℕ) (name new : List ℕ) (a b : Named) (l : Name × Header) : Type 0 where
  named : AreNamed w t p q (a, b)
  trees : AreTrees w a b
  leaving : Leaves w name a b l
  old : old_asks w b l (entry_of new (body_at w b.right.node)) ≡ Ok tt

abbrev renaming : World → List ℕ → Named → Named → Name × Header → Renaming
renaming w new a b l = record { from = a.right.node; to = b.right.node; node = l.0; old = entry_of new (body_at w b.right.node) }

-- what holds of all that is answered
asked_all : (w : World) (t p q : ℕ) (name new : List ℕ) (P : Renaming → Type 0) → ((a b : Named) (l : Name × Header) → Asked w t p q name new a b l → P (renaming w new a b l)) → (r : Renaming) → rename_asks w t p name q new ≡ Ok r → P r
asked_all w t p q name new P each r is =
    let a = first_ok (both_asks w t p q) _ r is in
    let u = first_ok (name_asks name) _ r a.2 in
    let v = first_ok (name_asks new) _ r u.2 in
    let d = first_ok (trees_ask w a.0.0 a.0.1) _ r v.2 in
    let l = first_ok (leaves_asks w name a.0.0 a.0.1) _ r d.2 in
    let o = first_ok (old_asks w a.0.1 l.0 (entry_of new (body_at w a.0.1.right.node))) _ r l.2 in
    let same : renaming w new a.0.0 a.0.1 l.0 ≡ r = cc (o.2) in
    subst P same (each a.0.0 a.0.1 l.0 (record { named = are_named w t p q a.0 a.1; trees = are_trees w a.0.0 a.0.1 d.0 d.1; leaving = leaves w name a.0.0 a.0.1 l.0 l.1; old = o.1 }))

-- what holds of each list of changes that it may make
by_old : (w : World) (a b : Named) (l : Name × Header) (name new : List ℕ) (P : List Change → Type 0) → let r : Renaming = renaming w new a b l in
    old_asks w b l r.old ≡ Ok tt → (is_one r.node r.old ≡ true → P []) → (r.old ≡ None → P (moves name new r None))
    → ((m : Name) → r.old ≡ Some m → r.node ≢ m → Way w b.right.node m → P (moves name new r (Some m))) → P (renames name new r r.old)
by_old w a b l name new P asks nothing none some = go r.old refl asks
  where
    r : Renaming
    r = renaming w new a b l

    by : (m : Name) → r.old ≡ Some m → (s : Bool) → same_name r.node m ≡ s → (if s then Ok tt else gives_way w b l.1 m) ≡ Ok tt → P (if s then [] else moves name new r (Some m))
    by m e true es asks = nothing (ap (is_one r.node) e ∙ es)
    by m e false es asks = some m e (apart_if_not_same r.node m es) (way w b l.1 m tt asks)

    go : (o : Option Name) → r.old ≡ o → old_asks w b l o ≡ Ok tt → P (renames name new r o)
    go None e asks = none e
    go (Some m) e asks = by m e (same_name r.node m) refl asks

-- what gives way is unlinked first, and nothing else of the world goes with it

empty_dir : (k : Header) (o : Option Body) → (not (is_dir k.kind) || is_empty_at o) ≡ true → k.kind ≡ Dir → (m : Name) → lists_at m o ≡ false
empty_dir k o h dir m = empty_none o m (ap (λ kind. not (is_dir kind) || is_empty_at o) (sym dir) ∙ h)

module _ (w : World) (e : Name) (new : List ℕ) (m : Name) where
  abbrev unlinked_world : World
  unlinked_world = apply_all (unlinking e new m) w

  abbrev cut_world : World
  cut_world = apply (EditBody e (without_entry new)) w

  left_header : (n : Name) → n ≢ m → header_at unlinked_world n ≡ header_at w n
  left_header n apart =
      ap header_in (edit_apart cut_world.nodes m (with_header unlinked) n apart)
      ∙ edit_keeps header_in (with_body (without_entry new)) (header-with_body (without_entry new)) w.nodes e n

  left_here : body_at unlinked_world e ≡ option_map (without_entry new) (body_at w e)
  left_here =
      edit_keeps body_in (with_header unlinked) (body-with_header unlinked) cut_world.nodes m e
      ∙ edit_reads body_in (option_map (without_entry new)) (with_body (without_entry new)) (body-with_body (without_entry new)) w.nodes e

  left_apart : (d : Name) → d ≢ e → body_at unlinked_world d ≡ body_at w d
  left_apart d apart =
      edit_keeps body_in (with_header unlinked) (body-with_header unlinked) cut_world.nodes m d ∙ ap body_in (edit_apart w.nodes e (with_body (without_entry new)) d apart)

  -- each node keeps its parent, or loses it
  left_parent : (d : Name) → (parent_in (header_at unlinked_world d) ≡ parent_in (header_at w d)) ⊎ (parent_in (header_at unlinked_world d) ≡ None)
  left_parent d = elim (same_or_apart d m) [
    | inl same ↦ rw (same, read) (lost (header_at w m))
    | inr apart ↦ inl (ap parent_in (left_header d apart))
  ]
    where
      read : header_at unlinked_world m ≡ option_map unlinked (header_at w m)
      read =
          edit_reads header_in (option_map unlinked) (with_header unlinked) (header-with_header unlinked) cut_world.nodes m
          ∙ ap (option_map unlinked) (edit_keeps header_in (with_body (without_entry new)) (header-with_body (without_entry new)) w.nodes e m)

      orphaned : (p : Option Name) (b : Bool) → ((if b then None else p) ≡ p) ⊎ ((if b then None else p) ≡ None)
      orphaned p true = inr refl
      orphaned p false = inl refl

      lost : (o : Option Header) → (parent_in (option_map unlinked o) ≡ parent_in o) ⊎ (parent_in (option_map unlinked o) ≡ None)
      lost None = inl refl
      lost (Some h) = orphaned h.parent (is_dir h.kind)

-- in a world in which it is asked
module _ (w : World) (t p q : ℕ) (name new : List ℕ) (a b : Named) (l : Name × Header) (f : Asked w t p q name new a b l) where
  abbrev d : Name
  d = a.right.node

  abbrev e : Name
  e = b.right.node

  abbrev n : Name
  n = l.0

  abbrev k : Header
  k = l.1

  not_inside : k.kind ≡ Dir → is_inside w n e ≡ false
  not_inside dir = not-true (is_inside w n e) (ap (λ kind. not (is_dir kind && is_inside w n e)) (sym dir) ∙ f.leaving.out)

  module _ (c : Coherent w) (linked : Linked (nodes_of w)) where
    target : (es : List Entry) × (body_at w e ≡ Some (Listing es))
    target =
        let x = node_of_header (get w.nodes e) b.header f.named.other.is_header in
        let dir : is_dir x.0.header.kind ≡ true = ap (λ (h : Header). is_dir h.kind) x.2 ∙ ap is_dir f.trees.to.dir in
        let z = listing_of x.0.header x.0.body (c.tree.shapes e x.0 x.1) dir in
        (z.0, ap body_in x.1 ∙ ap (λ y. Some y) z.1)

    leads : LeadsUp (nodes_of w) e
    leads = leads_unless w linked e b.header f.named.other.is_header f.leaving.here

    -- where nothing is under the new name
    goes : entry_of new (body_at w e) ≡ None → MayGo w d name n e new
    goes absent = let z = target in may_go w d name n e new k z.0 f.leaving.entry f.leaving.is_header z.1 f.trees.kin absent leads (λ dir. inside_around w n e (not_inside dir) leads)

    -- where something does that gives way
    module _ (m : Name) (old : entry_of new (body_at w e) ≡ Some m) (other : n ≢ m) (gives : Way w e m) where
      old_listed : lists_at m (body_at w e) ≡ true
      old_listed = entry_lists new (body_at w e) m old

      removes : MayRemove w e new m
      removes = removable w c e b.header new m gives.header f.named.other.is_header f.trees.to.tree old gives.is_header (empty_dir gives.header (body_at w m) gives.empty)

      abbrev left : World
      left = unlinked_world w e new m

      left_links : Linked (nodes_of left)
      left_links = left_linked e new m w c removes linked

      -- the directory itself isn't what gives way: it has an entry
      apart : e ≢ m
      apart same =
          let one : gives.header ≡ b.header = cc (gives.is_header, f.named.other.is_header, same) in
          let none : lists_at m (body_at w m) ≡ false = empty_dir gives.header (body_at w m) gives.empty (ap (λ (h : Header). h.kind) one ∙ f.trees.to.dir) m in
          true≢false (sym old_listed ∙ rw same none)

      left_leads : LeadsUp (nodes_of left) e
      left_leads = leads_unless left left_links e b.header (left_header w e new m e apart ∙ f.named.other.is_header) f.leaving.here

      left_entry : entry_of name (body_at left d) ≡ Some n
      left_entry = elim (same_or_apart d e) [
        | inl same ↦ rw same (ap (entry_of name) (left_here w e new m) ∙ taken_other name new n m other (body_at w e) (rw same at f.leaving.entry) old)
        | inr out ↦ ap (entry_of name) (left_apart w e new m d out) ∙ f.leaving.entry
      ]

      left_goes : MayGo left d name n e new
      left_goes =
          let z = target in
          may_go left d name n e new k (less_entry new z.0) left_entry (left_header w e new m n other ∙ f.leaving.is_header)
          (left_here w e new m ∙ ap (option_map (without_entry new)) z.1) f.trees.kin
          (ap (entry_of new) (left_here w e new m) ∙ taken_none new (body_at w e) (distinct_at w c e)) left_leads
          (λ dir. inside_around left n e (inside_fewer w left (left_parent w e new m) n e (not_inside dir)) left_leads)

-- all that it asks is the same in worlds that agree

module _ {S : ℕ → Bool} {v w : World} (agree : Agree S v w) (c : Coherent v) (t : ℕ) (ours : S t ≡ true) (p q : ℕ) (a b : Named) (named : AreNamed v t p q (a, b)) where
  from_seen : Seen S v a.right.node
  from_seen = named_seen t ours p a named.one

  to_seen : Seen S v b.right.node
  to_seen = named_seen t ours q b named.other

  trees_same : trees_ask w a b ≡ trees_ask v a b
  trees_same =
      given_same _ _ _ _ _ refl (λ dirs.
      given_same _ _ _ _ _ (ap₂ (λ (x y : Bool). x && y) (info_alike agree a.right.node tree_by (λ i. refl) from_seen) (info_alike agree b.right.node tree_by (λ i. refl) to_seen)) (λ trees.
      given_same _ _ _ _ _ (ap₂ are_kin (home_same agree a.right.node from_seen) (home_same agree b.right.node to_seen)) (λ kin. refl)))

  module _ (trees : AreTrees v a b) (name new : List ℕ) where
    from_sees : Sees S v (BodyOf a.right.node)
    from_sees = entries_seen t ours p a named.one trees.from

    to_sees : Sees S v (BodyOf b.right.node)
    to_sees = entries_seen t ours q b named.other trees.to

    leaves_same : leaves_asks w name a b ≡ leaves_asks v name a b
    leaves_same =
        given_same _ (not (is_removed v b.right.node b.header)) (not (is_removed w b.right.node b.header)) _ _ (rw (is_root_same agree b.right.node to_seen) refl) (λ here.
        on_same _ _ _ _ _ (ap (entry_of name) (body_same agree a.right.node from_sees)) (λ n entry.
        on_same _ _ _ _ _ (header_same agree n (child_seen t ours p a named.one trees.from name n entry)) (λ k at.
        given_same _ _ _ _ _ (ap₂ are_kin (home_same agree a.right.node from_seen) (home_same agree n (child_seen t ours p a named.one trees.from name n entry))) (λ kin.
        given_same _ _ _ _ _ refl (λ take.
        given_same _ _ _ _ _ (ap (λ z. not (is_dir k.kind && z)) (inside_same agree n b.right.node to_seen)) (λ out. refl))))))

    empty_same : (m : Name) (j : Header) → entry_of new (body_at v b.right.node) ≡ Some m → header_at v m ≡ Some j → (not (is_dir j.kind) || is_empty_at (body_at w m)) ≡ (not (is_dir j.kind) || is_empty_at (body_at v m))
    empty_same m j entry at = by (is_dir j.kind) refl
      where
        by : (z : Bool) → is_dir j.kind ≡ z → (not z || is_empty_at (body_at w m)) ≡ (not z || is_empty_at (body_at v m))
        by false dir = refl
        by true dir =
            let sees : Sees S v (EmptyOf m) = child_empty t ours q b named.other trees.to c new m j entry at (dir_kind j.kind dir) in
            let same : AnEmpty (option_map is_empty_dir (body_at w m)) ≡ AnEmpty (option_map is_empty_dir (body_at v m)) = agree.parts (EmptyOf m) sees in
            empty_by (body_at v m) (body_at w m) cc

    way_same : (k : Header) (m : Name) → entry_of new (body_at v b.right.node) ≡ Some m → gives_way w b k m ≡ gives_way v b k m
    way_same k m entry =
        let seen : Seen S v m = child_seen t ours q b named.other trees.to new m entry in
        on_same _ _ _ _ _ (header_same agree m seen) (λ j at.
        given_same _ _ _ _ _ (ap₂ are_kin (home_same agree b.right.node to_seen) (home_same agree m seen)) (λ kin.
        given_same _ _ _ _ _ refl (λ take.
        given_same _ _ _ _ _ refl (λ over.
        given_same _ _ _ _ _ refl (λ under.
        given_same _ _ _ _ _ (ap (λ o. not (is_dir j.kind && is_some o)) (active_same agree m seen)) (λ idle.
        given_same _ _ _ _ _ (empty_same m j entry at) (λ empty. refl)))))))

    old_same : (l : Name × Header) → old_asks w b l (entry_of new (body_at w b.right.node)) ≡ old_asks v b l (entry_of new (body_at v b.right.node))
    old_same l = ap (λ o. old_asks w b l (entry_of new o)) (body_same agree b.right.node to_sees) ∙ by (entry_of new (body_at v b.right.node)) refl
      where
        by : (o : Option Name) → entry_of new (body_at v b.right.node) ≡ o → old_asks w b l o ≡ old_asks v b l o
        by None e = refl
        by (Some m) e = ap (λ r. if same_name l.0 m then Ok tt else r) (way_same l.1 m e)

module _ (t p q : ℕ) (name new : List ℕ) where
  rename_same : {S : ℕ → Bool} {v w : World} → Agree S v w → Coherent v → S t ≡ true → rename_asks w t p name q new ≡ rename_asks v t p name q new
  rename_same {S} {v} {w} agree c ours =
      first_same _ _ _ _ (both_same agree t ours p q) (λ a is.
      let named = are_named v t p q a is in
      first_same _ _ _ _ refl (λ u good.
      first_same _ _ _ _ refl (λ u' good'.
      first_same _ _ _ _ (trees_same agree c t ours p q a.0 a.1 named) (λ d trees.
      let found = are_trees v a.0 a.1 d trees in
      first_same _ _ _ _ (leaves_same agree c t ours p q a.0 a.1 named found name new) (λ l leaving.
      first_same _ _ _ _ (old_same agree c t ours p q a.0 a.1 named found name new l) (λ o old.
      ap (λ body. let r : Renaming = record { from = a.0.right.node; to = a.1.right.node; node = l.0; old = entry_of new body } in Ok r)
      (body_same agree a.1.right.node (to_sees agree c t ours p q a.0 a.1 named found name new))))))))

  old_plain : (w : World) (b : Named) (l : Name × Header) (o : Option Name) → IsPlain (old_asks w b l o)
  old_plain w b l None = ok_plain tt
  old_plain w b l (Some m) = by (same_name l.0 m)
    where
      by : (s : Bool) → IsPlain (if s then Ok tt else gives_way w b l.1 m)
      by true = ok_plain tt
      by false = search (on_plain, given_plain, ok_plain) depth 12

  rename_plain : (w : World) → IsPlain (rename_asks w t p name q new)
  rename_plain w = search (first_plain, on_plain, given_plain, both_plain, name_plain, old_plain, ok_plain) depth 24

  abbrev touched : World → Renaming → Part → Type 0
  touched w r x = ((x ≡ BodyOf r.from) ⊎ (x ≡ EmptyOf r.from)) ⊎ (((x ≡ BodyOf r.to) ⊎ (x ≡ EmptyOf r.to)) ⊎ ((x ≡ AttrOf r.node) ⊎ ((m : Name) × (r.old ≡ Some m) × ((x ≡ AttrOf m) ⊎ OnLinks w m 1 x))))

  rename_whole : (w : World) → Sound w → (r : Renaming) → rename_asks w t p name q new ≡ Ok r → Whole t (Full w t (touched w r)) w w (renames name new r r.old)
  rename_whole w s = asked_all w t p q name new (λ r. Whole t (Full w t (touched w r)) w w (renames name new r r.old)) each
    where
      c : Coherent w
      c = s.coherent

      each : (a b : Named) (l : Name × Header) → Asked w t p q name new a b l → let r : Renaming = renaming w new a b l in Whole t (Full w t (touched w r)) w w (renames name new r r.old)
      each a b l f = by_old w a b l name new (Whole t T w w) f.old (λ there. whole_none s) (λ none. settled goings (tt, (tt, (tt, tt))) (stands s) (onward (stands s) (goes w t p q name new a b l f c s.linked none) (λ h at. at))) (λ m old other gives.
          settled (unlinking r.to new m ++ goings) (tt, (tt, (tt, (tt, (tt, tt))))) (stands s)
          (piece_then (unlinking r.to new m) goings (tt, (tt, tt)) (stands s) (unlinking_piece r.to new m good (stands s) (removes w t p q name new a b l f c s.linked m old other gives) body empty (inl (inr (inr (inr (m, old, inl refl))))) (recounts_unlinked {T = T} w m (λ x on. inl (inr (inr (inr (m, old, inr on)))))) (λ S ours. (to S ours, replaced S ours m old)))
          (λ d. onward d (left_goes w t p q name new a b l f c s.linked m old other gives) (λ h at. sym (left_header w r.to new m r.node other) ∙ at))))
        where
          r : Renaming
          r = renaming w new a b l

          T : Part → Type 0
          T = Full w t (touched w r)

          goings : List Change
          goings = going r.from name r.node r.to new

          body : T (BodyOf r.to)
          body = inl (inr (inl (inl refl)))

          empty : T (EmptyOf r.to)
          empty = inl (inr (inl (inr refl)))

          to : (S : ℕ → Bool) → S t ≡ true → Sees S w (BodyOf r.to)
          to S ours = entries_seen t ours q b f.named.other f.trees.to

          replaced : (S : ℕ → Bool) → S t ≡ true → (m : Name) → r.old ≡ Some m → Seen S w m
          replaced S ours m old = child_seen t ours q b f.named.other f.trees.to new m old

          -- in a world where the node has the header that it had
          onward : {x : World} → Stands x → MayGo x r.from name r.node r.to new → ((h : Header) → header_at x r.node ≡ Some h → header_at w r.node ≡ Some h) → Piece t T w x goings
          onward st may was = going_piece r.from name r.node r.to new good st may (inl (inl (inl refl))) (inl (inl (inr refl))) (inl (inr (inr (inl refl)))) body empty (λ S ours. (
            entries_seen t ours p a f.named.one f.trees.from,
            child_seen t ours p a f.named.one f.trees.from name r.node f.leaving.entry,
            (to S ours).0,
            λ h at dir. child_empty t ours p a f.named.one f.trees.from c name l.0 h f.leaving.entry (was h at) (dir_kind h.kind dir),
          ))

  pub rename_laws : CallLaws t (λ w. plan_rename w t p name q new) (λ w. touches_rename w t p name q new)
  rename_laws = record {
    piece = λ w s. answered_piece s (rename_asks w t p name q new) _ _ (λ r is. rename_whole w s r is);
    same = λ S v w c d a ours. answered_same _ _ _ _ (rename_same a c ours) (λ r is. refl);
    plain = λ w. answered_plain _ _ (rename_plain w) (λ r is. done_plain Done refl);
  }

  -- the core does what is asked

  abbrev IsDone : World → Renaming → Type 0
  IsDone w r = (renames_at w r.from name r.to ≡ Ok tt) × (settled_edits (rename_edits_at r.from name r.to new (nodes_of w)) ≡ renames name new r r.old)

  module _ (w : World) (a b : Named) (l : Name × Header) (f : Asked w t p q name new a b l) where
    abbrev r : Renaming
    r = renaming w new a b l

    own : are_kin (home_at w r.from) (home_at w r.from) ≡ true
    own = kin_itself (home_at w r.from) (home_at w r.node) f.leaving.kin

    to : are_kin (home_at w r.from) (home_at w r.to) ≡ true
    to = sym (ap (are_kin (home_at w r.from)) f.trees.kin) ∙ own

    may_rename : renames_at w r.from name r.to ≡ Ok tt
    may_rename =
        ap (λ k. rename_by name k (info_at w r.from) (get w.nodes r.from) (get w.nodes r.to)) to
        ∙ go (info_at w r.from) (get w.nodes r.from) (get w.nodes r.to) f.named.one.is_header f.trees.from.tree f.named.other.is_header f.leaving.entry
      where
        go : (i : Option ServerInfo) (o u : Option Node) → header_in o ≡ Some a.header → tree_by i ≡ true → header_in u ≡ Some b.header → entry_of name (body_in o) ≡ Some r.node → rename_by name true i o u ≡ Ok tt
        go (Some i) (Some x) (Some y) eh et eu en =
            let one : x.header ≡ a.header = cc (eh) in
            let two : y.header ≡ b.header = cc (eu) in
            rw (one, two, f.trees.from.dir, et, f.trees.to.dir, en) refl
        go _ _ _ eh et eu en = absurd (cc)

    -- all edits are of the directory's server, which makes all of them
    done_as_asked : is_one r.node r.old ≡ false → IsDone w r
    done_as_asked other = (
      may_rename,
      by_old w a b l name new (λ cs. settled_edits (rename_edits_at r.from name r.to new (nodes_of w)) ≡ cs) f.old (λ there. absurd (true≢false (sym there ∙ other)))
          (λ none. rw (f.leaving.entry, none, own, to, f.leaving.kin) refl)
          (λ m some apart gives.
          let kin : are_kin (home_at w r.from) (home_at w m) ≡ true = ap (λ z. are_kin z (home_at w m)) f.trees.kin ∙ gives.kin in
          rw (f.leaving.entry, some, same_name-apart r.node m apart, own, to, f.leaving.kin, kin) refl),
    )

  pub rename-goes : (w : World) (r : Renaming) → rename_asks w t p name q new ≡ Ok r → is_one r.node r.old ≡ false → (x : Result (Unit {0}) Errno) (y : World)
      → Does w (renames_at w r.from name r.to) (λ u. settled_edits (rename_edits_at r.from name r.to new (nodes_of w))) (λ u. tt {0}) x y → Planned w (plan_rename w t p name q new) (λ (u : Unit {0}). Done) x y
  unfolding answered
  rename-goes w r is other x y d =
      let done = asked_all w t p q name new (λ r. is_one r.node r.old ≡ false → IsDone w r) (done_as_asked w) r is other in
      let plan : Renaming → Plan = λ r. record { reply = Done; changes = renames name new r r.old } in
      let planned = does-planned w (renames_at w r.from name r.to) _ _ (λ u. plan r) (λ (u : Unit {0}). Done) x y (λ u. (refl, sym done.1)) (λ u. refl) d in
      planned-then w (rename_asks w t p name q new) plan (λ (u : Unit {0}). Done) r x y is (rw done.0 at planned)
