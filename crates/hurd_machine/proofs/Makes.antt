-- A node made in a directory, with its entry there, as a piece of any call.
use Rattle.std.proofs.Common.{if◌then◌else◌, ◌≡◌, ◌≢◌, ◌⊎◌, ◌∙◌, ℕ, ◌+◌, Bool, true, false, not, cond, is_some, List, [], ◌∷◌, ◌++◌, Option, Some, None, sym, refl, ap, subst, inl, inr, true≢false, arith}
use Rattle.std.specs.Prelude.{Result, Ok, Err}
use Rattle.std.specs.Option.{option_map}
use Rattle.hurd_machine.proofs.Common.{AreDistinct, Below, Body, BodyOf, Change, Coherent, Content, Dir, EEXIST, ENOTDIR, EOPNOTSUPP, EROFS, EditBody, EmptyOf, Errno, File, GoodBehaviour, HasDistinctNames, Header, IsFilled, IsShaped, Kind, LeadsUp, Listing, MakeNode, Name, NewNode, Node, OfNode, Part, Seen, ServerInfo, Sound, Task, World, apply, apply_all, body_at, bytes_eq, entry_in, entry_of, fresh, get, header_at, home_at, info_at, info_in, is_dir, is_entered, is_made, is_server_root, is_taken, keeps_tree, lists, lists_at, made_node, makes_at, named_by, new_dir, new_file, new_site, server_at, task_at, times_in, times_listed, tree_by, with_body, with_entry, counts_for, unlinked, with_header}
use Rattle.hurd_nodes.proofs.Sites.{home-here, home-apart}
use Rattle.hurd_creds.proofs.NameLaws.{equal_if_same, get_here, get_apart, same_or_apart}
use Rattle.hurd_trans_iface.specs.Nodes.{Entry}
use Rattle.hurd_trans_iface.specs.Answers.{node_of_kind}
use Rattle.hurd_trans_iface.proofs.BodyLaws.{tree_has, tree_holds}
use Rattle.hurd_trans_iface.specs.Kinds.{behaviour_of}
use Rattle.hurd_trans_iface.specs.declared.begun.ServerKind.{ServerKind}
use Rattle.hurd_nodes.specs.Shown.{made_by}
use Rattle.hurd_ports.specs.Steps.{named}
use Rattle.hurd_machine.specs.World.{nodes_of}
use Rattle.hurd_machine.proofs.Nodes.{header_in, body_in, header-with_body, body-with_body, edit_keeps, edit_reads}
use Rattle.hurd_machine.proofs.Tasks.{edit_here}
use Rattle.hurd_machine.proofs.Coherence.{IsNext, IsEntry, GoodNode, HasNoEntries, Proper, AllProper, home_old, no_node, no_home, entry_stands, next_not, next_apart, home_server, none_if}
use Rattle.hurd_machine.proofs.Naming.{named_below}
use Rattle.hurd_machine.proofs.Frame.{Full}
use Rattle.hurd_machine.proofs.Confine.{SeenOrNew}
use Rattle.hurd_machine.proofs.Permits.{entry_may, later_new, entry_added}
use Rattle.hurd_machine.proofs.Filled.{filled_made, filled_entry}
use Rattle.hurd_machine.proofs.Listed.{times_edited}
use Rattle.hurd_machine.proofs.Links.{IsHung, HangsIn, Loosens, KeepsLinked, loosened, loose_any, tied, leads_grown, named_grown, times_new, times_entered, lists_entered, listing_of, relisted_entry, hung_as, lists_alike, times_apart}
use Rattle.hurd_machine.proofs.Opens.{own_task, fresh_new, fresh_next}
use Rattle.hurd_machine.proofs.Held.{held_all}
use Rattle.hurd_machine.proofs.Piece.{Whole, quiet}
use Rattle.hurd_nodes.proofs.PartLaws.{same_bool}
use Rattle.std.proofs.lemmas.Slice.Eq.{bytes_eq-Decides}
use Rattle.hurd_machine.proofs.Stays.{root_why}

-- a directory with one entry more

entry_shape : (name : List ℕ) (n : Name) (b : Body) (h : Header) → IsShaped h b → IsShaped h (with_entry name n b)
entry_shape name n (Listing es) h s = s
entry_shape name n (Content bs) h s = s

-- an entry afterwards was there, or is the new one
pub entry_lists_cases : (name : List ℕ) (n m : Name) (b : Body) → lists m (with_entry name n b) ≡ true → (lists m b ≡ true) ⊎ (n ≡ m)
entry_lists_cases name n m b h = elim (same_or_apart m n) [
  | inl same ↦ inr (sym same)
  | inr apart ↦ inl (sym (lists_alike m b (with_entry name n b) (times_apart name n m apart b)) ∙ h)
]

-- names stay distinct where the new one wasn't there

bytes_eq-turned : (a b : List ℕ) → bytes_eq a b ≡ bytes_eq b a
bytes_eq-turned a b =
    same_bool (bytes_eq a b) (bytes_eq b a) (λ h. (bytes_eq-Decides b a).1 (sym ((bytes_eq-Decides a b).0 h))) (λ h. (bytes_eq-Decides a b).1 (sym ((bytes_eq-Decides b a).0 h)))

none_added : (name other : List ℕ) (n : Name) (es : List Entry) → bytes_eq name other ≡ false → entry_in other es ≡ None → entry_in other (es ++ record { name = name; node = n } ∷ []) ≡ None
none_added name other n es apart none = none_if _ (λ m e. elim (entry_added name other n m es e) [ inl old ↦ cc (none, old) | inr new ↦ true≢false (sym new.0 ∙ apart) ])

-- a name that isn't there is no entry's
not_first : (name : List ℕ) (e : Entry) (es : List Entry) → entry_in name (e ∷ es) ≡ None → (bytes_eq e.name name ≡ false) × (entry_in name es ≡ None)
not_first name e es = go (bytes_eq e.name name)
  where
    go : (b : Bool) → cond b (Some e.node) (entry_in name es) ≡ None → (b ≡ false) × (entry_in name es ≡ None)
    go true h = absurd (cc)
    go false h = (refl, h)

distinct_added : (name : List ℕ) (n : Name) (es : List Entry) → entry_in name es ≡ None → AreDistinct es → AreDistinct (es ++ record { name = name; node = n } ∷ [])
distinct_added name n [] none names = (refl, tt)
distinct_added name n (e ∷ es) none names =
    let l = not_first name e es none in
    (none_added name e.name n es (bytes_eq-turned name e.name ∙ l.0) names.0, distinct_added name n es l.1 names.1)

entry_names : (name : List ℕ) (n : Name) (b : Body) → entry_of name (Some b) ≡ None → HasDistinctNames b → HasDistinctNames (with_entry name n b)
entry_names name n (Content bs) none names = tt
entry_names name n (Listing es) none names = distinct_added name n es none names

-- an entry may be added for a node that may be in the directory
pub entry_proper : (w : World) → Coherent w → (d : Name) (name : List ℕ) (n : Name) → entry_of name (body_at w d) ≡ None → IsEntry w d n → Proper w (EditBody d (with_entry name n))
entry_proper w c d name n absent new b is = record {
  shape = λ h. entry_shape name n b h;
  distinct = entry_names name n b (ap (entry_of name) (sym is) ∙ absent);
  entries = λ m e. elim (entry_lists_cases name n m b e) [
    | inl old ↦ entry_stands c d m (ap (lists_at m) is ∙ old)
    | inr same ↦ subst (IsEntry w d) same new
  ];
}

-- where a node may be made: a directory of a tree that has no such entry, if one is to name it

pub record MayMake (w : World) (d : Name) (entry : Option (List ℕ)) (kind : Kind) : Type 0 where
  pub info : ServerInfo
  pub is_info : info_at w d ≡ Some info
  pub node : Node
  pub is_node : get w.nodes d ≡ Some node
  pub dir : is_dir node.header.kind ≡ true
  pub tree : keeps_tree info.kind ≡ true
  pub free : is_taken entry node.body ≡ false
  pub kinds : is_made kind ≡ true

may_steps : (dir grows taken made : Bool) (u : Unit {0})
    → ◌≡◌ {A = Result (Unit {0}) Errno} (if not dir then Err ENOTDIR else if not grows then Err EROFS else if taken then Err EEXIST else if made then Ok tt else Err EOPNOTSUPP) (Ok u)
    → (dir ≡ true) × (grows ≡ true) × (taken ≡ false) × (made ≡ true)
may_steps true true false true u h = (refl, refl, refl, refl)
may_steps dir grows taken made u h = absurd (cc)

pub may_make : (w : World) (d : Name) (entry : Option (List ℕ)) (kind : Kind) (u : Unit {0}) → makes_at w d entry kind ≡ Ok u → MayMake w d entry kind
may_make w d entry kind u = go (info_at w d) (get w.nodes d) refl refl
  where
    go : (o : Option ServerInfo) (x : Option Node) → info_at w d ≡ o → get w.nodes d ≡ x → made_by entry kind o x ≡ Ok u → MayMake w d entry kind
    go (Some i) (Some x) is_info is_node h =
        let l = may_steps (is_dir x.header.kind) (keeps_tree i.kind) (is_taken entry x.body) (is_made kind) u h in
        record { info = i; is_info = is_info; node = x; is_node = is_node; dir = l.0; tree = l.1; free = l.2; kinds = l.3 }
    go i x is_info is_node h = absurd (cc)

-- no entry has the name
absent : (w : World) (d : Name) (name : List ℕ) (kind : Kind) → MayMake w d (Some name) kind → entry_of name (body_at w d) ≡ None
absent w d name kind m =
    ap (λ o. entry_of name (body_in o)) m.is_node ∙ none_if (entry_of name (Some m.node.body)) (λ n e. true≢false (sym (ap is_some e) ∙ m.free))

-- a node that may be made in a directory
record NewIn (w : World) (d : Name) (node : Node) : Type 0 where
  pub shape : IsShaped node.header node.body
  pub empty : HasNoEntries node.body
  pub parent : (p : Name) → node.header.parent ≡ Some p → Below w p
  pub below : node.header.kind ≡ Dir → node.header.parent ≡ Some d

-- what a tree makes in a directory
module _ (d : Name) (name : List ℕ) (new : NewNode) (x : Node) (is : made_node d (Some name) new ≡ Some x) where
  abbrev made_as : Kind → Option Node
  made_as kind = option_map (named_by (Some name)) (node_of_kind d new kind)

  -- its parent, if it has one, is that directory
  made_parent : (p : Name) → x.header.parent ≡ Some p → p ≡ d
  made_parent p = by new.kind is
    where
      by : (kind : Kind) → made_as kind ≡ Some x → x.header.parent ≡ Some p → p ≡ d
      by File made e = let same : new_file new.owner new.group new.mode ≡ x = cc in let none : None ≡ Some p = rw (← same) at e in absurd (cc)
      by Dir made e = let same : new_dir new.owner new.group new.mode (Some d) ≡ x = cc in let here : Some d ≡ Some p = rw (← same) at e in cc
      by kind made e = absurd (cc)

  -- it may be made where that directory's name was given
  made_in : (w : World) → Below w d → NewIn w d x
  made_in w below = by new.kind is
    where
      parent : (p : Name) → x.header.parent ≡ Some p → Below w p
      parent p e = subst (Below w) (sym (made_parent p e)) below

      by : (kind : Kind) → made_as kind ≡ Some x → NewIn w d x
      by File made =
          let same : new_file new.owner new.group new.mode ≡ x = cc in
          subst (NewIn w d) same (record { shape = refl; empty = tt; parent = rw (← same) at parent; below = λ e. absurd (cc) })
      by Dir made =
          let same : new_dir new.owner new.group new.mode (Some d) ≡ x = cc in
          subst (NewIn w d) same (record { shape = refl; empty = refl; parent = rw (← same) at parent; below = λ e. refl })
      by kind made = absurd (cc)

  -- and it has the size that its server says, and in it and its header what may be there
  made_fit : ((k : ServerKind) → GoodBehaviour (behaviour_of k)) → (i : ServerInfo) → keeps_tree i.kind ≡ true → IsFilled i x
  made_fit good i tree = ((good i.kind).newborn tree i.text d (Some name) new x is, tree_holds i.kind x.body tree, tree_has i.kind x.header tree)

-- what is made counts for nothing yet
made_nothing : (d : Name) (entry : Option (List ℕ)) (new : NewNode) (kind : Kind) (x : Node) → option_map (named_by entry) (node_of_kind d new kind) ≡ Some x → counts_for x.header ≡ 0
made_nothing d (Some name) new File x is = let same : new_file new.owner new.group new.mode ≡ x = cc in subst (λ (z : Node). counts_for z.header ≡ 0) same refl
made_nothing d (Some name) new Dir x is = let same : new_dir new.owner new.group new.mode (Some d) ≡ x = cc in subst (λ (z : Node). counts_for z.header ≡ 0) same refl
made_nothing d None new File x is = let same : with_header unlinked (new_file new.owner new.group new.mode) ≡ x = cc in subst (λ (z : Node). counts_for z.header ≡ 0) same refl
made_nothing d None new Dir x is = let same : with_header unlinked (new_dir new.owner new.group new.mode (Some d)) ≡ x = cc in subst (λ (z : Node). counts_for z.header ≡ 0) same refl
made_nothing d entry new kind x is = absurd (cc)

-- the node, and its entry
abbrev pub entered : Name → Name → Node → Name → List ℕ → List Change
entered n s node d name = MakeNode n s node ∷ EditBody d (with_entry name n) ∷ []

module _ (w : World) (n s : Name) (node : Node) (d : Name) (name : List ℕ) where
  abbrev made : World
  made = apply (MakeNode n s node) w

  abbrev left : World
  left = apply_all (entered n s node d name) w

  -- what is read of the new node afterwards
  pub entered_home : home_at left n ≡ Some s
  entered_home = home-here w.sites n (new_site s)

  pub entered_header : header_at left n ≡ Some node.header
  entered_header = edit_keeps header_in (with_body (with_entry name n)) (header-with_body (with_entry name n)) made.nodes d n ∙ ap header_in (get_here w.nodes n node)

  pub entered_task : (x : Task) → task_at w n.task.0 ≡ Some x → task_at left n.task.0 ≡ Some (named 1 x)
  entered_task x is = edit_here n.task.0 (named 1) w.tasks x is

  module _ (c : Coherent w) (next : IsNext w n) where
    pub entered_below : Below left n
    entered_below = named_below w c n next 1 n refl (omega arith)

    entered_proper : home_at w d ≡ Some s → tree_by (info_at w d) ≡ true → entry_of name (body_at w d) ≡ None → NewIn w d node → AllProper w (entered n s node d name)
    entered_proper home keeps absent new = ((next, good), λ one. (entry_proper made one d name n still new_entry, λ two. tt))
      where
        apart : d ≢ n
        apart = next_apart w n d next (home_old c d s home)

        good : GoodNode w s node
        good =
            let i = home_server c d s home in
            let tree : keeps_tree i.0.kind ≡ true = sym (ap tree_by (ap (info_in w.servers) home ∙ i.1)) ∙ keeps in
            record { info = i.0; is_server = i.1; tree = tree; shape = new.shape; empty = new.empty; parent = new.parent }

        new_entry : IsEntry made d n
        new_entry = record {
          made = named_below w c n next 1 n refl (omega arith);
          kin = home-here w.sites n (new_site s) ∙ sym home ∙ sym (home-apart w.sites n (new_site s) d apart);
          tree = ap (λ o. tree_by (info_in w.servers o)) (home-apart w.sites n (new_site s) d apart) ∙ keeps;
          below = λ h eh dir.
              let same : node.header ≡ h = cc (ap header_in (get_here w.nodes n node), eh) in
              ap (λ (k : Header). k.parent) (sym same) ∙ new.below (ap (λ (k : Header). k.kind) same ∙ dir);
        }

        still : entry_of name (body_at made d) ≡ None
        still = ap (entry_of name) (ap body_in (get_apart w.nodes n node d apart)) ∙ absent

    -- it hangs in the directory, which leads up
    module _ {kind : Kind} (m : MayMake w d (Some name) kind) (up : LeadsUp (nodes_of w) d) (empty : HasNoEntries node.body) (hangs : HangsIn d node) where
      abbrev IsLoose : Name → Type 0
      IsLoose k = k ≡ n

      new : Below w n → ⊥
      new = next_not w n next

      listing : (es : List Entry) × (m.node.body ≡ Listing es)
      listing = listing_of m.node.header m.node.body (c.tree.shapes d m.node m.is_node) m.dir

      dir_there : get made.nodes d ≡ Some m.node
      dir_there = get_apart w.nodes n node d (next_apart w n d next (c.given.nodes d m.node m.is_node)) ∙ m.is_node

      made_loose : Loosens IsLoose w (MakeNode n s node)
      made_loose = (refl, no_node c n new, no_home c n new, empty)

      entry_loose : Loosens IsLoose made (EditBody d (with_entry name n))
      entry_loose b is = relisted_entry (nodes_of made) d name n b (leads_grown IsLoose w n s node made_loose d up)

      -- by its one entry
      listed : lists_at n (body_at left d) ≡ true
      listed =
          ap (lists_at n) (edit_reads body_in (option_map (with_entry name n)) (with_body (with_entry name n)) (body-with_body (with_entry name n)) made.nodes d)
          ∙ ap (λ o. lists_at n (option_map (with_entry name n) (body_in o))) dir_there
          ∙ ap (λ b. lists n (with_entry name n b)) listing.1 ∙ lists_entered name n listing.0

      named_once : times_listed left.nodes n ≡ 1
      named_once =
          let now = times_edited made.nodes d n (with_entry name n) m.node dir_there in
          let before = named_grown IsLoose w n s node made_loose n in
          let none = times_new w c n new in
          let one : times_in n (with_entry name n m.node.body) ≡ times_in n m.node.body + 1 = rw (listing.1) (times_entered name n listing.0) in
          omega arith

      one_link : (b : Bool) (t : ℕ) → t ≡ 1 → 1 ≡ cond b 1 t
      one_link true t e = refl
      one_link false t e = sym e

      -- no server has a root that was never given
      no_root : is_server_root left n ≡ true → ⊥
      no_root is =
          let r = root_why (nodes_of left) n s entered_home is in
          new (subst (Below w) (sym (equal_if_same n r.0.root r.2)) (home_old c r.0.root s (c.housing.roots s r.0 r.1)))

      hung : IsHung (nodes_of left) n
      hung = hung_as (nodes_of left) n node.header entered_header (record {
        up = λ p ep. let u = hangs.up p ep in (u.0, subst (λ q. lists_at n (body_at left q) ≡ true) (sym u.1) listed);
        top = λ is. absurd (no_root is);
        once = λ dir. omega (arith, named_once);
        links = λ tree. hangs.links ∙ one_link (is_dir node.header.kind) (times_listed left.nodes n) named_once;
      })

      entered_linked : KeepsLinked w (entered n s node d name)
      entered_linked l = tied (nodes_of left) n (loosened IsLoose (entered n s node d name) w (made_loose, (entry_loose, tt)) (loose_any IsLoose (nodes_of w) l)) hung

-- task t makes it, as a tree does, and it hangs in the directory, which isn't removed
pub entered_whole : ((k : ServerKind) → GoodBehaviour (behaviour_of k)) → {T : Part → Type 0} {w : World} → Sound w → (t : ℕ) (x : Task) → task_at w t ≡ Some x → (s d : Name) → home_at w d ≡ Some s → {kind : Kind} (name : List ℕ) → MayMake w d (Some name) kind
    → LeadsUp (nodes_of w) d → (new : NewNode) (node : Node) → made_node d (Some name) new ≡ Some node → is_entered node.header ≡ true → HangsIn d node → T (BodyOf d) → T (EmptyOf d) → ((S : ℕ → Bool) → S t ≡ true → Seen S w d)
    → Whole t (Full w t T) w w (entered (fresh t x) s node d name)
entered_whole good {T} {w} st t x is s d home {kind} name m up new node made_is is_in hangs body empty seen =
    quiet (entered n s node d name) ((is_in, no_home c n still, m.info, is_server), (tt, tt)) st (record {
      within = ((own_task w t T, inr (inr still), inr (inr still), inr (inr still), inl (made_nothing d (Some name) new new.kind node made_is)), ((inl body, inl (inl empty)), tt));
      proper = entered_proper w n s node d name c next home (ap tree_by m.is_info ∙ m.tree) (absent w d name kind m) ready;
      linked = entered_linked w n s node d name c next m up ready.empty hangs st.linked;
      filled =
          filled_entry good (made w n s node d name) d name n (ap (λ o. tree_by (info_in w.servers o)) (home-apart w.sites n (new_site s) d (next_apart w n d next (home_old c d s home))) ∙ (ap tree_by m.is_info ∙ m.tree))
          (filled_made w n s node (λ i e. let same : m.info ≡ i = cc (is_server, e) in rw (← same) (made_fit d name new node made_is good m.info m.tree)) st.filled);
      held = held_all (entered n s node d name) w (tt, (tt, tt)) st.settled.opens;
      may = λ S ours. (
        (ours, inl (OfNode d (seen S ours) home), λ p e. subst (SeenOrNew S w) (sym (made_parent d name new node made_is p e)) (inl (seen S ours))),
        (entry_may S w (made w n s node d name) d name n (inr (later_new S w t x x.made ours is (omega arith))), tt),
      );
    })
  where
    c : Coherent w
    c = st.coherent

    n : Name
    n = fresh t x

    next : IsNext w n
    next = fresh_next w t x is

    still : Below w n → ⊥
    still = fresh_new w t x is

    ready : NewIn w d node
    ready = made_in d name new node made_is w (home_old c d s home)

    is_server : server_at w s ≡ Some m.info
    is_server = rw home at m.is_info
