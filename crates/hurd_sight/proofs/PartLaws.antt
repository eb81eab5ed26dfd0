-- Names that were gathered are those that a set of tasks has and knows, and by them its parts are told.
use Rattle.std.proofs.Common.{◌≡◌, ◌∙◌, ◌⊎◌, inl, inr, sym, refl, ap, subst, ℕ, Bool, true, List, [], ◌∷◌, if◌then◌else◌}
use Rattle.std.specs.Prelude.{◌↔◌, ◌||◌, ◌&&◌, not, is_some, Option, Some, slice_get}
use Rattle.std.specs.FinMap as fin
use Rattle.hurd_machine.proofs.Common.{BodyOf, InRoot, SeesText, TextOf, ToControl, is_one, ByBody, ByControl, ByNode, ByParent, BySeat, Control, Could, CouldServe, Dir, Exec, Header, Holds, IdSets, Io, IoRight, IsAmong, IsOpen, Knows, MaySend, Name, NodeState, OfControl, OfNode, OfSeat, Opened, OwnsIt, PortState, READ, Read, Right, Seen, Sees, SeesBody, SeesEmpty, SeesTotal, Sends, ServerInfo, Start, Task, TaskId, ToPut, ToRead, ToSearch, WRITE, Want, World, Write, active_at, asks, bare, boot_name, counts_at, flat_map, header_at, header_of, home_at, is_dir, limit_by, limit_of, open_at, owns, put, same_name, server_at, tree_by, world_from}
use Rattle.std.specs.Global.{Vec}
use Rattle.std.proofs.lemmas.Bool.{or_cases, or_left, or_right, and_parts, and_from, not-true}
use Rattle.hurd_creds.proofs.NameLaws.{equal_if_same, same_name-itself, apart_if_not_same, same_name-apart}
use Rattle.hurd_machine.specs.World.{nodes_of, shape_at, shape_by}
use Rattle.hurd_trans_iface.specs.Texts.{reads_text}
use Rattle.hurd_nodes.specs.Shown.{info_in}
use Rattle.hurd_trans_iface.specs.Meaning.{root_of}
use Rattle.hurd_sight.specs.Reach.{Gathers, Reaches, among, could_with, serves}
use Rattle.hurd_sight.specs.Found.{FoundAll, IsSight, is_found}
use Rattle.hurd_sight.specs.declared.found.Why.{Why}
use Rattle.hurd_sight.specs.declared.held.RightNames.{RightNames}
use Rattle.hurd_sight.specs.declared.looks.Sight.{Sight}
use Rattle.hurd_sight.specs.declared.parts.SeenPart.TheVariants as seen
use Rattle.hurd_sight.specs.Parts.{HasFor, HasOpen, KnownByNode, SentByNode, control_of, is_for, is_in, known_at, maybe_named, named, no_names, node_for, of_found, open_of, owned_by, part_of, rights_at, rights_held, sendable_at, served_by, served_in, with_right, with_rights}
use Rattle.hurd_sight.specs.Looks.{Gathered, Looks, PartsAreSeen, could_write, puts_with, reads_with, sees_with, shows_root, shows_text, shows_total, tells_empty, tells_text, writes_at}
use Rattle.hurd_sight.proofs.CouldLaws.{could_is_enough}
use Rattle.hurd_sight.proofs.ReachLaws.{any_found, listed_task, ours, reach_is_gathered, owns_is, served_is}
use Rattle.hurd_sight.proofs.SightLaws.{found_is_seen}
use Rattle.hurd_sight.proofs.FoundLaws.{Entries, among_flat, among_one, among_tested, among_there, flat_among, tested}
use Rattle.hurd_sight.proofs.NameLaws.{kind_with, named_are}
use Rattle.hurd_machine.proofs.Tasks.{among_cases, among_left, among_right}
use Rattle.hurd_machine.proofs.Listed.{dir_kind}
use Rattle.hurd_machine.proofs.Holders.{any_among}
use Rattle.hurd_machine.proofs.Sites.{home_is}
use Rattle.hurd_nodes.proofs.PartLaws.{mapped-some}
use Rattle.std.specs.Option.{option_map}
use Rattle.std.proofs.Math.Bool.{or-true}

pub both_ways : {A B C : Type 0} → (A ↔ B) → (B ↔ C) → (A ↔ C)
both_ways x y = (λ a. y.0 (x.0 a), λ c. x.1 (y.1 c))

-- names that were added to nothing are those of the list
are_named : (ns xs : List Name) → ns ≡ named xs [] → (n : Name) → (is_in n ns ≡ true) ↔ IsAmong n xs
are_named ns xs e n = subst (λ (ms : List Name). (is_in n ms ≡ true) ↔ IsAmong n xs) (sym e) (named_are n xs)

maybe_among : (o : Option Name) (n : Name) → IsAmong n (maybe_named o) → o ≡ Some n
maybe_among o n a = let it = among_there maybe_named refl o n a in it.1 ∙ ap (λ (x : Name). Some x) (among_one n it.0 it.2)

among_maybe : (o : Option Name) (n : Name) → o ≡ Some n → IsAmong n (maybe_named o)
among_maybe o n is = subst (λ (x : Option Name). IsAmong n (maybe_named x)) (sym is) (inl refl)

-- what is among one name, where a test holds
if_among : (t : Bool) (m n : Name) → IsAmong n (if t then m ∷ [] else []) → (t ≡ true) × (m ≡ n)
if_among t m n a = let it = among_tested t n (m ∷ []) a in (it.0, among_one n m it.1)

among_if : (t : Bool) (m n : Name) → t ≡ true → m ≡ n → IsAmong n (if t then m ∷ [] else [])
among_if t m n is e = subst (λ (b : Bool). IsAmong n (if b then m ∷ [] else [])) (sym is) (inl e)

module _ (w : World) (tasks : List TaskId) where
  abbrev S : ℕ → Bool
  S = among tasks

  -- a right of one of the tasks is held by the set of them

  held : (q : Right) → IsAmong q (rights_held w.tasks tasks) → Holds S w q
  held q a =
      let it = flat_among (λ (t : TaskId). rights_at (slice_get w.tasks t.0)) q tasks a in
      let at = among_there rights_at refl (slice_get w.tasks it.0.0) q it.2 in
      record { task = it.0.0; ours = ours tasks it.0 it.1; seat = at.0; is_task = at.1; here = at.2 }

  listed : (q : Right) → Holds S w q → IsAmong q (rights_held w.tasks tasks)
  listed q has =
      let it = listed_task tasks has.task has.ours in
      among_flat (λ (t : TaskId). rights_at (slice_get w.tasks t.0)) it.0 q tasks it.1
      (subst (λ (o : Option Task). IsAmong q (rights_at o)) (sym (ap (slice_get w.tasks) it.2 ∙ has.is_task)) has.here)

  -- what rights name is said of those that are held
  rights_seen : (f : Right → List Name) (n : Name) {P : Type 0} → ((q : Right) → Holds S w q → IsAmong n (f q) → P) → (P → (q : Right) × Holds S w q × IsAmong n (f q))
      → IsAmong n (flat_map f (rights_held w.tasks tasks)) ↔ P
  rights_seen f n to from = (
    λ a. let it = flat_among f n (rights_held w.tasks tasks) a in to it.0 (held it.0 it.1) it.2,
    λ p. let it = from p in among_flat f it.0 n (rights_held w.tasks tasks) (listed it.0 it.1) it.2,
  )

  opens_seen : (o : Name) → IsAmong o (flat_map open_of (rights_held w.tasks tasks)) ↔ HasOpen S w o
  opens_seen o = rights_seen open_of o to (λ h. (Io h.0, h.1, inl h.2))
    where
      to : (q : Right) → Holds S w q → IsAmong o (open_of q) → HasOpen S w o
      to (Io r) has a = (r, has, among_one o r.open_name a)
      to (Control s) has a = absurd a
      to (Start n) has a = absurd a

  nodes_seen : (mode : ℕ) (n : Name) → IsAmong n (flat_map (node_for mode w.opens) (rights_held w.tasks tasks)) ↔ HasFor mode S w n
  nodes_seen mode n = rights_seen (node_for mode w.opens) n to (λ h. (Io h.0, h.2, among_if (is_for mode (fin.get w.opens h.0.open_name)) h.0.node n (ap (is_for mode) h.4 ∙ h.5) (sym h.3)))
    where
      to : (q : Right) → Holds S w q → IsAmong n (node_for mode w.opens q) → HasFor mode S w n
      to (Io r) has a =
          let it = if_among (is_for mode (fin.get w.opens r.open_name)) r.node n a in
          let opened = tested (is_for mode) refl (fin.get w.opens r.open_name) it.0 in
          (r, opened.0, has, sym it.1, opened.1, opened.2)
      to (Control s) has a = absurd a
      to (Start m) has a = absurd a

  controls_seen : (s : Name) → IsAmong s (flat_map control_of (rights_held w.tasks tasks)) ↔ Holds S w (Control s)
  controls_seen s = rights_seen control_of s to (λ h. (Control s, h, inl refl))
    where
      to : (q : Right) → Holds S w q → IsAmong s (control_of q) → Holds S w (Control s)
      to (Io r) has a = absurd a
      to (Control q) has a = subst (λ (z : Name). Holds S w (Control z)) (among_one s q a) has
      to (Start m) has a = absurd a

  module _ (ids : IdSets) (es : Entries) (r : Reaches S w ids) (sight : IsSight S w es) where
    -- a found node is a seen one

    entry_seen : (e : Name × Why) → IsAmong e es → Seen S w e.0
    entry_seen e here = (sight.exact e.0).0 (any_among (λ (x : Name × Why). same_name e.0 x.0) e es here (same_name-itself e.0))

    seen_entry : (n : Name) → Seen S w n → (e : Name × Why) × IsAmong e es × (e.0 ≡ n)
    seen_entry n sees = let it = any_found (λ (x : Name × Why). same_name n x.0) es ((sight.exact n).1 sees) in (it.0, it.1, sym (equal_if_same n it.0.0 it.2))

    -- a name that is said of a found node is said of a seen one
    of_seen : (f : Name → List Name) (s : Name) → IsAmong s (of_found f es) ↔ ((n : Name) × Seen S w n × IsAmong s (f n))
    of_seen f s = (
      λ a. let it = flat_among (λ (e : Name × Why). f e.0) s es a in (it.0.0, entry_seen it.0 it.1, it.2),
      λ p. let it = seen_entry p.0 p.1 in among_flat (λ (e : Name × Why). f e.0) it.0 s es it.1 (subst (λ (n : Name). IsAmong s (f n)) (sym it.2) p.2),
    )

    known_seen : (s : Name) → IsAmong s (of_found (known_at (nodes_of w)) es) ↔ KnownByNode S w s
    known_seen s = (
      λ a. let it = (of_seen (known_at (nodes_of w)) s).0 a in (it.0, it.1, to it.0 it.2),
      λ k. (of_seen (known_at (nodes_of w)) s).1 (k.0, k.1, from k.0 k.2),
    )
      where
        to : (n : Name) → IsAmong s (known_at (nodes_of w) n) → (home_at w n ≡ Some s) ⊎ (active_at w n ≡ Some s)
        to n a = elim (among_cases s (maybe_named (home_at w n)) (maybe_named (active_at w n)) a) [
          | inl home ↦ inl (maybe_among (home_at w n) s home)
          | inr active ↦ inr (maybe_among (active_at w n) s active)
        ]

        from : (n : Name) → (home_at w n ≡ Some s) ⊎ (active_at w n ≡ Some s) → IsAmong s (known_at (nodes_of w) n)
        from n (inl home) = among_left s (maybe_named (home_at w n)) (maybe_named (active_at w n)) (among_maybe (home_at w n) s home)
        from n (inr active) = among_right s (maybe_named (home_at w n)) (maybe_named (active_at w n)) (among_maybe (active_at w n) s active)

    -- a server that may be sent away by a node
    abbrev SentAt : Name → Name → Type 0
    SentAt n s =
        ((i : ServerInfo) × (home_at w n ≡ Some s) × (server_at w s ≡ Some i) × CouldServe S w i)
        ⊎ ((h : Header) × (active_at w n ≡ Some s) × (header_at w n ≡ Some h) × OwnsIt S w h)

    served_among : (n s : Name) → IsAmong s (served_in (nodes_of w) ids (home_at w n)) → (i : ServerInfo) × (home_at w n ≡ Some s) × (server_at w s ≡ Some i) × CouldServe S w i
    served_among n s a =
        let home = among_there (served_in (nodes_of w) ids) refl (home_at w n) s a in
        let server = among_there (served_by ids home.0) refl (server_at w home.0) s home.2 in
        let it = if_among (serves ids server.0.ids) home.0 s server.2 in
        (server.0, home.1 ∙ ap (λ (z : Name). Some z) it.1, ap (server_at w) (sym it.1) ∙ server.1, (served_is r server.0).0 it.0)

    owned_among : (n s : Name) → IsAmong s (owned_by ids (header_at w n) (active_at w n)) → (h : Header) × (active_at w n ≡ Some s) × (header_at w n ≡ Some h) × OwnsIt S w h
    owned_among n s a =
        let at = among_there (λ (o : Option Header). owned_by ids o (active_at w n)) refl (header_at w n) s a in
        let it = among_tested (owns ids (bare at.0)) s (maybe_named (active_at w n)) at.2 in
        (at.0, maybe_among (active_at w n) s it.1, at.1, (owns_is r at.0).0 it.0)

    sent_at : (n s : Name) → IsAmong s (sendable_at (nodes_of w) ids n) ↔ SentAt n s
    sent_at n s = (to, from)
      where
        to : IsAmong s (sendable_at (nodes_of w) ids n) → SentAt n s
        to a = elim (among_cases s (served_in (nodes_of w) ids (home_at w n)) (owned_by ids (header_at w n) (active_at w n)) a) [
          | inl b ↦ inl (served_among n s b)
          | inr b ↦ inr (owned_among n s b)
        ]

        from : SentAt n s → IsAmong s (sendable_at (nodes_of w) ids n)
        from (inl p) =
            among_left s (served_in (nodes_of w) ids (home_at w n)) (owned_by ids (header_at w n) (active_at w n))
            (subst (λ (o : Option Name). IsAmong s (served_in (nodes_of w) ids o)) (sym p.1)
            (subst (λ (o : Option ServerInfo). IsAmong s (served_by ids s o)) (sym p.2) (among_if (serves ids p.0.ids) s s ((served_is r p.0).1 p.3) refl)))
        from (inr p) =
            among_right s (served_in (nodes_of w) ids (home_at w n)) (owned_by ids (header_at w n) (active_at w n))
            (subst (λ (o : Option Header). IsAmong s (owned_by ids o (active_at w n))) (sym p.2)
            (subst (λ (t : Bool). IsAmong s (if t then maybe_named (active_at w n) else [])) (sym ((owns_is r p.0).1 p.3)) (among_maybe (active_at w n) s p.1)))

    sent_seen : (s : Name) → IsAmong s (of_found (sendable_at (nodes_of w) ids) es) ↔ SentByNode S w s
    sent_seen s = (
      λ a. let it = (of_seen (sendable_at (nodes_of w) ids) s).0 a in (it.0, it.1, (sent_at it.0 s).0 it.2),
      λ k. (of_seen (sendable_at (nodes_of w) ids) s).1 (k.0, k.1, (sent_at k.0 s).1 k.2),
    )

-- what was gathered of a world, all together
pub looks_at : (w : World) (tasks : List TaskId) (kept : Vec TaskId) (ids : IdSets) (es : Entries) (v : RightNames) (known sendable : List Name) → kept.items ≡ tasks → Gathers w.tasks tasks ids
    → FoundAll (nodes_of w) w.tasks ids tasks es → v ≡ with_rights w.opens (rights_held w.tasks tasks) no_names
    → known ≡ named (of_found (known_at (nodes_of w)) es) [] → sendable ≡ named (of_found (sendable_at (nodes_of w) ids) es) []
    → Looks (among tasks) w (record { tasks = kept; reach = ids; found = es; rights = v; known = known; sendable = sendable })
looks_at w tasks kept ids es v known sendable same gathered all rights knows sends =
    let r = reach_is_gathered w tasks ids gathered in
    let sight = found_is_seen w tasks ids es r all in
    record {
      tasks = λ t. ap (λ (ts : List TaskId). among ts t) same;
      reach = r;
      found = sight;
      opens = λ o. both_ways (kind (λ v. v.opens) open_of (λ q x. refl) refl o) (opens_seen w tasks o);
      readable = λ n. both_ways (kind (λ v. v.readable) (node_for READ w.opens) (λ q x. refl) refl n) (nodes_seen w tasks READ n);
      writable = λ n. both_ways (kind (λ v. v.writable) (node_for WRITE w.opens) (λ q x. refl) refl n) (nodes_seen w tasks WRITE n);
      controlled = λ s. both_ways (kind (λ v. v.controlled) control_of (λ q x. refl) refl s) (controls_seen w tasks s);
      known = λ s. both_ways (are_named known (of_found (known_at (nodes_of w)) es) knows s) (known_seen w tasks ids es r sight s);
      sendable = λ s. both_ways (are_named sendable (of_found (sendable_at (nodes_of w) ids) es) sends s) (sent_seen w tasks ids es r sight s);
    }
  where
    kind : (of : RightNames → List Name) (f : Right → List Name) → ((q : Right) (x : RightNames) → of (with_right w.opens q x) ≡ named (f q) (of x)) → of no_names ≡ [] → (n : Name) → (is_in n (of v) ≡ true) ↔ IsAmong n (flat_map f (rights_held w.tasks tasks))
    kind of f one none n = are_named (of v) (flat_map f (rights_held w.tasks tasks)) (ap of rights ∙ kind_with w.opens of f one (rights_held w.tasks tasks) no_names ∙ ap (named (flat_map f (rights_held w.tasks tasks))) none) n

-- and how
pub gathered_at : (w : World) (tasks : List TaskId) (kept : Vec TaskId) (ids : IdSets) (es : Entries) (v : RightNames) (known sendable : List Name) → kept.items ≡ tasks
    → FoundAll (nodes_of w) w.tasks ids tasks es → v ≡ with_rights w.opens (rights_held w.tasks tasks) no_names → known ≡ named (of_found (known_at (nodes_of w)) es) []
    → (kept.items ≡ tasks) × Gathered w (record { tasks = kept; reach = ids; found = es; rights = v; known = known; sendable = sendable })
gathered_at w tasks kept ids es v known sendable same all rights knows = (
  same,
  record {
    found = subst (λ (ts : List TaskId). FoundAll (nodes_of w) w.tasks ids ts es) (sym same) all;
    rights = rights ∙ ap (λ (ts : List TaskId). with_rights w.opens (rights_held w.tasks ts) no_names) (sym same);
    known = knows;
  },
)

-- the same of nodes and ports that are such a world together
pub seen_of : (N : NodeState) (H : PortState) (tasks : List TaskId) (kept : Vec TaskId) (ids : IdSets) (es : Entries) (v : RightNames) (known sendable : List Name) → kept.items ≡ tasks → Gathers H.tasks tasks ids
    → FoundAll N H.tasks ids tasks es → v ≡ with_rights H.opens (rights_held H.tasks tasks) no_names → known ≡ named (of_found (known_at N) es) [] → sendable ≡ named (of_found (sendable_at N ids) es) []
    → let sight : Sight = record { tasks = kept; reach = ids; found = es; rights = v; known = known; sendable = sendable } in
    Looks (among tasks) (world_from N H) sight × (kept.items ≡ tasks) × Gathered (world_from N H) sight
seen_of N H tasks kept ids es v known sendable same gathered all rights knows sends =
    let w = world_from N H in
    let how = gathered_at w tasks kept ids es v known sendable same all rights knows in
    (looks_at w tasks kept ids es v known sendable same gathered all rights knows sends, how.0, how.1)

-- which parts are seen

module _ (S : ℕ → Bool) (w : World) (v : Sight) (l : Looks S w v) where
  could : (h : Header) (want : Want) → (could_with v.reach (bare h) want ≡ true) ↔ Could S w h want
  could h want = could_is_enough S w v.reach h want l.reach

  put_to : (n : Name) (h : Header) → counts_at w n ≡ true → puts_with v n h ≡ true → SeesBody S w n h
  put_to n h counts e = elim (or_cases (could_with v.reach (bare h) Write) (is_in n v.rights.writable) e) [
    | inl may ↦ ToPut counts ((could h Write).0 may)
    | inr among ↦ let it = (l.writable n).0 among in
        IsOpen it.0 it.2 it.3 it.1 it.4 (or_right (asks it.1.modes READ) (counts_at w n && asks it.1.modes WRITE) (and_from (counts_at w n) (asks it.1.modes WRITE) counts it.5))
  ]

  open_to : (n : Name) (h : Header) → (is_in n v.rights.readable || (counts_at w n && puts_with v n h)) ≡ true → SeesBody S w n h
  open_to n h e = elim (or_cases (is_in n v.rights.readable) (counts_at w n && puts_with v n h) e) [
    | inl among ↦ let it = (l.readable n).0 among in
        IsOpen it.0 it.2 it.3 it.1 it.4 (or_left (asks it.1.modes READ) (counts_at w n && asks it.1.modes WRITE) it.5)
    | inr put ↦ let p = and_parts (counts_at w n) (puts_with v n h) put in put_to n h p.0 p.1
  ]

  read_to : (n : Name) (h : Header) → reads_with (nodes_of w) v n (Some h) ≡ true → SeesBody S w n h
  read_to n h e =
      let searched = is_dir h.kind && could_with v.reach (bare h) Exec in
      let opened = is_in n v.rights.readable || (counts_at w n && puts_with v n h) in
      elim (or_cases (could_with v.reach (bare h) Read) (searched || opened) e) [
        | inl may ↦ ToRead ((could h Read).0 may)
        | inr rest ↦ elim (or_cases searched opened rest) [
          | inl both ↦ let p = and_parts (is_dir h.kind) (could_with v.reach (bare h) Exec) both in ToSearch (dir_kind h.kind p.0) ((could h Exec).0 p.1)
          | inr among ↦ open_to n h among
        ]
      ]

  -- what tells by an open, or by one that could be made to write
  opened_from : (n : Name) (h : Header) → (is_in n v.rights.readable || (counts_at w n && puts_with v n h)) ≡ true → reads_with (nodes_of w) v n (Some h) ≡ true
  opened_from n h e =
      let searched = is_dir h.kind && could_with v.reach (bare h) Exec in
      let opened = is_in n v.rights.readable || (counts_at w n && puts_with v n h) in
      or_right (could_with v.reach (bare h) Read) (searched || opened) (or_right searched opened e)

  put_from : (n : Name) (h : Header) → counts_at w n ≡ true → puts_with v n h ≡ true → reads_with (nodes_of w) v n (Some h) ≡ true
  put_from n h counts puts =
      opened_from n h (or_right (is_in n v.rights.readable) (counts_at w n && puts_with v n h) (and_from (counts_at w n) (puts_with v n h) counts puts))

  told_from : (n : Name) (h : Header) (r : IoRight) → Holds S w (Io r) → n ≡ r.node → (o : Opened) → open_at w r.open_name ≡ Some o
      → (asks o.modes READ ≡ true) ⊎ ((counts_at w n && asks o.modes WRITE) ≡ true) → reads_with (nodes_of w) v n (Some h) ≡ true
  told_from n h r has is o there (inl read) = opened_from n h (or_left (is_in n v.rights.readable) (counts_at w n && puts_with v n h) ((l.readable n).1 (r, o, has, is, there, read)))
  told_from n h r has is o there (inr put) =
      let p = and_parts (counts_at w n) (asks o.modes WRITE) put in
      put_from n h p.0 (or_right (could_with v.reach (bare h) Write) (is_in n v.rights.writable) ((l.writable n).1 (r, o, has, is, there, p.1)))

  read_from : (n : Name) (h : Header) → SeesBody S w n h → reads_with (nodes_of w) v n (Some h) ≡ true
  read_from n h (ToRead may) = rw ((could h Read).1 may) refl
  read_from n h (ToSearch dir may) = rw ((could h Exec).1 may, ap is_dir dir) (or-true (could_with v.reach (bare h) Read))
  read_from n h (ToPut counts may) = put_from n h counts (or_left (could_with v.reach (bare h) Write) (is_in n v.rights.writable) ((could h Write).1 may))
  read_from n h (IsOpen r has is o there told) = told_from n h r has is o there (or_cases (asks o.modes READ) (counts_at w n && asks o.modes WRITE) told)

  body_seen : (n : Name) → (sees_with (nodes_of w) v (seen.Body n) ≡ true) ↔ Sees S w (part_of (seen.Body n))
  body_seen n = (
    λ e. let p = and_parts (is_found n v.found) (reads_with (nodes_of w) v n (header_of w.nodes n)) e in
        let b = tested (reads_with (nodes_of w) v n) refl (header_at w n) p.1 in ((l.found.exact n).0 p.0, b.0, b.1, read_to n b.0 b.2),
    λ s. and_from (is_found n v.found) (reads_with (nodes_of w) v n (header_of w.nodes n)) ((l.found.exact n).1 s.0) (ap (reads_with (nodes_of w) v n) s.2 ∙ read_from n s.1 s.3),
  )

  ends_seen : (n : Name) → (sees_with (nodes_of w) v (seen.Ends n) ≡ true) ↔ Sees S w (part_of (seen.Ends n))
  ends_seen n = (
    λ e. let p = and_parts (counts_at w n) (sees_with (nodes_of w) v (seen.Body n)) e in (p.0, (body_seen n).0 p.1),
    λ s. and_from (counts_at w n) (sees_with (nodes_of w) v (seen.Body n)) s.0 ((body_seen n).1 s.1),
  )

  parent_to : (p : Option Name) → writes_at (nodes_of w) v.reach p ≡ true → (q : Name) × (a : Header) × (p ≡ Some q) × (header_at w q ≡ Some a) × Could S w a Write
  parent_to p e =
      let q = tested (writes_at (nodes_of w) v.reach) refl p e in
      let a = tested (could_write v.reach) refl (header_at w q.0) q.2 in
      (q.0, a.0, q.1, a.1, (could a.0 Write).0 a.2)

  empty_to : (n : Name) (h : Header) → tells_empty (nodes_of w) v n (Some h) ≡ true → (h.kind ≡ Dir) × SeesEmpty S w n h
  empty_to n h e =
      let p = and_parts (is_dir h.kind) (reads_with (nodes_of w) v n (Some h) || writes_at (nodes_of w) v.reach h.parent) e in (
        dir_kind h.kind p.0,
        elim (or_cases (reads_with (nodes_of w) v n (Some h)) (writes_at (nodes_of w) v.reach h.parent) p.1) [
          | inl body ↦ ByBody (read_to n h body)
          | inr above ↦ let it = parent_to h.parent above in ByParent it.0 it.1 it.2 it.3 it.4
        ],
      )

  empty_from : (n : Name) (h : Header) → SeesEmpty S w n h → (reads_with (nodes_of w) v n (Some h) || writes_at (nodes_of w) v.reach h.parent) ≡ true
  empty_from n h (ByBody body) = or_left (reads_with (nodes_of w) v n (Some h)) (writes_at (nodes_of w) v.reach h.parent) (read_from n h body)
  empty_from n h (ByParent p a above there may) =
      or_right (reads_with (nodes_of w) v n (Some h)) (writes_at (nodes_of w) v.reach h.parent) (ap (writes_at (nodes_of w) v.reach) above ∙ (ap (could_write v.reach) there ∙ (could a Write).1 may))

  empty_seen : (n : Name) → (sees_with (nodes_of w) v (seen.Empty n) ≡ true) ↔ Sees S w (part_of (seen.Empty n))
  empty_seen n = (
    λ e. let p = and_parts (is_found n v.found) (tells_empty (nodes_of w) v n (header_of w.nodes n)) e in
        let b = tested (tells_empty (nodes_of w) v n) refl (header_at w n) p.1 in
        let d = empty_to n b.0 b.2 in ((l.found.exact n).0 p.0, b.0, b.1, d.0, d.1),
    λ s. and_from (is_found n v.found) (tells_empty (nodes_of w) v n (header_of w.nodes n)) ((l.found.exact n).1 s.0)
        (ap (tells_empty (nodes_of w) v n) s.2
        ∙ and_from (is_dir s.1.kind) (reads_with (nodes_of w) v n (Some s.1) || writes_at (nodes_of w) v.reach s.1.parent) (ap is_dir s.3) (empty_from n s.1 s.4)),
  )

  knows_seen : (s : Name) → (sees_with (nodes_of w) v (seen.Options s) ≡ true) ↔ Knows S w s
  knows_seen s = (to, from)
    where
      to : sees_with (nodes_of w) v (seen.Options s) ≡ true → Knows S w s
      to e = elim (or_cases (is_in s v.known) (is_in s v.rights.controlled) e) [
        | inl near ↦ let it = (l.known s).0 near in elim it.2 [ inl home ↦ OfNode it.0 it.1 home | inr seat ↦ OfSeat it.0 it.1 seat ]
        | inr controlled ↦ OfControl ((l.controlled s).0 controlled)
      ]

      from : Knows S w s → sees_with (nodes_of w) v (seen.Options s) ≡ true
      from (OfNode n sees home) = or_left (is_in s v.known) (is_in s v.rights.controlled) ((l.known s).1 (n, sees, inl home))
      from (OfSeat n sees seat) = or_left (is_in s v.known) (is_in s v.rights.controlled) ((l.known s).1 (n, sees, inr seat))
      from (OfControl has) = or_right (is_in s v.known) (is_in s v.rights.controlled) ((l.controlled s).1 has)

  sends_to : (s : Name) (i : ServerInfo) → server_at w s ≡ Some i → (is_in s v.sendable || is_in s v.rights.controlled) ≡ true → Sends S w s i
  sends_to s i is e = elim (or_cases (is_in s v.sendable) (is_in s v.rights.controlled) e) [
    | inl near ↦ let it = (l.sendable s).0 near in elim it.2 [
      | inl served ↦ ByNode it.0 it.1 served.1 (subst (CouldServe S w) (same_info served.0 i (sym served.2 ∙ is)) served.3)
      | inr owned ↦ BySeat it.0 owned.0 it.1 owned.1 owned.2 owned.3
    ]
    | inr controlled ↦ ByControl ((l.controlled s).0 controlled)
  ]
    where
      same_info : (x y : ServerInfo) → Some x ≡ Some y → x ≡ y
      same_info x y e = cc

  sends_from : (s : Name) (i : ServerInfo) → server_at w s ≡ Some i → Sends S w s i → (is_in s v.sendable || is_in s v.rights.controlled) ≡ true
  sends_from s i is (ByControl has) = or_right (is_in s v.sendable) (is_in s v.rights.controlled) ((l.controlled s).1 has)
  sends_from s i is (ByNode n sees home may) = or_left (is_in s v.sendable) (is_in s v.rights.controlled) ((l.sendable s).1 (n, sees, inl (i, home, is, may)))
  sends_from s i is (BySeat n h sees seat there own) = or_left (is_in s v.sendable) (is_in s v.rights.controlled) ((l.sendable s).1 (n, sees, inr (h, seat, there, own)))

  users_seen : (s : Name) → (sees_with (nodes_of w) v (seen.Users s) ≡ true) ↔ MaySend S w s
  users_seen s = (
    λ e. let p = and_parts (not (same_name s boot_name)) (is_some (fin.get w.servers s) && (is_in s v.sendable || is_in s v.rights.controlled)) e in
        let q = and_parts (is_some (fin.get w.servers s)) (is_in s v.sendable || is_in s v.rights.controlled) p.1 in
        let i = tested is_some refl (server_at w s) q.0 in
        record { info = i.0; is_server = i.1; other = apart_if_not_same s boot_name (not-true (same_name s boot_name) p.0); why = sends_to s i.0 i.1 q.1 },
    λ m. and_from (not (same_name s boot_name)) (is_some (fin.get w.servers s) && (is_in s v.sendable || is_in s v.rights.controlled)) (ap not (same_name-apart s boot_name m.other))
        (and_from (is_some (fin.get w.servers s)) (is_in s v.sendable || is_in s v.rights.controlled) (ap is_some m.is_server) (sends_from s m.info m.is_server m.why)),
  )

  -- why the total of a tree is seen: it has a limit, or S may set one

  total_to : (s : Name) (i : ServerInfo) → server_at w s ≡ Some i → (is_some (limit_by (server_at w s)) || (is_in s v.sendable || is_in s v.rights.controlled)) ≡ true
      → (is_some (limit_of i.kind i.text) ≡ true) ⊎ Sends S w s i
  total_to s i is e = elim (or_cases (is_some (limit_by (server_at w s))) (is_in s v.sendable || is_in s v.rights.controlled) e) [
    | inl limited ↦ inl (sym (ap (λ (o : Option ServerInfo). is_some (limit_by o)) is) ∙ limited)
    | inr sent ↦ inr (sends_to s i is sent)
  ]

  total_from : (s : Name) (i : ServerInfo) → server_at w s ≡ Some i → (is_some (limit_of i.kind i.text) ≡ true) ⊎ Sends S w s i
      → (is_some (limit_by (server_at w s)) || (is_in s v.sendable || is_in s v.rights.controlled)) ≡ true
  total_from s i is (inl limited) =
      or_left (is_some (limit_by (server_at w s))) (is_in s v.sendable || is_in s v.rights.controlled) (ap (λ (o : Option ServerInfo). is_some (limit_by o)) is ∙ limited)
  total_from s i is (inr sends) = or_right (is_some (limit_by (server_at w s))) (is_in s v.sendable || is_in s v.rights.controlled) (sends_from s i is sends)

  total_seen : (s : Name) → (sees_with (nodes_of w) v (seen.Total s) ≡ true) ↔ SeesTotal S w s
  total_seen s = (
    λ e. let p = and_parts (sees_with (nodes_of w) v (seen.Options s)) (shows_total (nodes_of w) v s) e in
        let q = and_parts (tree_by (server_at w s)) (is_some (limit_by (server_at w s)) || (is_in s v.sendable || is_in s v.rights.controlled)) p.1 in
        let i = tested tree_by refl (server_at w s) q.0 in
        record { info = i.0; is_server = i.1; knows = (knows_seen s).0 p.0; tree = i.2; why = total_to s i.0 i.1 q.1 },
    λ t. and_from (sees_with (nodes_of w) v (seen.Options s)) (shows_total (nodes_of w) v s) ((knows_seen s).1 t.knows)
        (and_from (tree_by (server_at w s)) (is_some (limit_by (server_at w s)) || (is_in s v.sendable || is_in s v.rights.controlled)) (ap tree_by t.is_server ∙ t.tree) (total_from s t.info t.is_server t.why)),
  )

  -- what the root of a server is, by the server of the node
  root_shape : (s root : Name) (i : ServerInfo) → home_at w root ≡ Some s → server_at w s ≡ Some i → shape_at (nodes_of w) root ≡ Some (root_of i.kind i.text)
  root_shape s root i home is = ap (λ (o : Option Name). shape_by (info_in w.servers o)) home ∙ ap shape_by is

  -- a text, by the root of its server
  text_to : (s root : Name) (i : ServerInfo) → server_at w s ≡ Some i → i.root ≡ root → shows_text (nodes_of w) v s (Some root) ≡ true → SeesText S w s i
  text_to s root i is at e = elim (or_cases (is_in s v.sendable || is_in s v.rights.controlled) (shows_root (nodes_of w) v s root) e) [
    | inl sent ↦ ToControl (sends_to s i is sent)
    | inr shown ↦
        let p = and_parts (is_one s (home_at w root)) (tells_text (shape_at (nodes_of w) root) && sees_with (nodes_of w) v (seen.Body root)) shown in
        let q = and_parts (tells_text (shape_at (nodes_of w) root)) (sees_with (nodes_of w) v (seen.Body root)) p.1 in
        let here : home_at w root ≡ Some s = home_is s (home_at w root) p.0 in
        let home : home_at w i.root ≡ Some s = ap (home_at w) at ∙ here in
        let reads : reads_text (root_of i.kind i.text) ≡ true = sym (ap tells_text (root_shape s root i here is)) ∙ q.0 in
        let body : Sees S w (BodyOf i.root) = subst (λ n. Sees S w (BodyOf n)) (sym at) ((body_seen root).0 q.1) in
        InRoot reads body.0 home body.1 body.2 body.3
  ]

  text_from : (s : Name) (i : ServerInfo) → server_at w s ≡ Some i → SeesText S w s i → shows_text (nodes_of w) v s (Some i.root) ≡ true
  text_from s i is (ToControl sends) = or_left (is_in s v.sendable || is_in s v.rights.controlled) (shows_root (nodes_of w) v s i.root) (sends_from s i is sends)
  text_from s i is (InRoot reads sees home h there body) =
      or_right (is_in s v.sendable || is_in s v.rights.controlled) (shows_root (nodes_of w) v s i.root)
      (and_from (is_one s (home_at w i.root)) (tells_text (shape_at (nodes_of w) i.root) && sees_with (nodes_of w) v (seen.Body i.root)) (ap (is_one s) home ∙ same_name-itself s)
      (and_from (tells_text (shape_at (nodes_of w) i.root)) (sees_with (nodes_of w) v (seen.Body i.root)) (ap tells_text (root_shape s i.root i home is) ∙ reads) ((body_seen i.root).1 (sees, h, there, body))))

  text_seen : (s : Name) → (sees_with (nodes_of w) v (seen.Text s) ≡ true) ↔ Sees S w (TextOf s)
  text_seen s = (
    λ e.
        let root = tested (shows_text (nodes_of w) v s) refl (option_map (λ (i : ServerInfo). i.root) (server_at w s)) e in
        let i = mapped-some (λ (i : ServerInfo). i.root) (server_at w s) root.0 root.1 in
        (i.0, i.1, text_to s root.0 i.0 i.1 i.2 root.2),
    λ t. ap (λ (o : Option ServerInfo). shows_text (nodes_of w) v s (option_map (λ (i : ServerInfo). i.root) o)) t.1 ∙ text_from s t.0 t.1 t.2,
  )

pub parts_are_seen : PartsAreSeen
parts_are_seen S w v (seen.Attributes n) l = l.found.exact n
parts_are_seen S w v (seen.Empty n) l = empty_seen S w v l n
parts_are_seen S w v (seen.Body n) l = body_seen S w v l n
parts_are_seen S w v (seen.Ends n) l = ends_seen S w v l n
parts_are_seen S w v (seen.Open o) l = l.opens o
parts_are_seen S w v (seen.Options s) l = knows_seen S w v l s
parts_are_seen S w v (seen.Text s) l = text_seen S w v l s
parts_are_seen S w v (seen.Users s) l = users_seen S w v l s
parts_are_seen S w v (seen.Total s) l = total_seen S w v l s
parts_are_seen S w v (seen.Task t) l = (λ e. sym (l.tasks t.0) ∙ e, λ e. l.tasks t.0 ∙ e)
