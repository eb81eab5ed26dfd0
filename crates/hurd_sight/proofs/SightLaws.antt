-- What is found from the rights of some tasks is what they see.
use Rattle.std.proofs.Common.{◌≡◌, ◌∙◌, ◌⊎◌, inl, inr, sym, refl, ap, subst, ℕ, arith, Bool, true, List, [], ◌∷◌, ◌++◌, ◌≤◌, take, take_all, length}
use Rattle.std.specs.Prelude.{Option, Some, None, slice_get}
use Rattle.hurd_machine.proofs.Common.{Active, Child, Control, Exec, Holds, IdSets, Io, IoRight, IsAmong, Name, Pending, Right, Seen, ServerRoot, Start, Target, Task, TaskId, Way, World, boot_root, rights_of}
use Rattle.std.proofs.lemmas.List.{take-append-le}
use Rattle.std.proofs.lemmas.Option.{slice_get_within}
use Rattle.hurd_ports.specs.declared.parents.Parent.{Parent as Pair}
use Rattle.hurd_machine.specs.World.{nodes_of}
use Rattle.hurd_machine.specs.Sight.{Root, Held, Controlled, Parent}
use Rattle.hurd_sight.specs.Reach.{Reaches, among}
use Rattle.hurd_sight.specs.Found.{FoundAll, FoundIsSeen, IsBefore, IsSight, IsWhy, found_from, gathered, is_found, of_active, of_children, of_node, of_parent, of_plain, of_right, of_server, of_task, of_tasks, of_way, root_of}
use Rattle.hurd_sight.specs.declared.found.Why.{Why}
use Rattle.hurd_sight.specs.declared.found.Why.TheVariants as why
use Rattle.hurd_sight.proofs.CouldLaws.{could_is_enough}
use Rattle.hurd_sight.proofs.ReachLaws.{listed_task, ours, served_is}
use Rattle.hurd_sight.proofs.FoundLaws.{Entries, among_flat, among_found, among_why, flat_among, found_later, found_one, front_at, gathered_kept, gathered_said, gathered_there, why_among}
use Rattle.hurd_sight.proofs.FollowLaws.{follows_closed, follows_kept, follows_said, follows_up_to, plain_grown}
use Rattle.hurd_sight.proofs.NodeLaws.{active_info, child_info, info_active, info_child, info_parent, info_root, info_server, info_target, parent_info, root_info, server_info, target_info}
use Rattle.hurd_machine.proofs.Tasks.{among_cases, among_left, among_right}

-- what a way shows is one of its two nodes
among_way : (n : Name) (y : Why) (p : Pair) → IsAmong (n, y) (of_way p) → (y ≡ why.Way) × ((n ≡ p.at) ⊎ (n ≡ p.parent))
among_way n y p (inl e) = (sym (ap (λ (t : Name × Why). t.1) e), inl (sym (ap (λ (t : Name × Why). t.0) e)))
among_way n y p (inr (inl e)) = (sym (ap (λ (t : Name × Why). t.1) e), inr (sym (ap (λ (t : Name × Why). t.0) e)))
among_way n y p (inr (inr none)) = absurd none

module _ (w : World) (tasks : List TaskId) (ids : IdSets) (es : Entries) (r : Reaches (among tasks) w ids) (all : FoundAll (nodes_of w) w.tasks ids tasks es) where
  abbrev S : ℕ → Bool
  S = among tasks

  -- what each round begins with

  abbrev root : Entries
  root = (boot_root, why.Root) ∷ []

  abbrev begin : Entries
  begin = gathered (of_tasks (nodes_of w) w.tasks tasks) all.plain

  -- all that is found: the root, what rights show, and what found nodes show

  rooted : is_found boot_root es ≡ true
  rooted =
      follows_kept (of_node (nodes_of w) ids) begin es all.follows boot_root
      (gathered_kept boot_root (of_tasks (nodes_of w) w.tasks tasks) all.plain
      (follows_kept (of_plain (nodes_of w) ids) root all.plain all.first boot_root (found_one boot_root why.Root)))

  seeds : (n : Name) (y : Why) → IsAmong (n, y) (of_tasks (nodes_of w) w.tasks tasks) → is_found n es ≡ true
  seeds n y a = follows_kept (of_node (nodes_of w) ids) begin es all.follows n (gathered_there n y (of_tasks (nodes_of w) w.tasks tasks) all.plain a)

  closed : (m n : Name) (y : Why) → is_found m es ≡ true → IsAmong (n, y) (of_node (nodes_of w) ids m) → is_found n es ≡ true
  closed = follows_closed (of_node (nodes_of w) ids) begin es all.follows

  -- why something is shown, if this is why
  abbrev Shows : Name → Why → Type 0
  Shows n y = IsWhy S w n y × Seen S w n × (found_from y ≡ None)

  by_way : (n : Name) (y : Why) (q : IoRight) (p : Pair) → Holds S w (Io q) → IsAmong p q.parents → IsAmong (n, y) (of_way p) → Shows n y
  by_way n y q p has here a = let it = among_way n y p a in rw it.0 ((q, p, has, here, it.1), Way q p has here it.1, refl)

  -- a right that shows something is held, and says why
  by_right : (n : Name) (y : Why) (q : Right) → Holds S w q → IsAmong (n, y) (of_right (nodes_of w) q) → Shows n y
  by_right n y (Io q) has (inl e) = rw (sym (ap (λ (t : Name × Why). t.1) e)) ((q, has, is), Held q has is, refl)
    where
      is : n ≡ q.node
      is = sym (ap (λ (t : Name × Why). t.0) e)
  by_right n y (Io q) has (inr a) = let it = flat_among of_way (n, y) q.parents a in by_way n y q it.0 has it.1 it.2
  by_right n y (Control s) has a =
      let told = among_why (root_of (nodes_of w) s) why.Controlled n y a in
      let it = root_info (nodes_of w) s n told.0 in
      rw told.1 ((s, it.0, has, it.1, it.2), Controlled s it.0 has it.1 it.2, refl)
  by_right n y (Start m) has (inl e) = rw (sym (ap (λ (t : Name × Why). t.1) e)) (holds, Pending holds, refl)
    where
      holds : Holds S w (Start n)
      holds = subst (λ (z : Name). Holds S w (Start z)) (ap (λ (t : Name × Why). t.0) e) has
  by_right n y (Start m) has (inr none) = absurd none

  by_root : (n : Name) (y : Why) → IsAmong (n, y) root → Shows n y
  by_root n y (inl e) = rw (sym (ap (λ (t : Name × Why). t.1) e)) (is, Root is, refl)
    where
      is : n ≡ boot_root
      is = sym (ap (λ (t : Name × Why). t.0) e)
  by_root n y (inr none) = absurd none

  by_seed : (n : Name) (y : Why) → IsAmong (n, y) (of_tasks (nodes_of w) w.tasks tasks) → Shows n y
  by_seed n y a =
      let it = flat_among (λ (t : TaskId). of_task (nodes_of w) (slice_get w.tasks t.0)) (n, y) tasks a in
      at_task it.0 it.1 (slice_get w.tasks it.0.0) refl it.2
    where
      at_task : (t : TaskId) → IsAmong t tasks → (o : Option Task) → slice_get w.tasks t.0 ≡ o → IsAmong (n, y) (of_task (nodes_of w) o) → Shows n y
      at_task t here None is q = absurd q
      at_task t here (Some x) is q =
          let it = flat_among (of_right (nodes_of w)) (n, y) (rights_of x) q in
          by_right n y it.0 (record { task = t.0; ours = ours tasks t here; seat = x; is_task = is; here = it.1 }) it.2

  by_node : (m n : Name) (y : Why) → Seen S w m → IsAmong (n, y) (of_node (nodes_of w) ids m) → IsWhy S w n y × Seen S w n × (found_from y ≡ Some m)
  by_node m n y seen a =
      let h = nodes_of w in
      elim (among_cases (n, y) (of_children h ids m) _ a) [
        | inl c ↦
            let it = child_info h ids m n y c in
            let could = (could_is_enough S w ids it.0.0 Exec r).0 it.0.4 in
            rw it.1 ((it.0.0, it.0.1, it.0.2, it.0.3, could, it.0.5), Child m it.0.0 it.0.1 seen it.0.2 it.0.3 could it.0.5, refl)
        | inr b ↦ elim (among_cases (n, y) (of_parent h m) _ b) [
          | inl p ↦ let it = parent_info h m n y p in rw it.3 ((it.0, it.1, it.2), Parent m it.0 seen it.1 it.2, refl)
          | inr c ↦ elim (among_cases (n, y) (of_active h m) _ c) [
            | inl p ↦ let it = active_info h m n y p in rw it.5 ((it.0, it.1, it.2, it.3, it.4), Active m it.0 it.1 seen it.2 it.3 it.4, refl)
            | inr d ↦ elim (among_cases (n, y) (of_server h ids m) _ d) [
              | inl p ↦
                  let it = server_info h ids m n y p in
                  let could = (served_is r it.1).0 it.4 in
                  rw it.6 ((it.0, it.1, it.2, it.3, could, it.5), ServerRoot m it.0 it.1 seen it.2 it.3 could it.5, refl)
              | inr p ↦ let it = target_info h m n y p in rw it.1 (it.0, Target m it.0.0 it.0.1 seen it.0.2 it.0.3 it.0.4, refl)
            ]
          ]
        ]
      ]

  -- what it shows by entries and its active server alone is among it
  by_plain : (m n : Name) (y : Why) → Seen S w m → IsAmong (n, y) (of_plain (nodes_of w) ids m) → IsWhy S w n y × Seen S w n × (found_from y ≡ Some m)
  by_plain m n y seen a = by_node m n y seen (elim (among_cases (n, y) (of_children (nodes_of w) ids m) (of_active (nodes_of w) m) a) [
    | inl c ↦ among_left _ (of_children (nodes_of w) ids m) _ c
    | inr b ↦ among_right _ (of_children (nodes_of w) ids m) _ (among_right _ (of_parent (nodes_of w) m) _ (among_left _ (of_active (nodes_of w) m) _ b))
  ])

  -- what a held right shows is found
  of_held : (n : Name) (y : Why) (q : Right) → Holds S w q → IsAmong (n, y) (of_right (nodes_of w) q) → is_found n es ≡ true
  of_held n y q has a =
      let found = listed_task tasks has.task has.ours in
      let there : slice_get w.tasks found.0.0 ≡ Some has.seat = ap (slice_get w.tasks) found.2 ∙ has.is_task in
      seeds n y
      (among_flat (λ (t : TaskId). of_task (nodes_of w) (slice_get w.tasks t.0)) found.0 (n, y) tasks found.1
      (subst (λ (o : Option Task). IsAmong (n, y) (of_task (nodes_of w) o)) (sym there) (among_flat (of_right (nodes_of w)) q (n, y) (rights_of has.seat) has.here a)))

  -- whatever the first round found is seen
  plain_seen : (k : ℕ) (n : Name) → is_found n (take k all.plain) ≡ true → Seen S w n
  plain_seen =
      follows_up_to (of_plain (nodes_of w) ids) root all.plain all.first (Seen S w) (λ n y a. (by_root n y a).1)
      (λ m n y seen a. (by_plain m n y seen a).1)

  -- whatever is found up to an index is seen
  seen_to : (k : ℕ) (n : Name) → is_found n (take k es) ≡ true → Seen S w n
  seen_to = follows_up_to (of_node (nodes_of w) ids) begin es all.follows (Seen S w) begins (λ m n y seen a. (by_node m n y seen a).1)
    where
      begins : (n : Name) (y : Why) → IsAmong (n, y) begin → Seen S w n
      begins n y a = elim (gathered_said (n, y) (of_tasks (nodes_of w) w.tasks tasks) all.plain a) [
        | inl old ↦ plain_seen (length all.plain) n (ap (is_found n) (take_all (length all.plain) all.plain (omega arith)) ∙ among_found (n, y) all.plain old)
        | inr held ↦ (by_seed n y held).1
      ]

  -- what the first round found has a reason, after the node that it was found from
  plain_why : (i : ℕ) (n : Name) (y : Why) → slice_get es i ≡ Some (n, y) → IsAmong (n, y) all.plain → IsWhy S w n y × IsBefore (found_from y) (take i es)
  plain_why i n y at here = elim (follows_said (of_plain (nodes_of w) ids) root all.plain all.first place.0 n y place.2) [
    | inl seed ↦ let it = by_root n y seed in (it.0, subst (λ (o : Option Name). IsBefore o (take i es)) (sym it.2) tt)
    | inr node ↦
        let it = by_plain node.0 n y (plain_seen place.0 node.0 node.1) node.2 in
        let before = found_later node.0 place.0 i es place.1 (ap (is_found node.0) front ∙ node.1) in
        (it.0, subst (λ (o : Option Name). IsBefore o (take i es)) (sym it.2) before)
  ]
    where
      grown : (more : Entries) × (es ≡ all.plain ++ more)
      grown = plain_grown (nodes_of w) w.tasks ids tasks es all

      place : (j : ℕ) × (j ≤ i) × (slice_get all.plain j ≡ Some (n, y))
      place = front_at (n, y) all.plain grown.0 i (sym (ap (λ (gs : Entries). slice_get gs i) grown.1) ∙ at) here

      front : take place.0 es ≡ take place.0 all.plain
      front = ap (take place.0) grown.1 ∙ take-append-le place.0 all.plain grown.0 (omega (arith, slice_get_within all.plain place.0 (n, y) place.2))

  -- whatever is seen is found
  found_of : (n : Name) → Seen S w n → is_found n es ≡ true
  found_of n (Root is) = subst (λ (m : Name). is_found m es ≡ true) (sym is) rooted
  found_of n (Held q has is) = of_held n why.Held (Io q) has (inl (ap (λ (m : Name). (m, why.Held)) (sym is)))
  found_of n (Way q p has here is) = of_held n why.Way (Io q) has (inr (among_flat of_way p (n, why.Way) q.parents here (elim is [
    | inl at ↦ inl (ap (λ (m : Name). (m, why.Way)) (sym at))
    | inr parent ↦ inr (inl (ap (λ (m : Name). (m, why.Way)) (sym parent)))
  ])))
  found_of n (Controlled s i has there is) = of_held n why.Controlled (Control s) has (why_among (root_of (nodes_of w) s) why.Controlled n (info_root (nodes_of w) s n i there is))
  found_of n (Pending has) = of_held n why.Pending (Start n) has (inl refl)
  found_of n (Child d h name seen there dir could entry) =
      closed d n (why.Child d) (found_of d seen)
      (among_left _ (of_children (nodes_of w) ids d) _ (info_child (nodes_of w) ids d n (h, name, there, dir, (could_is_enough S w ids h Exec r).1 could, entry)))
  found_of n (Parent d h seen there is) =
      closed d n (why.Parent d) (found_of d seen)
      (among_right _ (of_children (nodes_of w) ids d) _ (among_left _ (of_parent (nodes_of w) d) _ (info_parent (nodes_of w) d n h there is)))
  found_of n (Active m s i seen active there is) =
      closed m n (why.Active m) (found_of m seen)
      (among_right _ (of_children (nodes_of w) ids m) _
      (among_right _ (of_parent (nodes_of w) m) _ (among_left _ (of_active (nodes_of w) m) _ (info_active (nodes_of w) m n s i active there is))))
  found_of n (ServerRoot m s i seen home there could is) =
      closed m n (why.ServerRoot m) (found_of m seen)
      (among_right _ (of_children (nodes_of w) ids m) _
      (among_right _ (of_parent (nodes_of w) m) _
      (among_right _ (of_active (nodes_of w) m) _
      (among_left _ (of_server (nodes_of w) ids m) _ (info_server (nodes_of w) ids m n s i home there ((served_is r i).1 could) is)))))
  found_of n (Target m s i seen by there aim) =
      closed m n (why.Target m) (found_of m seen)
      (among_right _ (of_children (nodes_of w) ids m) _
      (among_right _ (of_parent (nodes_of w) m) _
      (among_right _ (of_active (nodes_of w) m) _
      (among_right _ (of_server (nodes_of w) ids m) _ (info_target (nodes_of w) m n (s, i, by, there, aim))))))

  sight : IsSight S w es
  sight = record {
    exact = λ n. (λ f. seen_to (length es) n (ap (is_found n) (take_all (length es) es (omega arith)) ∙ f), found_of n);
    why = λ i n y at. elim (follows_said (of_node (nodes_of w) ids) begin es all.follows i n y at) [
      | inl seed ↦ elim (gathered_said (n, y) (of_tasks (nodes_of w) w.tasks tasks) all.plain seed) [
        | inl here ↦ plain_why i n y at here
        | inr held ↦ let it = by_seed n y held in (it.0, subst (λ (o : Option Name). IsBefore o (take i es)) (sym it.2) tt)
      ]
      | inr node ↦ let it = by_node node.0 n y (seen_to i node.0 node.1) node.2 in (it.0, subst (λ (o : Option Name). IsBefore o (take i es)) (sym it.2) node.1)
    ];
  }

pub found_is_seen : FoundIsSeen
found_is_seen w tasks ids es r all = sight w tasks ids es r all
