-- A server that the core seats is the machine's attaching of it.
use Rattle.std.proofs.Common.{◌≡◌, ◌∙◌, ◌<◌, ◌≤◌, inr, ℕ, ◌+◌, Bool, true, false, List, [], ◌∷◌, ◌++◌, Option, Some, None, refl, sym, ap, slice_get, slice_set, arith}
use Rattle.std.proofs.lemmas.Bool.Decides.{nat_tests}
use Rattle.std.specs.Prelude.{IsSomeAnd, Ok, Err, is_ok}
use Rattle.std.specs.Option.{option_map}
use Rattle.hurd_nodes.specs.declared.seat.Place.{Place}
use Rattle.hurd_machine.proofs.Common.{Attach, Change, ENOMEM, IdSets, Meaning, Name, Node, NodeState, PortState, ServerInfo, Settle, Task, World, apply_all, attached, begun_info, begun_root, can_name, edit_task, fresh, name_step, naming_of, pending, u64_greatest, without_old, world_from}
use Rattle.hurd_ports.specs.Steps.{named}
use Rattle.hurd_ports.proofs.TaskLaws.{edit-edit, edit-found, edit-here}
use Rattle.hurd_machine.specs.Change.{settle}
use Rattle.hurd_core.specs.declared.to_make.ServerToMake.{ServerToMake}
use Rattle.hurd_core.specs.Core.{Does, attaching, leaving, naming_asks, placed, started_over, starting_over}
use Rattle.hurd_core.proofs.CoreLaws.{naming-had}

module _ (N : NodeState) (H : PortState) (t : ℕ) where
  abbrev w : World
  w = world_from N H

  -- two names given, one after the other
  abbrev pub two_named : PortState
  two_named = name_step t (name_step t H)

  two_more : (x : Task) → named 1 (named 1 x) ≡ named 2 x
  two_more x = let sum : x.made + 1 + 1 ≡ x.made + 2 = omega arith in ap (λ (k : ℕ). let y : Task = record x { made = k } in y) sum

  both_named : (x : Task) → slice_get H.tasks t ≡ Some x → edit_task t (named 1) (edit_task t (named 1) H.tasks) ≡ edit_task t (named 2) H.tasks
  both_named x at = edit-edit t (named 1) (named 1) H.tasks x at ∙ ap (λ (y : Task). slice_set H.tasks t y) (two_more x) ∙ sym (edit-found t (named 2) H.tasks x at)

  -- to start over, and to settle last, are changes more
  settled_last : (o : Option Name) (c : Change) (starts : Bool) (M : NodeState) (K : PortState) → world_from M K ≡ apply_all (leaving o ++ c ∷ []) w
      → settle (world_from M (started_over t starts K)) ≡ apply_all (leaving o ++ c ∷ (starting_over t starts ++ Settle ∷ [])) w
  settled_last None c true M K is = ap (λ (z : World). apply_all (pending t None) z) is
  settled_last None c false M K is = ap settle is
  settled_last (Some q) c true M K is = ap (λ (z : World). apply_all (pending t None) z) is
  settled_last (Some q) c false M K is = ap settle is

  module _ (p : ServerToMake) (ids : IdSets) (targets : List Name) (m : Meaning) where
    -- the nodes with the server that is at a place
    abbrev pub seated : Place → NodeState
    seated at = attached at.name at.seat (begun_info m at.root ids targets) (begun_root m at.owner at.group at.mode) (without_old p.instead N)

    -- with them the tables that gave two names are the world in which it was attached
    seated-world : (o : Option Name) (x : Task) → slice_get H.tasks t ≡ Some x → (s : Name) (i : ServerInfo) (node : Node) → s.task.0 ≡ t
        → world_from (attached s p.seat i node (without_old o N)) two_named ≡ apply_all (leaving o ++ Attach s p.seat i node ∷ []) w
    seated-world o x at s i node own =
        ap (λ (ts : List Task). world_from (attached s p.seat i node (without_old o N)) (record { opens = H.opens; tasks = ts }))
        (both_named x at ∙ ap (λ (q : ℕ). edit_task q (named 2) H.tasks) (sym own)) ∙ by o
      where
        by : (o : Option Name) → world_from (attached s p.seat i node (without_old o N)) (record { opens = H.opens; tasks = edit_task s.task.0 (named 2) H.tasks }) ≡ apply_all (leaving o ++ Attach s p.seat i node ∷ []) w
        by None = refl
        by (Some q) = refl

  module _ (free : naming_of H t 2 ≡ Ok tt) where
    abbrev here : (x : Task) × (slice_get H.tasks t ≡ Some x) × (can_name 2 x ≡ true) × (naming_asks w t 2 ≡ Ok x)
    here = naming-had N H t 2 tt free

    -- where one name is given, there is one more
    pub name-left : IsSomeAnd (slice_get (name_step t H).tasks t) (λ (x : Task). x.made < u64_greatest)
    name-left =
        let more : here.0.made + 2 ≤ u64_greatest = grind (arith, nat_tests, here.2) in
        rw (edit-here t (named 1) H.tasks, here.1) (omega (arith, more))

    module _ (p : ServerToMake) (ids : IdSets) (targets : List Name) (m : Meaning) where
      -- a task that finds no memory changes nothing
      pub attach-lacks : Does w (naming_asks w t 2) (attaching t p ids targets m) (λ x. tt {0}) (Err ENOMEM) w
      attach-lacks = (refl, inr (refl, ap is_ok here.3))

      -- all of it: the server seated under the next name, the names given, the start over if there was one, and what is left
      pub attach-done : (n : Name) → Some n ≡ option_map (fresh t) (slice_get H.tasks t) → (M : NodeState) (z : World) → M ≡ seated p ids targets m (placed p n) → z ≡ settle (world_from M (started_over t p.starts two_named))
          → Does w (naming_asks w t 2) (attaching t p ids targets m) (λ x. tt {0}) (Ok tt) z
      attach-done n next M z is left =
          let x = here.0 in
          let one : Some n ≡ Some (fresh t x) = next ∙ ap (option_map (fresh t)) here.1 in
          let name : n ≡ fresh t x = cc in
          let info = begun_info m (fresh t (named 1 x)) ids targets in
          let node = begun_root m p.owner p.group p.mode in
          let nodes : M ≡ attached (fresh t x) p.seat info node (without_old p.instead N) = is ∙ ap (λ (k : Name). seated p ids targets m (placed p k)) name in
          let world = ap (λ (k : NodeState). world_from k two_named) nodes ∙ seated-world p ids targets m p.instead x here.1 (fresh t x) info node refl in
          (x, here.3, refl, left ∙ settled_last p.instead (Attach (fresh t x) p.seat info node) p.starts M two_named world)
