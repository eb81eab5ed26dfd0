use Rattle.std.proofs.Common.{◌≡◌}
use Rattle.std.specs.Vec.Iter.{into_iter_items}
use Rattle.hurd_kinds.specs.Boxes.{box_meaning}
use Rattle.hurd_world.specs.Held.{world_of}
use Rattle.hurd_sitting.specs.Sittings.{listed}
use Rattle.hurd_sitting.proofs.MadeLaws.{Made}
use Rattle.hurd_sitting.proofs.making.make_all.Given as goal

-- the calls before what is left were made, and told
abbrev pub invariant-loop-listed : goal.invariant-loop-listed
invariant-loop-listed l = record {
  can : goal.iterator-loop-listed.can_next l.listed-iterator;
  ends : goal.iterator-loop-listed.is_finite l.listed-iterator;
  made : Made l.fn.stage.learners (listed l.fn.calls.items) (world_of box_meaning l.fn.stage.world) l.fn.told.items l.told.items (listed (into_iter_items l.listed-iterator)) (world_of box_meaning l.stage.world);
  same : l.stage.learners ≡ l.fn.stage.learners;
}
