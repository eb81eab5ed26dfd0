use Rattle.std.proofs.Common.{◌≡◌}
use Rattle.hurd_client.specs.Openings.{opening_of, steps_of}
use Rattle.hurd_kinds.specs.Boxes.{box_meaning}
use Rattle.hurd_world.specs.Held.{world_of}
use Rattle.hurd_sitting.proofs.OpenLaws.{Come}
use Rattle.hurd_sitting.proofs.opening.open.Given as goal

-- the opening has come to where it is, by calls that were told
abbrev pub invariant-turns : goal.invariant-turns
invariant-turns l = record {
  come : Come l.fn.stage.learners l.fn.task (opening_of l.fn.opening) (world_of box_meaning l.fn.stage.world) l.fn.told.items l.told.items (opening_of l.opening) (world_of box_meaning l.stage.world);
  same : l.stage.learners ≡ l.fn.stage.learners;
}

abbrev pub decreases-turns : goal.decreases-turns
decreases-turns l = steps_of l.opening
