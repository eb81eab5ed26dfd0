-- From where one has come to, with the steps that are left, the answer is that from the start.
use Rattle.std.proofs.Common.{◌≡◌, ◌-◌}
use Rattle.hurd_core.specs.Core.{world_of}
use Rattle.hurd_dirs.specs.Rename.{met_within, is_inside}
use Rattle.hurd_dirs.proofs.rename.is_inside.Given as goal

abbrev pub invariant-loop : goal.invariant-loop
invariant-loop g l = let w = world_of g.S.Server.meaning l.core in met_within (18446744073709551615 - l.counter) w l.node l.at ≡ is_inside w l.node l.fn.dir
