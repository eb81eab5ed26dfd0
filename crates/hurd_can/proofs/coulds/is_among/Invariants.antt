use Rattle.std.proofs.Common.{◌≡◌, false, take}
use Rattle.hurd_sight.specs.Reach.{among}
use Rattle.hurd_can.proofs.coulds.is_among.Given as goal

-- none so far
abbrev pub invariant-loop-own : goal.invariant-loop-own
invariant-loop-own l = among (take l.own-index l.tasks) l.task.0 ≡ false
