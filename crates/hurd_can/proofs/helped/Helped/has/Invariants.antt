use Rattle.std.proofs.Common.{◌≡◌, false, take}
use Rattle.hurd_sight.specs.Reach.{among}
use Rattle.hurd_can.proofs.helped.Helped.has.Given as goal

-- none so far
abbrev pub invariant-loop-one : goal.invariant-loop-one
invariant-loop-one l = among (take l.one-index l.self.ones) l.task.0 ≡ false
