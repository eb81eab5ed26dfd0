use Rattle.std.proofs.Common.{◌≡◌, false, take}
use Rattle.hurd_machine.proofs.Common.{holds_uid, list_any}
use Rattle.hurd_sight.proofs.reach.Reach.holds_any.Given as goal

-- none so far
abbrev pub invariant-loop-uid : goal.invariant-loop-uid
invariant-loop-uid l = list_any (holds_uid l.self) (take l.uid-index l.uids) ≡ false
