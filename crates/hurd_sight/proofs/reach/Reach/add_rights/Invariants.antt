use Rattle.std.proofs.Common.{take}
use Rattle.std.specs.List.{list_any}
use Rattle.hurd_sight.specs.Reach.{Gains, right_holds}
use Rattle.hurd_sight.proofs.reach.Reach.add_rights.Given as goal

-- the ids of the rights so far
abbrev pub invariant-loop-right : goal.invariant-loop-right
invariant-loop-right l = Gains l.initial.self l.self (λ holds. list_any (right_holds holds) (take l.right-index l.rights))
