use Rattle.std.proofs.Common.{take}
use Rattle.hurd_union.specs.There.{Tells}
use Rattle.hurd_union.proofs.merge.noted.Given as goal

-- the names so far
abbrev pub invariant-loop-name : goal.invariant-loop-name
invariant-loop-name l = Tells l.there.keys (take l.name-index l.names)
