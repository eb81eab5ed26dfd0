use Rattle.std.proofs.Common.{◌≡◌, map, take}
use Rattle.hurd_can.specs.Noting.{unhelped}
use Rattle.hurd_can.proofs.looking.unhelped.Given as goal

abbrev pub invariant-loop-part : goal.invariant-loop-part
invariant-loop-part l = l.all.items ≡ map unhelped (take l.part-index l.parts)
