use Rattle.std.proofs.Common.{◌≡◌, drop}
use Rattle.hurd_can.specs.Ways.{sets_of_two}
use Rattle.hurd_can.proofs.ways.add_twos.Given as goal

-- with those that are left, these are all
abbrev pub invariant-loop-pair : goal.invariant-loop-pair
invariant-loop-pair l = sets_of_two l.sets.items (drop l.pair-index l.twos) ≡ sets_of_two l.fn.sets.items l.twos
