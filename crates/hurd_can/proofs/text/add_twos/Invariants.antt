use Rattle.std.proofs.Common.{◌≡◌, drop}
use Rattle.hurd_can.specs.Could.{with_twos}
use Rattle.hurd_can.proofs.text.add_twos.Given as goal

-- with those that are left, these are all
abbrev pub invariant-loop-pair : goal.invariant-loop-pair
invariant-loop-pair l = with_twos l.names l.text.items (drop l.pair-index l.twos) ≡ with_twos l.names l.fn.text.items l.twos
