use Rattle.std.proofs.Common.{◌≡◌, ◌+◌, drop}
use Rattle.hurd_witnesses.specs.Answers.{first_difference}
use Rattle.hurd_witnesses.proofs.shown.first_difference.Given as goal

abbrev pub invariant-loop-at : goal.invariant-loop-at
invariant-loop-at l = first_difference (drop l.at l.one) (drop l.at l.other) + l.at ≡ first_difference l.one l.other
