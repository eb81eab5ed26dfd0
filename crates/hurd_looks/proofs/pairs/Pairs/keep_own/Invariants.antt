use Rattle.std.proofs.Common.{ℕ, ◌<◌}
use Rattle.hurd_sight.specs.Reach.{among}
use Rattle.hurd_looks.proofs.PairLaws.{KeepsAt}
use Rattle.hurd_looks.proofs.pairs.Pairs.keep_own.Given as goal

-- those so far
abbrev pub invariant-loop-i : goal.invariant-loop-i
invariant-loop-i l = (j : ℕ) → j < l.i → KeepsAt (among l.tasks) l.self j
