use Rattle.std.proofs.Common.{◌≡◌, drop}
use Rattle.hurd_witnesses.specs.Witnesses.{witness_of}
use Rattle.hurd_witnesses.proofs.witness.witness_of.Given as goal

abbrev pub invariant-loop-trial : goal.invariant-loop-trial
invariant-loop-trial g l = witness_of g.T.Telling.sort l.before l.behind (drop l.trial-index l.trials) ≡ witness_of g.T.Telling.sort l.before l.behind l.trials
