use Rattle.std.proofs.Common.{true}
use Rattle.hurd_looks.specs.Pairings.{PairsFor}
use Rattle.hurd_looks.proofs.MeetLaws.{Before}
use Rattle.hurd_looks.proofs.meet.meet_all.Given as goal

-- those so far
abbrev pub invariant-loop-i : goal.invariant-loop-i
invariant-loop-i g l = PairsFor (λ f. Before g.T.Meet.renamed f l.i l.some l.others) l.initial.pairs true l.pairs
