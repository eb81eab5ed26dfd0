use Rattle.std.proofs.Common.{true}
use Rattle.hurd_looks.specs.Pairings.{PairsFor}
use Rattle.hurd_looks.specs.Renamed.{listed, named_row_renamed}
use Rattle.hurd_looks.proofs.MeetLaws.{Before}
use Rattle.hurd_looks.proofs.looking.meet_rows.Given as goal

-- those so far
abbrev pub invariant-loop-i : goal.invariant-loop-i
invariant-loop-i l = PairsFor (λ f. Before named_row_renamed f l.i (listed l.some) (listed l.others)) l.initial.pairs true l.pairs
