use Rattle.std.proofs.Common.{length}
use Rattle.std.specs.List.{concat}
use Rattle.hurd_vectors.specs.Ways.{left_of}
use Rattle.hurd_vectors.proofs.PrintedVectors.{PrintedSoFar}
use Rattle.hurd_vectors.proofs.printing.print_calls.Given as goal

-- of all that was left, what was made so far was printed
abbrev pub invariant-loop-vector : goal.invariant-loop-vector
invariant-loop-vector g l = PrintedSoFar (concat (left_of l.fn.calls)) (g.W.Write.contents l.fn.output.writer) (g.W.Write.contents l.output.writer) (left_of l.calls)

abbrev pub decreases-loop-vector : goal.decreases-loop-vector
decreases-loop-vector g l = length (left_of l.calls)
