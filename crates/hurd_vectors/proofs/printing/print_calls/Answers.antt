use Rattle.std.proofs.Common.{arith, inl, inr, refl}
use Rattle.std.proofs.lemmas.Result.{err_from_is_err_and}
use Rattle.hurd_vectors.specs.Ways.{left_of}
use Rattle.hurd_vectors.proofs.PrintedVectors.{all_printed, front_printed, none_printed, one_less, vector_cut, vector_printed}
use Rattle.hurd_vectors.proofs.printing.print_calls.Goals as goal

pub loop-vector-init : goal.loop-vector-init
loop-vector-init g c = none_printed _ (left_of c.args.calls.now)

pub loop-vector-smaller : goal.loop-vector-smaller
loop-vector-smaller g c =
    let goes = rw c.in-Some.is at c.in_ok-vector.ensures in
    let less = one_less (left_of c.loop-vector.calls) (left_of c.next_vector.new.calls) c.in-Some.vector.items goes in
    omega (arith, less)

pub loop-vector-preserved : goal.loop-vector-preserved
loop-vector-preserved g c =
    let goes = rw c.in-Some.is at c.in_ok-vector.ensures in
    let printed = rw c.as_slice.ensures.value at c.in_ok-print.ensures.ok.0 in
    vector_printed _ _ _ (left_of c.loop-vector.calls) c.loop-vector.invariant (left_of c.next_vector.new.calls) c.in-Some.vector.items goes _ printed

pub returns-in_err-vector-clause-err : goal.returns-in_err-vector-clause-err
returns-in_err-vector-clause-err g c =
    let p = err_from_is_err_and c.from_residual.result c.from_residual.ensures.1 in
    rw (p.1, p.2) (inr refl, front_printed _ _ _ (left_of c.loop-vector.calls) c.loop-vector.invariant)

pub returns-in_err-print-clause-err : goal.returns-in_err-print-clause-err
returns-in_err-print-clause-err g c =
    let p = err_from_is_err_and c.from_residual-in_err-print.result c.from_residual-in_err-print.ensures.1 in
    let goes = rw c.in-Some.is at c.in_ok-vector.ensures in
    let failed = c.in_err-print.ensures.err in
    let cut = rw c.as_slice.ensures.value at failed.2 in
    rw (p.1, p.2) (inl (failed.0, failed.1), vector_cut _ _ _ (left_of c.loop-vector.calls) c.loop-vector.invariant (left_of c.next_vector.new.calls) c.in-Some.vector.items goes _ cut)

pub returns-clause-ok : goal.returns-clause-ok
returns-clause-ok g c =
    let goes = rw c.in_default.is at c.in_ok-vector.ensures in
    all_printed _ _ _ (left_of c.loop-vector.calls) c.loop-vector.invariant goes
