use Rattle.std.proofs.Common.{refl}
use Rattle.std.proofs.lemmas.Result.{err_from_is_err_and}
use Rattle.hurd_terminal.proofs.RunLaws.{no_memory, read_nowhere, write_blamed}
use Rattle.hurd_dialogue.proofs.Printed.{not_begun_adds, not_begun_reads, not_begun_writes}
use Rattle.hurd_calls.specs.Lists.{lists}
use Rattle.hurd_vectors.specs.Vectors.{vectors}
use Rattle.hurd_vectors.proofs.PrintedVectors.{calls_add, header_cut}
use Rattle.hurd_vectors.proofs.printing.print_vectors.Goals as goal

pub returns-in_err-calls-clause-adds : goal.returns-in_err-calls-clause-adds
returns-in_err-calls-clause-adds g c =
    let p = err_from_is_err_and c.from_residual.result c.from_residual.ensures.1 in
    rw (p.1, p.2) (not_begun_adds vectors lists _ c.args.text.now c.in_err-calls.field-0.0 refl refl c.in_err-calls.ensures.err)

pub returns-in_err-calls-clause-read : goal.returns-in_err-calls-clause-read
returns-in_err-calls-clause-read g c =
    let p = err_from_is_err_and c.from_residual.result c.from_residual.ensures.1 in
    rw (p.1, p.2) (not_begun_reads lists c.args.text.now _ c.in_err-calls.field-0.0 refl c.in_err-calls.ensures.err)

pub returns-in_err-calls-clause-write : goal.returns-in_err-calls-clause-write
returns-in_err-calls-clause-write g c =
    let p = err_from_is_err_and c.from_residual.result c.from_residual.ensures.1 in
    rw (p.1, p.2) (not_begun_writes lists c.args.text.now _ c.in_err-calls.field-0.0 refl c.in_err-calls.ensures.err)

pub returns-in_err-header-clause-adds : goal.returns-in_err-header-clause-adds
returns-in_err-header-clause-adds g c =
    let p = err_from_is_err_and c.from_residual-in_err-header.result c.from_residual-in_err-header.ensures.1 in
    rw (p.1, p.2) (no_memory vectors _ c.args.text.now)

pub returns-in_err-print-clause-adds : goal.returns-in_err-print-clause-adds
returns-in_err-print-clause-adds g c =
    let p = err_from_is_err_and c.from_residual-in_err-print.result c.from_residual-in_err-print.ensures.1 in
    let failed = c.in_err-print.ensures.err in
    let cut = rw c.as_slice.ensures.value at failed.2 in
    rw (p.1, p.2) (header_cut c.args.text.now c.in_ok-header.header.items c.in_ok-calls.calls c.in_ok-calls.ensures.ok c.in_ok-header.ensures c.print.new.self _ _ _ failed.0 failed.1 cut)

pub returns-clause-adds : goal.returns-clause-adds
returns-clause-adds g c =
    let first = rw c.as_slice.ensures.value at c.in_ok-print.ensures.ok.0 in
    calls_add c.args.text.now c.in_ok-header.header.items c.in_ok-calls.calls c.in_ok-calls.ensures.ok c.in_ok-header.ensures c.print_calls.new.output _ _ _ c.print_calls.result first c.print_calls.ensures.ok c.print_calls.ensures.err

pub returns-clause-read : goal.returns-clause-read
returns-clause-read g c = read_nowhere c.print_calls.new.output _ c.print_calls.result c.print_calls.ensures.err

pub returns-clause-write : goal.returns-clause-write
returns-clause-write g c = write_blamed c.print_calls.new.output _ c.print_calls.result c.print_calls.ensures.err
