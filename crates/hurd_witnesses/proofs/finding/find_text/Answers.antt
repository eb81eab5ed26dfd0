use Rattle.std.proofs.lemmas.Result.{err_from_is_err_and}
use Rattle.hurd_witnesses.proofs.FindingLaws.{found_printed, no_memory_after}
use Rattle.hurd_witnesses.proofs.finding.find_text.Goals as goal

pub returns-in_err-found-clause-adds : goal.returns-in_err-found-clause-adds
returns-in_err-found-clause-adds g c =
    let p = err_from_is_err_and c.from_residual-in_err-found.result c.from_residual-in_err-found.ensures.1 in
    rw (p.1, p.2) (no_memory_after g.T.Telling.sort c.args.word.now c.args.text.now _)

pub returns-clause-adds : goal.returns-clause-adds
returns-clause-adds g c =
    let is = rw c.as_slice.ensures.value at c.in_ok-found.ensures in
    let ok = rw c.as_slice-2.ensures.value at c.print.ensures.ok in
    let err = rw c.as_slice-2.ensures.value at c.print.ensures.err in
    found_printed g.T.Telling.sort c.args.word.now c.args.text.now c.in_ok-learned.learned.items c.in_ok-found.found.items c.in_ok-learned.ensures.ok.0 c.in_ok-learned.ensures.ok.1 is c.print.new.self _ _ _ c.print.result ok err
