use Rattle.std.proofs.Common.{refl}
use Rattle.std.proofs.lemmas.Result.{err_from_is_err_and}
use Rattle.hurd_pairs.specs.Reports.{verdict_of}
use Rattle.hurd_pairs.specs.Whole.{IsReport}
use Rattle.hurd_pairs.proofs.ScriptLaws.{nothing_printed, report_cut, report_printed}
use Rattle.hurd_pairs.proofs.scripts.compare_fit.Goals as goal

pub returns-in_err-compared : goal.returns-in_err-compared
returns-in_err-compared g c =
    let p = err_from_is_err_and c.from_residual.result c.from_residual.ensures.1 in
    rw (p.1, p.2) (nothing_printed _ _ _ _ _ _ _ (g.W.Write.contents c.args.output.now.writer))

pub returns-in_err-text : goal.returns-in_err-text
returns-in_err-text g c =
    let p = err_from_is_err_and c.from_residual-in_err-text.result c.from_residual-in_err-text.ensures.1 in
    rw (p.1, p.2) (nothing_printed _ _ _ _ _ _ _ (g.W.Write.contents c.args.output.now.writer))

pub returns-in_err-print : goal.returns-in_err-print
returns-in_err-print g c =
    let p = err_from_is_err_and c.from_residual-in_err-print.result c.from_residual-in_err-print.ensures.1 in
    let failed = c.in_err-print.ensures.err in
    let report : IsReport c.args.learners.now c.args.one.now c.args.two.now (g.T.Telling.way c.args.first.now) (g.T.Telling.way c.args.second.now) (verdict_of c.in_ok-compared.compared.told) c.in_ok-text.text.items = record {
      compared = c.in_ok-compared.compared;
      compares = c.in_ok-compared.ensures;
      judged = refl;
      is = rw (c.heading.ensures, c.heading-2.ensures) at c.in_ok-text.ensures;
    } in
    rw (p.1, p.2, failed.0) (report_cut _ _ _ _ _ c.print.new.self _ _ _ _ failed.1 report (rw c.as_slice.ensures.value at failed.2))

pub returns : goal.returns
returns g c =
    let report : IsReport c.args.learners.now c.args.one.now c.args.two.now (g.T.Telling.way c.args.first.now) (g.T.Telling.way c.args.second.now) c.verdict.result c.in_ok-text.text.items = record {
      compared = c.in_ok-compared.compared;
      compares = c.in_ok-compared.ensures;
      judged = c.verdict.ensures;
      is = rw (c.heading.ensures, c.heading-2.ensures) at c.in_ok-text.ensures;
    } in
    report_printed _ _ _ _ _ c.print.new.self _ _ _ _ report (rw c.as_slice.ensures.value at c.in_ok-print.ensures.ok.0)
