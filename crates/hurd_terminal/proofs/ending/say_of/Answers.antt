use Rattle.std.proofs.Common.{◌++◌, [], codes, refl, sym, append-nil}
use Rattle.std.proofs.KnownBytes.{Appends-nil, Appends-trans}
use Rattle.std.proofs.lemmas.Result.{err_from_is_err_and}
use Rattle.hurd_terminal.proofs.OutputLaws.{follows_cut, front_follows}
use Rattle.hurd_terminal.proofs.ending.say_of.Goals as goal

pub returns-in_err-print-clause-err : goal.returns-in_err-print-clause-err
returns-in_err-print-clause-err g c =
    let p = err_from_is_err_and c.from_residual.result c.from_residual.ensures.1 in
    let failed = c.in_err-print.ensures.err in
    rw p.1 (failed.1, front_follows _ _ _ _ [] (codes "hurd: ") (c.args.file.now ++ c.args.tail.now, refl) (Appends-nil _) failed.2)

pub returns-in_err-print-2-clause-err : goal.returns-in_err-print-2-clause-err
returns-in_err-print-2-clause-err g c =
    let p = err_from_is_err_and c.from_residual-in_err-print-2.result c.from_residual-in_err-print-2.ensures.1 in
    let failed = c.in_err-print-2.ensures.err in
    rw p.1 (failed.1, front_follows _ _ _ _ (codes "hurd: ") c.args.file.now (c.args.tail.now, refl) c.in_ok-print.ensures.ok.0 failed.2)

pub returns-clause-err : goal.returns-clause-err
returns-clause-err g c =
    let front = codes "hurd: " ++ c.args.file.now in
    follows_cut c.print-3.new.self _ _ _ _ front c.args.tail.now c.print-3.result ([], sym (append-nil (front ++ c.args.tail.now)))
    (Appends-trans _ _ _ (codes "hurd: ") c.args.file.now c.in_ok-print.ensures.ok.0 c.in_ok-print-2.ensures.ok.0) c.print-3.ensures.err
