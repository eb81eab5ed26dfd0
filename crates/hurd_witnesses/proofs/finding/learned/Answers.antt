use Rattle.std.proofs.Common.{refl}
use Rattle.hurd_witnesses.proofs.FindingLaws.{kept_all, not_kept}
use Rattle.hurd_witnesses.proofs.finding.learned.Goals as goal

pub returns-in-Ok-clause-ok : goal.returns-in-Ok-clause-ok
returns-in-Ok-clause-ok g c =
    let adds = rw (c.new-kept.ensures, c.new.ensures.items) at c.in-Ok.ensures.adds in
    kept_all g.T.Telling.sort c.args.word.now c.args.text.now c.learn_text.new.output.writer.items adds.0 c.in-Ok.field-0 adds.1 adds.2

pub returns-in-Err-clause-err : goal.returns-in-Err-clause-err
returns-in-Err-clause-err g c =
    not_kept g.T.Telling.sort c.args.word.now c.args.text.now c.in-Err.fault c.kept_fault.result c.in-Err.ensures.adds.0 c.kept_fault.ensures (λ e. c.in-Err.ensures.read (rw e refl)) c.in-Err.ensures.adds.2
