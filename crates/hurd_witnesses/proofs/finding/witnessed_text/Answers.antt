use Rattle.hurd_witnesses.proofs.FindingLaws.{all_witnessed}
use Rattle.hurd_witnesses.proofs.finding.witnessed_text.Goals as goal

pub returns : goal.returns
returns g c =
    all_witnessed g.T.Telling.sort c.args.word.now c.args.text.now c.args.learned.now c.in_ok-first.first c.in_ok-first.ensures c.in_ok-hunt.hunt c.in_ok-hunt.ensures c.unended.result.now c.unended.ensures
    c.witnessed.result c.witnessed.ensures
