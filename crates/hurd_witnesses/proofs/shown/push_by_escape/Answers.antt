use Rattle.hurd_witnesses.proofs.ShownLaws.{one_escaped}
use Rattle.hurd_witnesses.proofs.shown.push_by_escape.Goals as goal

pub returns : goal.returns
returns c = rw (one_escaped c.args.byte) at c.push_escaped.ensures
