use Rattle.hurd_pictures.proofs.EscapeLaws.{one_escaped}
use Rattle.hurd_pictures.proofs.bytes.push_by_escape.Goals as goal

pub returns : goal.returns
returns c = rw (one_escaped c.args.byte) at c.push_escaped.ensures
