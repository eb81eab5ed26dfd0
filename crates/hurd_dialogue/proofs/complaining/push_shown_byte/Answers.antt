use Rattle.hurd_dialogue.proofs.ShownLaws.{shown_other}
use Rattle.hurd_dialogue.proofs.complaining.push_shown_byte.Goals as goal

pub returns : goal.returns
returns c = rw (shown_other c.args.byte c.if-byte-eq32.false) c.push_escaped.ensures
