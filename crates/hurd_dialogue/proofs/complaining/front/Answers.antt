use Rattle.std.proofs.Common.{sym}
use Rattle.std.proofs.lemmas.List.{take_all}
use Rattle.hurd_dialogue.proofs.complaining.front.Goals as goal

pub returns-then-line-le-MOST_SHOWN : goal.returns-then-line-le-MOST_SHOWN
returns-then-line-le-MOST_SHOWN c = sym (take_all 200 c.args.line.now c.if-line-le-MOST_SHOWN.true)
