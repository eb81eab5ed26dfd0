use Rattle.std.proofs.Common.{sym}
use Rattle.std.proofs.lemmas.List.{take_all}
use Rattle.hurd_witnesses.proofs.shown.front.Goals as goal

pub returns-then-marks-le-MOST_SHOWN : goal.returns-then-marks-le-MOST_SHOWN
returns-then-marks-le-MOST_SHOWN c = sym (take_all 200 c.args.marks.now c.if-marks-le-MOST_SHOWN.true)
