use Rattle.hurd_lessons.proofs.LineLaws.{gone_here, gone_line}
use Rattle.hurd_lessons.proofs.lines.add_gone_line.Goals as goal

pub returns-then-has : goal.returns-then-has
returns-then-has c = gone_here c.args.who.now c.args.before.now c.args.after.now c.args.name c.args.text.now.items c.if-has.ensures

pub returns : goal.returns
returns c = gone_line c.args.who.now c.args.before.now c.args.after.now c.args.name c.args.text.now.items c.add_line.new.text.items c.add_line.result c.if-has.ensures c.add_line.ensures
