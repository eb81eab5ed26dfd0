use Rattle.hurd_lessons.specs.Lessons.{LineOf}
use Rattle.hurd_lessons.proofs.LineLaws.{adding_all, adding_at}
use Rattle.hurd_lessons.proofs.lines.add_seen.Goals as goal

pub loop-i-preserved : goal.loop-i-preserved
loop-i-preserved c =
    adding_at (LineOf c.args.who.now c.args.before.now c.args.after.now) c.args.after.now.rows c.loop-i.i c.name_at.result c.args.text.now.items c.loop-i.text.items c.add_line_at.new.text.items
    (rw c.len-i-end.ensures at c.loop-i-test.true) c.name_at.ensures c.in_ok-add_line_at.ensures c.loop-i.invariant

pub returns : goal.returns
returns c =
    adding_all (LineOf c.args.who.now c.args.before.now c.args.after.now) c.args.after.now.rows c.loop-i.i c.args.text.now.items c.loop-i.text.items
    (rw c.len-i-end.ensures at c.loop-i-test.false) c.loop-i.invariant
