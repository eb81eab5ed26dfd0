use Rattle.hurd_lessons.proofs.SeenLaws.{seen_all, seen_next, seen_none}
use Rattle.hurd_lessons.proofs.seen_lines.lines.Goals as goal

pub loop-i-init : goal.loop-i-init
loop-i-init c = seen_none c.args.who.now c.args.view.now c.args.view.now.rows _ c.new-text.ensures.items

pub loop-i-preserved : goal.loop-i-preserved
loop-i-preserved c =
    seen_next c.args.who.now c.args.view.now c.args.view.now.rows c.loop-i.i c.name_at.result c.loop-i.text.items c.add_line_at.new.text.items
    (rw c.len-i-end.ensures at c.loop-i-test.true) c.name_at.ensures c.in_ok-add_line_at.ensures c.loop-i.invariant

pub returns : goal.returns
returns c =
    seen_all c.args.who.now c.args.view.now c.args.view.now.rows c.loop-i.i c.loop-i.text.items
    (rw c.len-i-end.ensures at c.loop-i-test.false) c.loop-i.invariant
