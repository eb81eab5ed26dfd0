use Rattle.std.specs.Prelude.{option_copied}
use Rattle.hurd_pictures.proofs.DrawingLaws.{drawn_all, drawn_next}
use Rattle.hurd_pictures.proofs.drawing.push_rows.Goals as goal

pub loop-i-preserved : goal.loop-i-preserved
loop-i-preserved c =
    drawn_next c.args.titles.now c.args.view.now (option_copied c.args.theirs) (option_copied c.args.wide) c.args.view.now.rows c.loop-i.i c.name_at.result c.args.text.now.items c.loop-i.text.items
    c.push_drawn_at.new.text.items (rw c.len-i-end.ensures at c.loop-i-test.true) c.name_at.ensures c.in_ok-push_drawn_at.ensures c.loop-i.invariant

pub returns : goal.returns
returns c =
    drawn_all c.args.titles.now c.args.view.now (option_copied c.args.theirs) (option_copied c.args.wide) c.args.view.now.rows c.loop-i.i c.args.text.now.items c.loop-i.text.items
    (rw c.len-i-end.ensures at c.loop-i-test.false) c.loop-i.invariant
