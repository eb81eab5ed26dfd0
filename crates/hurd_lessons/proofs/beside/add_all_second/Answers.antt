use Rattle.std.proofs.Common.{Some, refl}
use Rattle.hurd_lessons.specs.Beside.{SecondLine}
use Rattle.hurd_lessons.proofs.EachName.{name_there}
use Rattle.hurd_lessons.proofs.LineLaws.{adding_all, adding_at}
use Rattle.hurd_lessons.proofs.beside.add_all_second.Goals as goal

pub loop-i-init : goal.loop-i-init
loop-i-init c = λ rest lines. (rest, refl, lines)

pub loop-i-preserved : goal.loop-i-preserved
loop-i-preserved c =
    adding_at (SecondLine c.args.who.now c.args.first.now.view.now c.args.second.now.view.now) c.args.second.now.view.now.rows c.loop-i.i (Some c.in-Some.name) c.args.text.now.items
    c.loop-i.text.items c.add_second.new.text.items (rw c.len-i-end.ensures at c.loop-i-test.true) c.in-Some.ensures c.in_ok-add_second.ensures c.loop-i.invariant

pub returns-in_default : goal.returns-in_default
returns-in_default c = name_there c.args.second.now.view.now.rows c.loop-i.i (rw c.len-i-end.ensures at c.loop-i-test.true) c.in_default.ensures

pub returns : goal.returns
returns c =
    adding_all (SecondLine c.args.who.now c.args.first.now.view.now c.args.second.now.view.now) c.args.second.now.view.now.rows c.loop-i.i c.args.text.now.items c.loop-i.text.items
    (rw c.len-i-end.ensures at c.loop-i-test.false) c.loop-i.invariant
