use Rattle.hurd_lessons.proofs.SideLaws.{all_apart}
use Rattle.hurd_lessons.proofs.beside.tell_sides.Goals as goal

pub returns : goal.returns
returns c =
    rw c.new.ensures
    (all_apart c.args.who.now c.args.first.now.view.now c.args.second.now.view.now _ _ _ _ _ c.new-text.ensures.items c.in_ok-add_all_second.ensures c.in_ok-add_all_first.ensures c.in_ok-add_tasks.ensures c.in_ok-or_unnamed.ensures)
