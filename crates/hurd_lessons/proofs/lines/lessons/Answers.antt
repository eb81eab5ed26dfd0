use Rattle.hurd_lessons.proofs.LineLaws.{all_told}
use Rattle.hurd_lessons.proofs.lines.lessons.Goals as goal

pub returns : goal.returns
returns c =
    rw c.new.ensures
    (all_told c.args.who.now c.args.before.now c.args.after.now _ _ _ _ _ c.new-text.ensures.items
    c.in_ok-add_seen.ensures c.in_ok-add_gone.ensures c.in_ok-add_tasks.ensures c.in_ok-add_count.ensures)
