use Rattle.hurd_teaching.proofs.SeenLaws.{view_shown}
use Rattle.hurd_teaching.proofs.telling.shown.Goals as goal

pub returns : goal.returns
returns g c =
    let views = rw c.as_slice.ensures.value at c.in_ok-view.ensures in
    view_shown c.args.learners.now.tasks.items c.args.learners.now.sees.items _ c.args.asked _ c.in_ok-view.view.value _ c.seen.result c.if-not-asked.false views c.as_slice-2.ensures.value c.deref.ensures c.seen.ensures
