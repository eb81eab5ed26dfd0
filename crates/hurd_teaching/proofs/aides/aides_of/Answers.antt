use Rattle.hurd_teaching.proofs.AideLaws.{all_aides}
use Rattle.hurd_teaching.proofs.PictureLaws.{said_so}
use Rattle.hurd_teaching.proofs.aides.aides_of.Goals as goal

pub returns : goal.returns
returns c =
    let among = rw c.as_slice.ensures.value at c.aides_among.ensures in
    said_so _ _ c.aides_among.result (λ aides is. all_aides c.args.learners.now.tasks.items c.args.seats.now c.in_ok-tasks.tasks.items aides.items c.in_ok-tasks.ensures is) among
