use Rattle.hurd_teaching.proofs.laws.one_picture_is_drawn.Goals as goal
use Rattle.hurd_teaching.proofs.OnePicture.{one_picture}

pub returns : goal.returns
returns c = one_picture
