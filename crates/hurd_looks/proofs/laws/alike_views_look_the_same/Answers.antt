use Rattle.hurd_looks.proofs.AlikeLaws.{alike_looks}
use Rattle.hurd_looks.proofs.laws.alike_views_look_the_same.Goals as goal

pub returns : goal.returns
returns c = alike_looks
