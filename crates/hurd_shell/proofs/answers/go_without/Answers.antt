use Rattle.std.proofs.Common.{refl}
use Rattle.hurd_shell.proofs.answers.go_without.Goals as goal

pub returns : goal.returns
returns g c = (refl, rw c.as_stage.ensures at (c.in_ok-give_up_start.ensures c.args.waiting.words))
