use Rattle.hurd_shell.proofs.ProgramLaws.{made_does}
use Rattle.hurd_shell.proofs.calls.set_options.Goals as goal

pub returns : goal.returns
returns g c = made_does _ _ _ c.in_ok-made.ensures.ok c.done_of.ensures
