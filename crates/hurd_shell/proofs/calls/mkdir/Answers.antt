use Rattle.hurd_shell.proofs.ProgramLaws.{made_does}
use Rattle.hurd_shell.proofs.calls.mkdir.Goals as goal

pub returns : goal.returns
returns g c = made_does _ _ _ (rw c.directory_mode.ensures at c.in_ok-made.ensures.ok) c.done_of.ensures
