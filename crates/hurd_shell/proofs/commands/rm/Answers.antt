use Rattle.hurd_shell.proofs.ProgramLaws.{does_ok, does_err, does_gives}
use Rattle.hurd_shell.proofs.commands.rm.Goals as goal

pub returns : goal.returns
returns g c = rw (c.prints.ensures, c.new.ensures.items) (does_ok _ c.in_ok-unlink.ensures (does_gives _ _ _))

pub returns-in_err-unlink : goal.returns-in_err-unlink
returns-in_err-unlink g c = does_err _ c.from_residual.ensures c.in_err-unlink.ensures
