use Rattle.hurd_shell.proofs.ProgramLaws.{does_ok, does_err, does_gives}
use Rattle.hurd_shell.proofs.commands.rmdir.Goals as goal

pub returns : goal.returns
returns g c = rw (c.prints.ensures, c.new.ensures.items) (does_ok _ c.in_ok-rmdir.ensures (does_gives _ _ _))

pub returns-in_err-rmdir : goal.returns-in_err-rmdir
returns-in_err-rmdir g c = does_err _ c.from_residual.ensures c.in_err-rmdir.ensures
