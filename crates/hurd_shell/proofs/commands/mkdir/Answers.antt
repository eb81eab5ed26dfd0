use Rattle.hurd_shell.proofs.ProgramLaws.{does_ok, does_err, does_gives}
use Rattle.hurd_shell.proofs.commands.mkdir.Goals as goal

pub returns : goal.returns
returns g c = rw (c.prints.ensures, c.new.ensures.items) (does_ok _ c.in_ok-mkdir.ensures (does_gives _ _ _))

pub returns-in_err-mkdir : goal.returns-in_err-mkdir
returns-in_err-mkdir g c = does_err _ c.from_residual.ensures c.in_err-mkdir.ensures
