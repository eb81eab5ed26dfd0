use Rattle.hurd_shell.proofs.ProgramLaws.{does_ok, does_err, does_gives}
use Rattle.hurd_shell.proofs.commands.set_options.Goals as goal

pub returns : goal.returns
returns g c = rw (c.prints.ensures, c.new.ensures.items) (does_ok _ c.in_ok-set_options.ensures (does_gives _ _ _))

pub returns-in_err-set_options : goal.returns-in_err-set_options
returns-in_err-set_options g c = does_err _ c.from_residual.ensures c.in_err-set_options.ensures
