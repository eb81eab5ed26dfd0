use Rattle.hurd_shell.proofs.ProgramLaws.{does_ok, does_err, does_gives}
use Rattle.hurd_shell.proofs.commands.stat.Goals as goal

pub returns : goal.returns
returns g c = rw (c.prints.ensures, c.in_ok-stat_line.ensures) (does_ok _ c.in_ok-stat.ensures (does_gives _ _ _))

pub returns-in_err-stat : goal.returns-in_err-stat
returns-in_err-stat g c = does_err _ c.from_residual.ensures c.in_err-stat.ensures
