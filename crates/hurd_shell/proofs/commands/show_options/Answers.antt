use Rattle.hurd_shell.proofs.ProgramLaws.{does_ok, does_err, does_gives}
use Rattle.hurd_shell.proofs.commands.show_options.Goals as goal

pub returns : goal.returns
returns g c = rw (c.prints.ensures, c.in_ok-words_line.ensures, c.as_slice.ensures) (does_ok _ c.in_ok-words.ensures (does_gives _ _ _))

pub returns-in_err-words : goal.returns-in_err-words
returns-in_err-words g c = does_err _ c.from_residual.ensures c.in_err-words.ensures
