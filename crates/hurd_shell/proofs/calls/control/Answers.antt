use Rattle.std.proofs.Common.{ap}
use Rattle.hurd_shell.specs.Progress.{stopped}
use Rattle.hurd_shell.proofs.LookLaws.{made_err}
use Rattle.hurd_shell.proofs.ProgramLaws.{made_does}
use Rattle.hurd_shell.proofs.calls.control.Goals as goal

pub returns : goal.returns
returns g c = made_does _ _ _ c.in_ok-made.ensures.ok (ap stopped c.in_ok-port_of.ensures)

pub returns-in_err-port_of : goal.returns-in_err-port_of
returns-in_err-port_of g c = made_err _ _ _ c.from_residual-in_err-port_of.ensures c.in_ok-made.ensures.ok c.in_err-port_of.ensures
