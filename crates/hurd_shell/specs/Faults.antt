-- How a session's fault ends a program.
use Rattle.hurd_shell.specs.declared.fault.SessionFault.{SessionFault}
use Rattle.hurd_shell.specs.declared.fault.SessionFault.TheVariants as session
use Rattle.hurd_terminal.specs.declared.fault.Fault.{Fault}
use Rattle.hurd_terminal.specs.declared.fault.Fault.TheVariants as fault

-- a session's fault, as a program's
abbrev pub fault_of : SessionFault → Fault
fault_of (session.BadScript line) = fault.Bad line
fault_of (session.Boot e) = fault.Boot e
fault_of session.Memory = fault.Memory
