-- Why a record was not read or printed to its end.
use Rattle.std.specs.Prelude.{◌≡◌, ◌⊎◌, ℕ, List, Result}
use Rattle.hurd_terminal.specs.Faults.{IsPrintFault, IsReadFault, Says, line_of, status_of}
use Rattle.hurd_terminal.specs.Runs.{Blames}
use Rattle.hurd_terminal.specs.declared.fault.Fault.{Fault}
use Rattle.hurd_terminal.specs.declared.fault.Fault.TheVariants.{Unknown, Boot, Memory}
use Rattle.hurd_terminal.specs.declared.print.Output.{Output}
use Rattle.hurd_terminal.specs.declared.read.Input.{Input}
use Rattle.std.specs.Prelude.{Option}

-- its world did not begin: it is refused, somebody is named who isn't in it, or memory was refused
abbrev pub IsBeginFault : Fault → Type 0
IsBeginFault Unknown = Unit {0}
IsBeginFault (Boot e) = Unit {0}
IsBeginFault Memory = Unit {0}
IsBeginFault _ = ⊥

-- that, or what it tells was not printed
abbrev pub IsTellFault : {W : Type 0} → Output W → Fault → Type 0
IsTellFault output fault = IsBeginFault fault ⊎ IsPrintFault output fault

-- that, or it was not read
abbrev pub IsRecordFault : {R W : Type 0} → Input R → Output W → Fault → Type 0
IsRecordFault input output fault = IsTellFault output fault ⊎ IsReadFault input fault

-- a run ended so: no reader and no writer is blamed that did not fail, and on standard error is the line of what ended it, with its status
pub record Ended (file stranger : List ℕ) {R W E : Type 0} (said : E → Option (List ℕ)) (read : Input R) (written : Output W) (errors told : Output E) (status : ℕ) : Type 0 where
  pub ended : Result (Unit {0}) Fault
  pub blames : Blames read written ended
  pub complaint : List ℕ
  pub says : Says said errors told (line_of file complaint stranger ended)
  pub is : status ≡ status_of ended
