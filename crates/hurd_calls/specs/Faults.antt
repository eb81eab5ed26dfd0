-- Why no call of a list was made.
use Rattle.std.specs.Prelude.{◌≡◌, ℕ, List, Some, Result, Err}
use Rattle.hurd_creds.specs.Access.{IdSets}
use Rattle.hurd_trans_iface.specs.Meaning.{Meaning}
use Rattle.hurd_lists.specs.Flaws.{BadLine}
use Rattle.hurd_lists.specs.Lists.{Standing}
use Rattle.hurd_calls.specs.Readings.{bad_line}
use Rattle.hurd_terminal.specs.declared.fault.Fault.{Fault}
use Rattle.hurd_terminal.specs.declared.fault.Fault.TheVariants.{Bad, Boot, Memory}
use Rattle.hurd_world.specs.Boot.{boot_of}

-- why a list was not read: it is bad at the line that is told, or memory was refused
abbrev pub NotRead : Result Standing BadLine → Fault → Type 0
NotRead reading (Bad line) = bad_line reading ≡ Some line
NotRead reading Memory = Unit {0}
NotRead reading _ = ⊥

-- why no world was begun over a server of this meaning for tasks of these ids: it is refused, or memory was
abbrev pub NotBegun : Meaning → List IdSets → Fault → Type 0
NotBegun m tasks (Boot e) = boot_of m tasks ≡ Err e
NotBegun m tasks Memory = Unit {0}
NotBegun m tasks _ = ⊥
