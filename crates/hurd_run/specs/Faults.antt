-- Why a script was not begun.
use Rattle.std.specs.Prelude.{◌≡◌, ℕ, List, Some, Err}
use Rattle.hurd_creds.specs.Access.{IdSets}
use Rattle.hurd_script.specs.Script.{bad}
use Rattle.hurd_terminal.specs.declared.fault.Fault.{Fault}
use Rattle.hurd_terminal.specs.declared.fault.Fault.TheVariants.{Bad, Boot, Memory}
use Rattle.hurd_tmpfs.specs.Tree.{new_tmpfs}
use Rattle.hurd_world.specs.Boot.{boot_of}

-- why it was not read: it is bad at the line that is told, or memory was refused
abbrev pub NotRead : List ℕ → Fault → Type 0
NotRead text (Bad line) = bad text ≡ Some line
NotRead text Memory = Unit {0}
NotRead text _ = ⊥

-- why no session of it was begun: the world of these users is refused, or memory was
abbrev pub NotBooted : List IdSets → Fault → Type 0
NotBooted users (Boot e) = boot_of new_tmpfs users ≡ Err e
NotBooted users Memory = Unit {0}
NotBooted users _ = ⊥
