-- The program that was asked for.
use Rattle.std.specs.Prelude.{ℕ, Option, Some, None, Result, Err, string_bytes, option_map}
use Rattle.hurd_calls.specs.Lists.{lists}
use Rattle.hurd_can.specs.Programs.{could}
use Rattle.hurd_dialogue.specs.Sorts.{Sort, running}
use Rattle.hurd_teaching.specs.Drawings.{drawing}
use Rattle.hurd_shell.specs.Scripts.{scripts}
use Rattle.hurd_teaching.specs.Programs.{learning, seeing}
use Rattle.hurd_terminal.specs.Runs.{Program}
use Rattle.hurd_terminal.specs.declared.fault.Fault.{Fault}
use Rattle.hurd_terminal.specs.declared.fault.Fault.TheVariants.{Bad}
use Rattle.hurd_program.specs.declared.request.Request.{Request}
use Rattle.hurd_program.specs.declared.request.TextSort.{TextSort}
use Rattle.hurd_program.specs.declared.request.TextSort.TheVariants.{Script, Calls}
use Rattle.hurd_program.specs.declared.request.Verb.{Verb}
use Rattle.hurd_program.specs.declared.request.Verb.TheVariants.{Run, Learn, See, Can, Draw}

-- the line at which a text is bad, where a run of it ended so
abbrev pub bad_line : Result (Unit {0}) Fault → Option ℕ
bad_line (Err (Bad line)) = Some line
bad_line _ = None

-- scripts or lists of calls
abbrev pub sort_of : TextSort → Sort
sort_of Script = scripts
sort_of Calls = lists

-- what is told, that with what some learn, what they see at the end, what they could be shown then, or a picture of the end
abbrev pub asked_of : Sort → Verb → Program
asked_of sort Run = running sort
asked_of sort (Learn who most) = learning sort most (string_bytes who)
asked_of sort (See who most) = seeing sort most (string_bytes who)
asked_of sort (Can who every how) = could sort every how (string_bytes who)
asked_of sort (Draw who can) = drawing sort can (option_map string_bytes who)

abbrev pub asked : Request → Program
asked request = asked_of (sort_of request.sort) request.verb
