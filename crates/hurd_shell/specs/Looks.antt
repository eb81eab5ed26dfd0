-- What a script tells a set of tasks does not depend on how things are called inside.
use Rattle.std.specs.Prelude.{◌≡◌, ℕ, Bool, true, List}
use Rattle.hurd_trans_iface.specs.Meaning.{Meaning, Begins}
use Rattle.hurd_machine.specs.Renamed.{OtherNames}
use Rattle.hurd_machine.specs.World.{World}
use Rattle.hurd_machine.specs.Sound.{Sound}
use Rattle.hurd_script.specs.Commands.{CommandLine}
use Rattle.hurd_script.specs.Script.{users_of, commands_of}
use Rattle.hurd_laws.specs.Runs.{run}
use Rattle.hurd_laws.specs.After.{AllLookAlike, LooksLike}
use Rattle.hurd_world.specs.Boot.{first_world}
use Rattle.hurd_shell.specs.Isolation.{command_calls, command_part, commands_by, parts_to, worlds_of}
use Rattle.hurd_shell.specs.Transcript.{Maker, dialogue, dialogue_of, parts_by}

-- one command of S, made in two worlds that look the same to it except for names: it is told the same, and they look so afterwards, by the same names
abbrev pub OwnCommandFromLooks : Type 0
OwnCommandFromLooks =
    (S : ℕ → Bool) (f : OtherNames) (make : Maker) (v w : World) (c : CommandLine) → Sound v → Sound w → S c.task ≡ true → LooksLike S f v w
    → (command_part make c v ≡ command_part make c w) × LooksLike S f (run v (command_calls make c v)) (run w (command_calls make c w))

-- from any two worlds, where S has the same commands, and gives each of them in worlds that look the same to it except for names, whatever
-- the others' commands did before it: S is told the same
abbrev pub CommandsByLooks : Type 0
CommandsByLooks =
    (S : ℕ → Bool) (make : Maker) (v w : World) (cs ds : List CommandLine) → Sound v → Sound w
    → commands_by S cs ≡ commands_by S ds → AllLookAlike S (worlds_of S make v cs) (worlds_of S make w ds)
    → parts_to S cs (parts_by make (dialogue cs v)) ≡ parts_to S ds (parts_by make (dialogue ds w))

-- and so of two scripts over boot servers of one meaning, whose servers one maker makes
abbrev pub ScriptsByLooks : Type 0
ScriptsByLooks =
    (S : ℕ → Bool) (make : Maker) (m : Meaning) (script other : List ℕ) → Begins m
    → commands_by S (commands_of script) ≡ commands_by S (commands_of other)
    → AllLookAlike S (worlds_of S make (first_world m (users_of script)) (commands_of script)) (worlds_of S make (first_world m (users_of other)) (commands_of other))
    → parts_to S (commands_of script) (parts_by make (dialogue_of script m)) ≡ parts_to S (commands_of other) (parts_by make (dialogue_of other m))
