-- What a script tells a set of tasks does not depend on the others' commands.
use Rattle.std.specs.Prelude.{◌≡◌, ℕ, Bool, true, false, if◌then◌else◌, List, [], ◌∷◌, ◌++◌, length, Result}
use Rattle.std.specs.List.{filter}
use Rattle.hurd_creds.specs.declared.errno.Errno.{Errno}
use Rattle.hurd_trans_iface.specs.Meaning.{Meaning, Begins}
use Rattle.hurd_machine.specs.World.{World}
use Rattle.hurd_words.specs.declared.answers.Answer.{Answer}
use Rattle.hurd_machine.specs.Sight.{SameView}
use Rattle.hurd_machine.specs.Sound.{Sound}
use Rattle.hurd_script.specs.Commands.{CommandLine}
use Rattle.hurd_script.specs.Actions.{action_of}
use Rattle.hurd_script.specs.Script.{users_of, commands_of}
use Rattle.hurd_laws.specs.Step.{reply_of, after}
use Rattle.hurd_laws.specs.Runs.{TaskCall, run, own_worlds, SameViews, Quiet}
use Rattle.hurd_world.specs.Boot.{first_world}
use Rattle.hurd_client.specs.Programs.{Prog, gives, calls, asks}
use Rattle.hurd_shell.specs.Commands.{program_of}
use Rattle.hurd_shell.specs.Transcript.{Maker, dialogue, dialogue_of, answer_to, parts_by}

-- the calls that task t makes in a program whose servers a maker makes
unfoldable pub calls_in : {A : Type 0} → Maker → ℕ → Prog A → World → List TaskCall
calls_in make t (gives r) w = []
calls_in make t (calls c k) w = record { task = t; call = c } ∷ calls_in make t (k (reply_of w t c)) (after w t c)
calls_in make t (asks words k) w = calls_in make t (k (make words)) w

-- the result of such a program
unfoldable pub result_in : {A : Type 0} → Maker → ℕ → Prog A → World → Result A Errno
result_in make t (gives r) w = r
result_in make t (calls c k) w = result_in make t (k (reply_of w t c)) (after w t c)
result_in make t (asks words k) w = result_in make t (k (make words)) w

-- the calls of one command
abbrev pub command_calls : Maker → CommandLine → World → List TaskCall
command_calls make c w = calls_in make c.task (program_of (action_of c)) w

-- what one command is answered
abbrev pub command_part : Maker → CommandLine → World → Answer
command_part make c w = answer_to c (result_in make c.task (program_of (action_of c)) w)

-- the calls of commands that are made one after another
abbrev pub script_calls : Maker → List CommandLine → World → List TaskCall
script_calls make [] w = []
script_calls make (c ∷ cs) w = command_calls make c w ++ script_calls make cs (run w (command_calls make c w))

-- the world after these commands
abbrev pub world_after : Maker → List CommandLine → World → World
world_after make cs w = run w (script_calls make cs w)

-- the worlds in which tasks of S give their commands, one after another
abbrev pub worlds_of : (ℕ → Bool) → Maker → World → List CommandLine → List World
worlds_of S make w cs = own_worlds (λ (c : CommandLine). S c.task) (λ (c : CommandLine) x. run x (command_calls make c x)) w cs

-- the commands of tasks of S
abbrev pub commands_by : (ℕ → Bool) → List CommandLine → List CommandLine
commands_by S cs = filter (λ c. S c.task) cs

-- of the answers to commands, one for each, those to commands of tasks of S
abbrev pub parts_to : (ℕ → Bool) → List CommandLine → List Answer → List Answer
parts_to S (c ∷ cs) (part ∷ parts) = if S c.task then part ∷ parts_to S cs parts else parts_to S cs parts
parts_to S cs parts = []

-- each call of a command of a task outside S touches no part that S sees at that moment
abbrev pub QuietCommands : (ℕ → Bool) → Maker → List CommandLine → World → Type 0
QuietCommands S make cs w = Quiet S w (script_calls make cs w)

-- each command of a task outside S leaves the view of S as it was, whatever its calls touch
abbrev pub UnmovedCommands : (ℕ → Bool) → Maker → List CommandLine → World → Type 0
UnmovedCommands S make [] w = Unit {0}
UnmovedCommands S make (c ∷ cs) w =
    let x = run w (command_calls make c w) in (S c.task ≡ false → SameView S w x) × UnmovedCommands S make cs x

-- each command has one part in what is told
abbrev pub OnePartEach : Type 0
OnePartEach = (make : Maker) (cs : List CommandLine) (w : World) → length (parts_by make (dialogue cs w)) ≡ length cs

-- of commands after others is told what is told of them in the world after those
abbrev pub ToldInTurn : Type 0
ToldInTurn =
    (make : Maker) (cs ds : List CommandLine) (w : World)
    → parts_by make (dialogue (cs ++ ds) w) ≡ parts_by make (dialogue cs w) ++ parts_by make (dialogue ds (world_after make cs w))

-- from any two worlds, where S has the same commands, and gives each of them in worlds that have the same view for S, whatever the
-- others' commands did before it: S is told the same
abbrev pub CommandsSideBySide : Type 0
CommandsSideBySide =
    (S : ℕ → Bool) (make : Maker) (v w : World) (cs ds : List CommandLine) → Sound v → Sound w
    → commands_by S cs ≡ commands_by S ds → SameViews S (worlds_of S make v cs) (worlds_of S make w ds)
    → parts_to S cs (parts_by make (dialogue cs v)) ≡ parts_to S ds (parts_by make (dialogue ds w))

-- and so of two scripts over boot servers of one meaning, whose servers one maker makes
abbrev pub ScriptsSideBySide : Type 0
ScriptsSideBySide =
    (S : ℕ → Bool) (make : Maker) (m : Meaning) (script other : List ℕ) → Begins m
    → commands_by S (commands_of script) ≡ commands_by S (commands_of other)
    → SameViews S (worlds_of S make (first_world m (users_of script)) (commands_of script)) (worlds_of S make (first_world m (users_of other)) (commands_of other))
    → parts_to S (commands_of script) (parts_by make (dialogue_of script m)) ≡ parts_to S (commands_of other) (parts_by make (dialogue_of other m))

-- from two worlds that have the same view for S, where S has the same commands and the others' commands are quiet: S is told the
-- same, and sees the same afterwards
abbrev pub IsolatedCommands : Type 0
IsolatedCommands =
    (S : ℕ → Bool) (make : Maker) (v w : World) (cs ds : List CommandLine) → Sound v → Sound w → SameView S v w
    → commands_by S cs ≡ commands_by S ds → QuietCommands S make cs v → QuietCommands S make ds w
    → (parts_to S cs (parts_by make (dialogue cs v)) ≡ parts_to S ds (parts_by make (dialogue ds w)))
    × SameView S (world_after make cs v) (world_after make ds w)

-- one command of S, made in two worlds that have the same view for S: it is told the same, and S sees the same afterwards
abbrev pub OwnCommandFromView : Type 0
OwnCommandFromView =
    (S : ℕ → Bool) (make : Maker) (v w : World) (c : CommandLine) → Sound v → Sound w → S c.task ≡ true → SameView S v w
    → (command_part make c v ≡ command_part make c w) × SameView S (run v (command_calls make c v)) (run w (command_calls make c w))

-- the same where each command of the others leaves the view of S as it was
abbrev pub IsolatedByView : Type 0
IsolatedByView =
    (S : ℕ → Bool) (make : Maker) (v w : World) (cs ds : List CommandLine) → Sound v → Sound w → SameView S v w
    → commands_by S cs ≡ commands_by S ds → UnmovedCommands S make cs v → UnmovedCommands S make ds w
    → (parts_to S cs (parts_by make (dialogue cs v)) ≡ parts_to S ds (parts_by make (dialogue ds w)))
    × SameView S (world_after make cs v) (world_after make ds w)

-- and so what S is told from some line on, where after it each command of the others leaves the view of S as it was, is what it is
-- told there without these commands
abbrev pub AsWithoutOthers : Type 0
AsWithoutOthers =
    (S : ℕ → Bool) (make : Maker) (w : World) (cs : List CommandLine) → Sound w → UnmovedCommands S make cs w
    → parts_to S cs (parts_by make (dialogue cs w)) ≡ parts_to S (commands_by S cs) (parts_by make (dialogue (commands_by S cs) w))

-- two scripts over boot servers of one meaning, whose servers one maker makes, have the same users and begin with the same commands;
-- where S has the same commands after these, and the others' commands after these are quiet, the parts for S's commands are the same
abbrev pub IsolatedScripts : Type 0
IsolatedScripts =
    (S : ℕ → Bool) (make : Maker) (m : Meaning) (script other : List ℕ) (before cs ds : List CommandLine) → Begins m
    → users_of script ≡ users_of other → commands_of script ≡ before ++ cs → commands_of other ≡ before ++ ds
    → commands_by S cs ≡ commands_by S ds
    → QuietCommands S make cs (world_after make before (first_world m (users_of script)))
    → QuietCommands S make ds (world_after make before (first_world m (users_of other)))
    → parts_to S (commands_of script) (parts_by make (dialogue_of script m)) ≡ parts_to S (commands_of other) (parts_by make (dialogue_of other m))
