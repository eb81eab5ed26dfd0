-- What a transcript says.
use Rattle.std.specs.Prelude.{◌≡◌, ℕ, List, [], ◌∷◌, Option, Some, None, Result, Ok, Err, map}
use Rattle.std.specs.List.{concat}
use Rattle.hurd_creds.specs.declared.errno.Errno.{Errno}
use Rattle.hurd_trans_iface.specs.Meaning.{Meaning}
use Rattle.hurd_machine.specs.World.{World}
use Rattle.hurd_dialogue.specs.Parts.{Part, answers}
use Rattle.hurd_script.specs.Commands.{CommandLine}
use Rattle.hurd_script.specs.Actions.{action_of}
use Rattle.hurd_script.specs.Script.{users_of, commands_of}
use Rattle.hurd_laws.specs.Step.{reply_of, after}
use Rattle.hurd_world.specs.Boot.{first_world}
use Rattle.hurd_shell.specs.declared.commands.Printed.{Printed}
use Rattle.hurd_client.specs.Programs.{Prog, gives, calls, asks}
use Rattle.hurd_shell.specs.Commands.{program_of}
use Rattle.hurd_words.specs.Answers.{plain}
use Rattle.hurd_words.specs.declared.answers.Answer.{Answer}
use Rattle.hurd_words.specs.declared.answers.Content.TheVariants.{Text}
use Rattle.hurd_words.specs.declared.answers.Ending.TheVariants.{Refused}

-- what a command is answered: to its line, what it put out and what ended it, or the refusal
abbrev pub answer_to : CommandLine → Result Printed Errno → Answer
answer_to c (Ok printed) = record { line = c.header; content = printed.output; ending = printed.ending }
answer_to c (Err e) = record { line = c.header; content = Text []; ending = Refused e }

-- what a script tells whoever runs it: parts, one after another, and servers that it asks for on the way, with what it tells after
-- each answer
pub data Dialogue : Type 0 where
  ends : Dialogue
  tells : Part → Dialogue → Dialogue
  wants : List (List ℕ) → (Option Meaning → Dialogue) → Dialogue

-- the part of a command with this answer, after which this world is left
abbrev pub part_by : CommandLine → Answer → World → Part
part_by c answer x = record { task = c.task; answer = answer; world = x }

-- what is told while task t makes a program, and what comes of its end
unfoldable pub played : {A : Type 0} → ℕ → Prog A → World → (Result A Errno → World → Dialogue) → Dialogue
played t (gives r) w next = next r w
played t (calls c k) w next = played t (k (reply_of w t c)) (after w t c) next
played t (asks words k) w next = wants words (λ server. played t (k server) w next)

-- what is told of commands that are made one after another
unfoldable pub dialogue : List CommandLine → World → Dialogue
dialogue [] w = ends
dialogue (c ∷ cs) w = played c.task (program_of (action_of c)) w (λ r x. tells (part_by c (answer_to c r) x) (dialogue cs x))

-- what a script tells, begun over a boot server of this meaning
abbrev pub dialogue_of : List ℕ → Meaning → Dialogue
dialogue_of script m = dialogue (commands_of script) (first_world m (users_of script))

-- the answers that are told if the servers that are asked for are answered so, one after another: up to the first server that has no answer yet
unfoldable pub parts_of : Dialogue → List (Option Meaning) → List Answer
parts_of ends says = []
parts_of (tells part rest) says = part.answer ∷ parts_of rest says
parts_of (wants words rest) [] = []
parts_of (wants words rest) (server ∷ says) = parts_of (rest server) says

-- the words of the server that is asked for next, after these answers
unfoldable pub wanted_of : Dialogue → List (Option Meaning) → Option (List (List ℕ))
wanted_of ends says = None
wanted_of (tells part rest) says = wanted_of rest says
wanted_of (wants words rest) [] = Some words
wanted_of (wants words rest) (server ∷ says) = wanted_of (rest server) says

-- what is told first is the asking for a server of these words
abbrev pub AsksFor : Dialogue → List (List ℕ) → Type 0
AsksFor (wants words rest) asked = words ≡ asked
AsksFor _ asked = ⊥

-- the transcript of a script after these answers: the parts, joined
abbrev pub out : List ℕ → Meaning → List (Option Meaning) → List ℕ
out script m says = concat (map plain (parts_of (dialogue_of script m) says))

-- a way to answer: the server that some words get, if any
abbrev pub Maker : Type 0
Maker = List (List ℕ) → Option Meaning

-- the answers that a maker gives
unfoldable pub says_by : Maker → Dialogue → List (Option Meaning)
says_by make ends = []
says_by make (tells part rest) = says_by make rest
says_by make (wants words rest) = make words ∷ says_by make (rest (make words))

-- the parts that are told where a maker answers
unfoldable pub told_by : Maker → Dialogue → List Part
told_by make ends = []
told_by make (tells part rest) = part ∷ told_by make rest
told_by make (wants words rest) = told_by make (rest (make words))

-- and their answers
abbrev pub parts_by : Maker → Dialogue → List Answer
parts_by make d = answers (told_by make d)

-- the whole transcript of a script whose servers a maker makes
abbrev pub out_by : List ℕ → Meaning → Maker → List ℕ
out_by script m make = concat (map plain (parts_by make (dialogue_of script m)))
