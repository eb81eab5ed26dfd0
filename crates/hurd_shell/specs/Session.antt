-- A session: a script on its way.
use Rattle.std.specs.Prelude.{◌≡◌, ◌⊎◌, ℕ, ◌+◌, ◌&&◌, Bool, true, false, length, nat_lt, List, [], ◌∷◌, drop, slice_get, Option, Some, None, Result, Ok, Err, IsOk, refl}
use Rattle.std.specs.Option.{option_map}
use Rattle.std.specs.Coded.{Coded, code_by, coded×, coded_ℕ, coded_list}
use Rattle.hurd_trans_iface.specs.Meaning.{Meaning}
use Rattle.hurd_machine.specs.World.{World}
use Rattle.hurd_machine.specs.Sound.{Sound}
use Rattle.hurd_script.specs.Commands.{CommandLine, coded_command}
use Rattle.hurd_creds.specs.Access.{IdSets}
use Rattle.hurd_words.specs.declared.answers.Answer.{Answer}
use Rattle.hurd_script.specs.Script.{bad, commands_of, users_of}
use Rattle.hurd_world.specs.Boot.{boot_of, first_world}
use Rattle.hurd_world.specs.Held.{Whole, coded_whole, world_of}
use Rattle.hurd_script.specs.Actions.{action_of}
use Rattle.hurd_client.specs.Programs.{Prog, gives}
use Rattle.hurd_shell.specs.Commands.{prints, program_of}
use Rattle.hurd_shell.specs.Stages.{answered_on, waiting_on}
use Rattle.hurd_shell.specs.Transcript.{Dialogue, ends, tells, wants, dialogue, part_by, answer_to, played, AsksFor}
use Rattle.hurd_shell.specs.contracts.phase.Phase as phase_code
use Rattle.hurd_shell.specs.declared.phase.Phase.{Phase}
use Rattle.hurd_shell.specs.declared.phase.Phase.TheVariants as phase
use Rattle.hurd_shell.specs.declared.commands.Printed.{Printed}
use Rattle.hurd_shell.specs.declared.session.Want.{Want}
use Rattle.hurd_shell.specs.declared.session.Want.TheVariants.{Output, Server, Done}
use Rattle.hurd_shell.specs.declared.fault.SupplyFault.{SupplyFault}
use Rattle.hurd_shell.specs.declared.fault.SupplyFault.TheVariants as supply
use Rattle.hurd_shell.specs.declared.fault.SupplyFault.TheVariants.{NotWanted}
use Rattle.hurd_shell.specs.declared.fault.SessionFault.{SessionFault}
use Rattle.hurd_shell.specs.declared.fault.SessionFault.TheVariants.{BadScript, Boot, Memory}

-- the world, the commands, how many of them are made, and how far the next one is
pub record View (S : Type 0) : Type 0 where
  pub world : Whole S
  pub commands : List CommandLine
  pub given : ℕ
  pub phase : Phase

-- a view is stored as the tuple of its fields
abbrev pub coded_view : {S : Type 0} → Coded S → Coded (View S)
coded_view {S} c =
    code_by
    (Whole S × (List CommandLine × (ℕ × Phase)))
    (coded× (coded_whole c) (coded× (coded_list coded_command) (coded× coded_ℕ (phase_code.the_row).coded)))
    (λ s. (s.world, (s.commands, (s.given, s.phase))))
    (λ p. record { world = p.0; commands = p.1.0; given = p.1.1.0; phase = p.1.1.1 })
    (λ _. refl)

-- memory was refused
abbrev pub is_failed : Phase → Bool
is_failed phase.Failed = true
is_failed _ = false

abbrev pub has_failed : {S : Type 0} → View S → Bool
has_failed s = is_failed s.phase

-- a server was asked for, and that was not answered
abbrev pub waits_by : Phase → Bool
waits_by (phase.Waiting w) = true
waits_by _ = false

abbrev pub waits_for : {S : Type 0} → View S → Bool
waits_for s = waits_by s.phase && nat_lt s.given (length s.commands)

-- what is left of the command that a session is at
abbrev pub command_on : Phase → CommandLine → Prog Printed
command_on phase.Between c = program_of (action_of c)
command_on (phase.Waiting w) c = waiting_on w
command_on (phase.Answered stage answer) c = answered_on stage answer
command_on phase.Failed c = gives (Ok (prints []))

-- what is told of the commands that are left, of which the first is so far
abbrev pub left_of : Phase → List CommandLine → World → Dialogue
left_of phase [] w = ends
left_of phase (c ∷ cs) w = played c.task (command_on phase c) w (λ r x. tells (part_by c (answer_to c r) x) (dialogue cs x))

-- what a session has still to tell
abbrev pub left_in : {S : Type 0} → (S → Meaning) → View S → Dialogue
left_in f s = left_of s.phase (drop s.given s.commands) (world_of f s.world)

-- the task whose command is next, or is on its way
abbrev pub next_task : {S : Type 0} → View S → Option ℕ
next_task s = option_map (λ (c : CommandLine). c.task) (slice_get s.commands s.given)

-- unless memory was refused, the session's world hangs together
abbrev pub HangsTogether : {S : Type 0} → (S → Meaning) → View S → Type 0
HangsTogether f s = has_failed s ≡ false → Sound (world_of f s.world)

-- a session that has all of what these commands tell before it, over a world of these users
pub record BegunWith {S : Type 0} (f : S → Meaning) (m : Meaning) (users : List IdSets) (commands : List CommandLine) (s : View S) : Type 0 where
  pub world : world_of f s.world ≡ first_world m users
  pub left : left_in f s ≡ dialogue commands (first_world m users)
  pub fine : has_failed s ≡ false
  pub waits : waits_for s ≡ false
  pub given : s.given ≡ 0
  pub sound : Sound (world_of f s.world)

-- a session that has all of what a script tells before it
abbrev pub Begun : {S : Type 0} → (S → Meaning) → Meaning → List ℕ → View S → Type 0
Begun f m script s = BegunWith f m (users_of script) (commands_of script) s

-- a session gave this answer: it is the next command's, before what is left
pub record Gives {S : Type 0} (f : S → Meaning) (old : View S) (answer : Answer) (new : View S) : Type 0 where
  pub task : ℕ
  pub next : next_task old ≡ Some task
  pub left : left_in f old ≡ tells (record { task = task; answer = answer; world = world_of f new.world }) (left_in f new)
  pub fine : has_failed new ≡ false
  pub waits : waits_for new ≡ false
  pub given : new.given ≡ old.given + 1

-- what a session gives its caller is the head of what it has to tell: a part, after which the rest is left; the words of the server
-- that is asked for, again at each call until that is answered; or the end. Memory may be refused, and then for good
abbrev pub Tells : {S : Type 0} → (S → Meaning) → View S → Result Want SessionFault → View S → Type 0
Tells f old (Ok (Output answer)) new = Gives f old answer new
Tells f old (Ok (Server words)) new =
    (left_in f new ≡ left_in f old) × AsksFor (left_in f old) words × (has_failed new ≡ false) × (waits_for new ≡ true)
    × (next_task new ≡ next_task old) × (new.given ≡ old.given)
Tells f old (Ok Done) new = (left_in f old ≡ ends) × (new ≡ old)
Tells f old (Err e) new = (e ≡ Memory) × (has_failed new ≡ true)

-- an answer to what is asked for: what is left to tell is what follows it
abbrev pub Answers : Dialogue → Option Meaning → Dialogue → Type 0
Answers (wants words rest) server left = left ≡ rest server
Answers _ server left = ⊥

-- an answer was taken
abbrev pub Takes : {S : Type 0} → (S → Meaning) → View S → Option Meaning → View S → Type 0
Takes f old server new =
    Answers (left_in f old) server (left_in f new) × (waits_for old ≡ true) × (has_failed new ≡ false) × (waits_for new ≡ false)
    × (next_task new ≡ next_task old) × (new.given ≡ old.given)

-- an answer was taken, unless memory was refused
abbrev pub TakesUnlessFailed : {S : Type 0} → (S → Meaning) → View S → Option Meaning → View S → Type 0
TakesUnlessFailed f old server new = (has_failed new ≡ true) ⊎ Takes f old server new

-- why an answer was not taken: none was asked for, and nothing is changed; or memory was refused, now or before
abbrev pub NotTaken : {S : Type 0} → View S → SupplyFault → View S → Type 0
NotTaken old NotWanted new = (has_failed old ≡ false) × (waits_for old ≡ false) × (new ≡ old)
NotTaken old supply.Memory new = has_failed new ≡ true

-- why no session was begun over a root server and these users: their world is refused, or it isn't and memory was refused
abbrev pub BeginFault : Meaning → List IdSets → SessionFault → Type 0
BeginFault m users (BadScript line) = ⊥
BeginFault m users (Boot e) = boot_of m users ≡ Err e
BeginFault m users Memory = IsOk (boot_of m users)

-- why no session was begun: the script is bad at the line that is told, or it is good and its world is refused, or memory was refused
abbrev pub NewFault : Meaning → List ℕ → SessionFault → Type 0
NewFault m script (BadScript line) = bad script ≡ Some line
NewFault m script (Boot e) = (bad script ≡ None) × (boot_of m (users_of script) ≡ Err e)
NewFault m script Memory = Unit {0}
