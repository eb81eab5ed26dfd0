-- What the code does of a program.
use Rattle.std.specs.Prelude.{◌≡◌, ℕ, Result, Ok, Err}
use Rattle.hurd_creds.specs.declared.errno.Errno.{Errno}
use Rattle.hurd_trans_iface.specs.Meaning.{Meaning}
use Rattle.hurd_machine.specs.Calls.{Call, Reply}
use Rattle.hurd_laws.specs.Step.{step}
use Rattle.hurd_world.specs.Held.{Whole, state_of}
use Rattle.hurd_world.specs.Noting.{State, NotesWhatIsTouched}
use Rattle.hurd_shell.specs.declared.fault.Stop.{Stop}
use Rattle.hurd_shell.specs.declared.fault.Stop.TheVariants.{Refused, Memory}
use Rattle.hurd_client.specs.Programs.{Prog, gives}
use Rattle.hurd_shell.specs.Programs.{go}

-- a call of task t was told the machine's reply, and left its world; what is noted stays right
pub record Stepped (w : State) (t : ℕ) (c : Call) (r : Reply) (x : State) : Type 0 where
  pub step : (r, x.world) ≡ step w.world t c
  pub stays : NotesWhatIsTouched w x

-- what was read of a reply, as the code has it
abbrev pub stopped : {A : Type 0} → Result A Errno → Result A Stop
stopped (Ok a) = Ok a
stopped (Err e) = Err (Refused e)

-- task t comes, by calls, from the program p in w to the program q in x; what is noted stays right
pub record LeadsTo {A : Type 0} (t : ℕ) (p : Prog A) (w : State) (q : Prog A) (x : State) : Type 0 where
  pub goes : go t p w.world ≡ go t q x.world
  pub stays : NotesWhatIsTouched w x

-- where a program of task t ends: with what the code has, unless memory was refused
abbrev pub Ends : {A : Type 0} → ℕ → Prog A → State → Result A Stop → State → Type 0
Ends t p w (Ok a) x = LeadsTo t p w (gives (Ok a)) x
Ends t p w (Err (Refused e)) x = LeadsTo t p w (gives (Err e)) x
Ends t p w (Err Memory) x = Unit {0}

-- task t made all of the program p, from w on, and the code has its end
pub record DoesAll {A : Type 0} (t : ℕ) (p : Prog A) (w : State) (r : Result A Stop) (x : State) : Type 0 where
  pub ends : Ends t p w r x

-- the same of the worlds that the code holds
abbrev pub Ran : {S A : Type 0} → (S → Meaning) → ℕ → Prog A → Whole S → Result A Stop → Whole S → Type 0
Ran f t p old r new = DoesAll t p (state_of f old) r (state_of f new)

-- where a program of task t comes to: to what is left where the code goes on, or to a refusal
abbrev pub ReachesTo : {A B : Type 0} → ℕ → Prog A → State → (B → Prog A) → Result B Stop → State → Type 0
ReachesTo t p w left (Ok b) x = LeadsTo t p w (left b) x
ReachesTo t p w left (Err (Refused e)) x = LeadsTo t p w (gives (Err e)) x
ReachesTo t p w left (Err Memory) x = Unit {0}

-- task t went on from the program p in w
pub record Reaches {A B : Type 0} (t : ℕ) (p : Prog A) (w : State) (left : B → Prog A) (r : Result B Stop) (x : State) : Type 0 where
  pub reaches : ReachesTo t p w left r x

-- the same of the worlds that the code holds
abbrev pub Arrived : {S A B : Type 0} → (S → Meaning) → ℕ → Prog A → Whole S → (B → Prog A) → Result B Stop → Whole S → Type 0
Arrived f t p old left r new = Reaches t p (state_of f old) left r (state_of f new)
