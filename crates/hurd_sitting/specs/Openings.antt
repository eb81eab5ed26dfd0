-- What the opening of a path does in a world that is kept.
use Rattle.std.specs.Prelude.{◌≡◌, ℕ, List, [], ◌∷◌, Option, Result, Ok, pos}
use Rattle.std.specs.List.{All}
use Rattle.hurd_creds.specs.declared.errno.Errno.{Errno}
use Rattle.hurd_creds.specs.declared.name.TaskId.{TaskId}
use Rattle.hurd_trans_iface.specs.Meaning.{Meaning, begin}
use Rattle.hurd_machine.specs.Calls.{Call, Reply, start_call}
use Rattle.hurd_machine.specs.World.{World}
use Rattle.hurd_laws.specs.Step.{after, reply_of}
use Rattle.hurd_lists.specs.Lists.{Listed, reading_of}
use Rattle.hurd_client.specs.Programs.{Prog, gives, calls, asks}
use Rattle.hurd_teaching.specs.declared.learners.Learners.{Learners}
use Rattle.hurd_client.specs.Openings.{start_end}
use Rattle.hurd_numbers.specs.Lines.{HasLine}
use Rattle.hurd_numbers.specs.declared.calls.Numbers.{Numbers}
use Rattle.hurd_sitting.specs.Replies.{Answers}
use Rattle.hurd_sitting.specs.Sittings.{Adds, SomeMade, behind}

-- a call of a task, which has no line yet
abbrev pub made_by : TaskId → Call → Listed
made_by task call = record { task = task; call = call; line = [] }

-- these calls are all that a program of a task makes from a world on, with servers made of their words, and so it ends
unfoldable pub RunsAs : {A : Type 0} → TaskId → Prog A → World → List Listed → Result A Errno → Type 0
RunsAs t (gives r) w [] end = end ≡ r
RunsAs t (gives r) w (c ∷ cs) end = ⊥
RunsAs t (calls call k) w [] end = ⊥
RunsAs t (calls call k) w (c ∷ cs) end = (c.task ≡ t) × (c.call ≡ call) × RunsAs t (k (reply_of w t.0 call)) (after w t.0 call) cs end
RunsAs t (asks words k) w cs end = RunsAs t (k (begin words)) w cs end

-- a call is what a text says, and nothing else
abbrev pub IsSaid : Listed → Type 0
IsSaid c = (text : List ℕ) × (reading_of text ≡ Ok (record { tasks = []; calls = c ∷ [] }))

-- a program of a task was run in world w: by these calls, which are told after what was told before, each with its line; it ended so, and world x is after them
pub record Ran (learners : Option Learners) (t : TaskId) (p : Prog ℕ) (w : World) (end : Result ℕ Errno) (before told : List ℕ) (x : World) : Type 0 where
  pub calls : List Listed
  pub said : All IsSaid calls
  pub runs : RunsAs t p w calls end
  pub adds : Adds learners calls w before told
  pub leaves : x ≡ behind calls w

-- a program of a task was not run to its end: some first calls were made and told, and perhaps the next was made
pub record RanSome (learners : Option Learners) (t : TaskId) (p : Prog ℕ) (w : World) (before told : List ℕ) (x : World) : Type 0 where
  pub calls : List Listed
  pub end : Result ℕ Errno
  pub runs : RunsAs t p w calls end
  pub some : SomeMade learners calls w before told x
  pub said : All IsSaid some.first

-- a translator was started in world w with a server, or the start was given up: the call is told, it ended so, and world x is after it
pub record Starts (learners : Option Learners) (t : TaskId) (server : Option Meaning) (w : World) (end : Result (Unit {0}) Errno) (before told : List ℕ) (x : World) : Type 0 where
  pub call : Listed
  pub line : HasLine (made_by t (start_call server)) call
  pub reply : Reply
  pub answers : Answers learners call w reply before told x
  pub ends : end ≡ start_end server reply

-- the numbers of a task's call on a port
abbrev pub port_numbers : TaskId → ℕ → ℕ → Numbers
port_numbers t call port = record {
  task = t.0;
  call = call;
  port = port;
  other = 0;
  amount = 0;
  offset = pos 0;
  flags = 0;
  mode = 0;
  owner = 0;
  group = 0;
  to = 0;
  active = 0;
  goaway = 0;
  brings = 0;
}
