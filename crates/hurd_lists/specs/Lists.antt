-- What a list of calls says, and where it is bad.
use Rattle.std.specs.Prelude.{◌≡◌, ℕ, ◌+◌, ◌==◌, ◌||◌, not, List, [], ◌∷◌, ◌++◌, Option, Some, None, Result, Ok, Err, if◌then◌else◌, nat_lt, nat_le, option_and_then, option_map, map, length, codes}
use Rattle.std.specs.List.{slice_split}
use Rattle.std.specs.Result.{result_flatten, result_map_both}
use Rattle.hurd_creds.specs.Access.{IdSets}
use Rattle.hurd_words.specs.Lines.{skip_spaces, without_end}
use Rattle.hurd_words.specs.Lines.{is_skipped, lines_of}
use Rattle.hurd_words.specs.Reading.{good_words}
use Rattle.hurd_words.specs.Users.{begins_with}
use Rattle.hurd_trans_iface.specs.Meaning.{Meaning}
use Rattle.hurd_machine.specs.Calls as machine
use Rattle.hurd_machine.specs.Calls.{call_by}
use Rattle.hurd_creds.specs.declared.name.TaskId.{TaskId}
use Rattle.hurd_creds.specs.Limits.{most_script, most_tasks}
use Rattle.hurd_lists.specs.Arguments.{ids_of, task_of, text_of}
use Rattle.hurd_lists.specs.Calls.{begun, call_of, server_of, with_server}
use Rattle.hurd_lists.specs.Flaws.{◌>>=◌, BadLine, found_or}
use Rattle.hurd_lists.specs.Verbs.{verb_of}
use Rattle.hurd_lists.specs.declared.verb.Verb.{Verb}
use Rattle.hurd_lists.specs.Words.{bytes_of}
use Rattle.hurd_lists.specs.declared.flaw.LineFault.{LineFault}
use Rattle.hurd_lists.specs.declared.flaw.LineFault.TheVariants as line_fault
use Rattle.hurd_lists.specs.declared.flaw.ListFlaw.{ListFlaw}
use Rattle.hurd_lists.specs.declared.flaw.ListFlaw.TheVariants.{Length, Word, TaskForm, LateTask, TaskCount, TaskIds, CallForm, TaskNumber, OtherCall, Arguments, Server}
use Rattle.hurd_lists.specs.declared.reader.CallList.{CallList}
use Rattle.hurd_lists.specs.declared.reader.ListFault.{ListFault}
use Rattle.hurd_lists.specs.declared.reader.ListFault.TheVariants as fault
use Rattle.hurd_lists.specs.declared.reader.LineSaid.{LineSaid}
use Rattle.hurd_lists.specs.declared.reader.LineSaid.TheVariants.{Nothing, Task, Call}
use Rattle.hurd_lists.specs.declared.reader.ListedCall.{ListedCall}

-- a line without outer spaces
abbrev pub trimmed : List ℕ → List ℕ
trimmed line = without_end (skip_spaces line)

-- what a line says: a task makes a call; and the line itself
pub record Listed : Type 0 where
  pub task : TaskId
  pub call : machine.Call
  pub line : List ℕ

-- the call of a name, if there is one
abbrev pub verb_named : List ℕ → Option Verb
verb_named name = option_and_then verb_of (text_of name)

-- `TASK CALL ARG..`
abbrev pub call_from : List ℕ → List (List ℕ) → Result Listed ListFlaw
call_from line (number ∷ name ∷ args) = do
  task ← found_or TaskNumber (task_of number)
  verb ← found_or OtherCall (verb_named name)
  call ← found_or Arguments (call_of verb args)
  server ← found_or Server (server_of verb args)
  Ok (record { task = task; call = with_server server call; line = trimmed line })
call_from line _ = Err CallForm

-- what the lines so far have said
pub record Standing : Type 0 where
  pub tasks : List IdSets
  pub calls : List Listed

-- with a task of these ids more
abbrev pub said_task : Standing → IdSets → Standing
said_task s ids = record s { tasks = s.tasks ++ ids ∷ [] }

-- the same, if ids were read
abbrev pub with_ids : Standing → Result IdSets ListFlaw → Result Standing ListFlaw
with_ids s (Err flaw) = Err flaw
with_ids s (Ok ids) = Ok (said_task s ids)

-- with what a task line says, unless a call came, or there are as many tasks as may be
abbrev pub with_task : Standing → List (List ℕ) → Result Standing ListFlaw
with_task s (task ∷ uids ∷ gids ∷ []) =
    if not (length s.calls == 0) then Err LateTask
    else if nat_le most_tasks (length s.tasks) then Err TaskCount
    else with_ids s (found_or TaskIds (ids_of uids gids))
with_task s _ = Err TaskForm

-- with a call more
abbrev pub with_call : Standing → Result Listed ListFlaw → Result Standing ListFlaw
with_call s (Err flaw) = Err flaw
with_call s (Ok call) = Ok (record s { calls = s.calls ++ call ∷ [] })

-- with a line of these words
abbrev pub with_words : Standing → List ℕ → List (List ℕ) → Result Standing ListFlaw
with_words s line words =
    if begins_with (codes "task") words then with_task s words
    else with_call s (call_from line words)

-- what comes after a line, or why it is bad: the first test that it fails
abbrev pub with_line : Standing → List ℕ → Result Standing ListFlaw
with_line s line =
    if is_skipped line then Ok s
    else found_or Word (good_words bytes_of (slice_split (λ b. b == 32) line)) >>= with_words s line

-- a line that is bad for this reason
abbrev pub bad_at : ℕ → ListFlaw → BadLine
bad_at number flaw = record { line = number; flaw = flaw }

-- what comes after more lines, of which the first has this number, or the first bad one
unfoldable pub read_from : ℕ → Standing → List (List ℕ) → Result Standing BadLine
read_from number s [] = Ok s
read_from number s (line ∷ lines) = result_flatten (result_map_both (λ next. read_from (number + 1) next lines) (bad_at number) (with_line s line))

-- nothing was said
abbrev pub unsaid : Standing
unsaid = record { tasks = []; calls = [] }

-- what a list says, its tasks and its calls, or where and why it is bad: it is too long, or has a first bad line
abbrev pub reading_of : List ℕ → Result Standing BadLine
reading_of list =
    if nat_lt most_script (length list) then Err (bad_at 0 Length) else read_from 1 unsaid (lines_of list)

-- what a call says that was read, where each box means this: the server of its words is in it
abbrev pub listed_by : {S : Type 0} → (S → Meaning) → ListedCall S → Listed
listed_by f c = record { task = c.task; call = with_server (begun c.server) (call_by f c.call); line = c.line }

-- what was said so far, and what a line says that was read, where each box means this
abbrev pub said_onto : {S : Type 0} → (S → Meaning) → Standing → LineSaid S → Standing
said_onto f s Nothing = s
said_onto f s (Task ids) = said_task s ids
said_onto f s (Call c) = record s { calls = s.calls ++ listed_by f c ∷ [] }

-- what is in a list that was read
abbrev pub said_by : {S : Type 0} → (S → Meaning) → CallList S → Standing
said_by f list = record { tasks = list.tasks.items; calls = map (listed_by f) list.calls.items }

-- a list was read as it is, or is bad at the line and for the reason that are told, or memory was refused
abbrev pub Parses : {S : Type 0} → (S → Meaning) → Result Standing BadLine → Result (CallList S) ListFault → Type 0
Parses f wanted (Ok list) = wanted ≡ Ok (said_by f list)
Parses f wanted (Err fault.Memory) = Unit {0}
Parses f wanted (Err (fault.Bad line flaw)) = wanted ≡ Err (bad_at line flaw)

-- the fault of a line
abbrev pub fault_at : LineFault → ℕ → ListFault
fault_at line_fault.Memory line = fault.Memory
fault_at (line_fault.Bad flaw) line = fault.Bad line flaw
