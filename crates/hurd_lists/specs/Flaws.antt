-- Why a line of a list is bad.
use Rattle.std.specs.Prelude.{◌≡◌, ℕ, List, Option, Some, None, Result, Ok, Err, codes}
use Rattle.hurd_words.specs.declared.fault.ReadFault.{ReadFault}
use Rattle.hurd_words.specs.declared.fault.ReadFault.TheVariants as read_fault
use Rattle.hurd_lists.specs.declared.flaw.LineFault.{LineFault}
use Rattle.hurd_lists.specs.declared.flaw.LineFault.TheVariants as line_fault
use Rattle.hurd_lists.specs.declared.flaw.ListFlaw.{ListFlaw}
use Rattle.hurd_lists.specs.declared.flaw.ListFlaw.TheVariants.{Length, Word, TaskForm, LateTask, TaskCount, TaskIds, CallForm, TaskNumber, OtherCall, Arguments, Server}

-- a flaw in words
abbrev pub flaw_text : ListFlaw → List ℕ
flaw_text Length = codes "longer than 1048576 bytes"
flaw_text Word = codes "words are printable ASCII; a backslash must be followed by s, n, xHH or a backslash"
flaw_text TaskForm = codes "a task line is: task UIDS GIDS"
flaw_text LateTask = codes "task lines must come before the first call"
flaw_text TaskCount = codes "there are 64 tasks already"
flaw_text TaskIds = codes "UIDS and GIDS are each at most 32 numbers below 4294967296 with commas between them, or -"
flaw_text CallForm = codes "a call is: TASK CALL ARG.."
flaw_text TaskNumber = codes "the line begins with no task's number"
flaw_text OtherCall = codes "no such call"
flaw_text Arguments = codes "wrong number or type of arguments"
flaw_text Server = codes "the words after box don't name a server; each starts with ="

-- the line at which a list is bad, counted from 1, and why; line 0 where the list is too long
pub record BadLine : Type 0 where
  pub line : ℕ
  pub flaw : ListFlaw

-- what is there, or why nothing is
abbrev pub found_or : {X : Type 0} → ListFlaw → Option X → Result X ListFlaw
found_or flaw None = Err flaw
found_or flaw (Some x) = Ok x

-- what follows, where a line is good so far
infixl 10 ◌>>=◌
abbrev pub ◌>>=◌ : {X Y : Type 0} → Result X ListFlaw → (X → Result Y ListFlaw) → Result Y ListFlaw
(Err flaw) >>= f = Err flaw
(Ok x) >>= f = f x

-- what was to be read is read, or is bad for this reason, or memory was refused
abbrev pub Gives : {X Y : Type 0} → (X → Y) → Result Y ListFlaw → Result X LineFault → Type 0
Gives view wanted (Ok x) = wanted ≡ Ok (view x)
Gives view wanted (Err line_fault.Memory) = Unit {0}
Gives view wanted (Err (line_fault.Bad flaw)) = wanted ≡ Err flaw

-- what was read, or the fault of a line that is bad for this reason
abbrev pub or_flaw : {X : Type 0} → Result X ReadFault → ListFlaw → Result X LineFault
or_flaw (Ok x) flaw = Ok x
or_flaw (Err read_fault.Memory) flaw = Err line_fault.Memory
or_flaw (Err read_fault.Bad) flaw = Err (line_fault.Bad flaw)
