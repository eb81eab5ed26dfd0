-- The program that prints a random text.
use Rattle.std.specs.Prelude.{◌≡◌, ℕ, true, List, [], Option, None, Result, Ok, Err, codes, length}
use Rattle.std.specs.Io.KnownBytes.{Appends}
use Rattle.hurd_lists.specs.Lists.{reading_of}
use Rattle.hurd_sample.specs.Listed.{HasCalls}
use Rattle.hurd_script.specs.Script.{bad, commands_of}
use Rattle.hurd_terminal.specs.Faults.{IsFront, Says}
use Rattle.hurd_terminal.specs.declared.print.Output.{Output}
use Rattle.hurd_program.specs.declared.request.TextSort.{TextSort}
use Rattle.hurd_program.specs.declared.request.TextSort.TheVariants.{Script, Calls}
use Rattle.hurd_program.specs.declared.sampling.SampleTrouble.{SampleTrouble}
use Rattle.hurd_program.specs.declared.sampling.SampleTrouble.TheVariants.{TooLong, Memory, Write, Unread}

-- a good text of a sort, of so many commands or calls
abbrev pub IsSample : TextSort → ℕ → List ℕ → Type 0
IsSample Script count text = (bad text ≡ None) × (length (commands_of text) ≡ count)
IsSample Calls count text = HasCalls count (reading_of text)

-- what was printed of one, by how that ended: all of it, or only a front where a write failed, and else nothing
abbrev pub PrintsSample : TextSort → ℕ → Result (Unit {0}) SampleTrouble → List ℕ → Type 0
PrintsSample sort count (Ok _) printed = IsSample sort count printed
PrintsSample sort count (Err Write) printed = (text : List ℕ) × IsSample sort count text × IsFront printed text
PrintsSample sort count (Err _) printed = printed ≡ []

-- what is on standard error
abbrev pub sample_line : Result (Unit {0}) SampleTrouble → List ℕ
sample_line (Ok _) = []
sample_line (Err TooLong) = codes "hurd: that many don't fit in 1048576 bytes\n"
sample_line (Err Memory) = codes "hurd: out of memory\n"
sample_line (Err Write) = codes "hurd: cannot write\n"
sample_line (Err Unread) = codes "hurd: no such sample can be drawn\n"

-- the exit status
abbrev pub sample_status : Result (Unit {0}) SampleTrouble → ℕ
sample_status (Ok _) = 0
sample_status (Err _) = 2

-- a random text was printed so: how that ended, what was printed, that a write is to blame only where one failed, what was said on standard error, and the status
pub record SampleEnds (sort : TextSort) (count : ℕ) {W E : Type 0} (contents : W → Option (List ℕ)) (said : E → Option (List ℕ))
    (output written : Output W) (errors told : Output E) (status : ℕ) : Type 0 where
  pub ended : Result (Unit {0}) SampleTrouble
  pub printed : List ℕ
  pub adds : Appends (contents output.writer) (contents written.writer) printed
  pub prints : PrintsSample sort count ended printed
  pub write : ended ≡ Err Write → written.failed ≡ true
  pub says : Says said errors told (sample_line ended)
  pub is : status ≡ sample_status ended
