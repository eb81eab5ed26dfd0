-- Faults and how a program ends.
use Rattle.std.specs.Prelude.{◌≡◌, ◌⊎◌, ℕ, true, List, [], ◌++◌, Option, Result, Ok, Err, codes}
use Rattle.std.specs.Io.KnownBytes.{Appends}
use Rattle.hurd_creds.specs.Errors.{name_of}
use Rattle.hurd_creds.specs.declared.errno.Errno.{Errno}
use Rattle.hurd_terminal.specs.declared.fault.Fault.{Fault}
use Rattle.hurd_terminal.specs.declared.fault.Fault.TheVariants.{Read, Write, Bad, Unknown, Boot, Memory}
use Rattle.hurd_terminal.specs.declared.print.Output.{Output}
use Rattle.hurd_terminal.specs.declared.read.Input.{Input}

-- the exit status: 0 where all was printed, 1 for a bad text or where somebody is named who isn't in it, 2 for all else
abbrev pub status_of : Result (Unit {0}) Fault → ℕ
status_of (Ok _) = 0
status_of (Err (Bad line)) = 1
status_of (Err Unknown) = 1
status_of (Err _) = 2

-- what comes after the name of a file whose world is refused
abbrev pub refusal_by : Errno → List ℕ
refusal_by e = codes ": cannot create the initial tree: " ++ name_of e ++ codes "\n"

-- a line of a file: its name, and this after it
abbrev pub of_file : List ℕ → List ℕ → List ℕ
of_file file tail = codes "hurd: " ++ (file ++ tail)

-- what is on standard error: nothing where all was printed. After the name of a file a complaint stands where its text is bad, and another text
-- where somebody is named who isn't in it
abbrev pub line_of : List ℕ → List ℕ → List ℕ → Result (Unit {0}) Fault → List ℕ
line_of file complaint stranger (Ok _) = []
line_of file complaint stranger (Err Read) = of_file file (codes ": cannot read\n")
line_of file complaint stranger (Err Write) = codes "hurd: cannot write\n"
line_of file complaint stranger (Err (Bad line)) = of_file file complaint
line_of file complaint stranger (Err Unknown) = of_file file stranger
line_of file complaint stranger (Err (Boot e)) = of_file file (refusal_by e)
line_of file complaint stranger (Err Memory) = codes "hurd: out of memory\n"

-- a text could not be read since a read failed or none was left to make, or memory was refused
abbrev pub IsReadFault : {R : Type 0} → Input R → Fault → Type 0
IsReadFault input fault = ((fault ≡ Read) × ((input.failed ≡ true) ⊎ (input.reads_left ≡ 0))) ⊎ (fault ≡ Memory)

-- output could not be written since a write failed, or memory was refused
abbrev pub IsPrintFault : {W : Type 0} → Output W → Fault → Type 0
IsPrintFault output fault = ((fault ≡ Write) × (output.failed ≡ true)) ⊎ (fault ≡ Memory)

-- bytes that others begin with
abbrev pub IsFront : List ℕ → List ℕ → Type 0
IsFront front whole = (rest : List ℕ) × (whole ≡ front ++ rest)

-- known bytes grow by the first of some bytes
abbrev pub AppendsFront : Option (List ℕ) → Option (List ℕ) → List ℕ → Type 0
AppendsFront before after whole = (front : List ℕ) × IsFront front whole × Appends before after front

-- a line was printed, or only a front of it, and then a write failed
abbrev pub Says : {W : Type 0} → (W → Option (List ℕ)) → Output W → Output W → List ℕ → Type 0
Says contents output written line =
    (Appends (contents output.writer) (contents written.writer) line × (written.failed ≡ output.failed))
    ⊎ ((written.failed ≡ true) × AppendsFront (contents output.writer) (contents written.writer) line)
