-- The program that runs two scripts side by side.
use Rattle.std.specs.Prelude.{◌≡◌, ◌≢◌, ◌⊎◌, ℕ, true, List, [], ◌++◌, Option, Some, None, Result, Ok, Err, IfSome, codes, decimal, take}
use Rattle.std.specs.Io.KnownBytes.{Appends}
use Rattle.hurd_shell.specs.Scripts.{scripts}
use Rattle.hurd_terminal.specs.Faults.{IsReadFault, Says, line_of, of_file, status_of}
use Rattle.hurd_terminal.specs.declared.fault.Fault.{Fault}
use Rattle.hurd_terminal.specs.declared.fault.Fault.TheVariants.{Memory, Write}
use Rattle.hurd_terminal.specs.declared.print.Output.{Output}
use Rattle.hurd_terminal.specs.declared.read.Input.{Input}
use Rattle.hurd_words.specs.Escapes.{escaped}
use Rattle.hurd_pairs.specs.Reports.{PairPrints, lines_in}
use Rattle.hurd_pairs.specs.declared.difference.Mismatch.{Mismatch}
use Rattle.hurd_pairs.specs.declared.difference.Mismatch.TheVariants.{Users, Commands}
use Rattle.hurd_pairs.specs.declared.difference.PairFault.{PairFault}
use Rattle.hurd_pairs.specs.declared.difference.PairFault.TheVariants.{First, Second, NoPair}
use Rattle.hurd_pairs.specs.declared.difference.Verdict.{Verdict}
use Rattle.hurd_pairs.specs.declared.difference.Verdict.TheVariants.{Same, Different}

-- the exit status: 0 if those get the same replies, 3 if they get a different one; 1 also if the scripts cannot be compared
abbrev pub pair_status : Result Verdict PairFault → ℕ
pair_status (Ok Same) = 0
pair_status (Ok Different) = 3
pair_status (Err (First fault)) = status_of (Err fault)
pair_status (Err (Second fault)) = status_of (Err fault)
pair_status (Err (NoPair why)) = 1

-- a line of a file
abbrev pub at_line : ℕ → List ℕ
at_line line = codes ":" ++ decimal line

-- what is said after the name of the second file where a command is another, by the lines in the first and in the second, where there are such
abbrev pub other_command : List ℕ → Option ℕ → Option ℕ → List ℕ
other_command first (Some one) (Some two) = at_line two ++ (codes ": not comparable: differs from " ++ (first ++ at_line one))
other_command first (Some one) None = codes ": not comparable: lacks the command at " ++ (first ++ at_line one)
other_command first None (Some two) = at_line two ++ (codes ": not comparable: no such command in " ++ first)
other_command first None None = codes ": not comparable"

-- and if two scripts cannot be compared
abbrev pub mismatch_text : List ℕ → List ℕ → List ℕ → Mismatch → List ℕ
mismatch_text first one two Users = codes ": not comparable: its users differ from those of " ++ first
mismatch_text first one two (Commands m n) = other_command first (lines_in scripts one m) (lines_in scripts two n)

-- what is on standard error, where the files have these names and hold these texts
abbrev pub pair_line : List ℕ → List ℕ → List ℕ → List ℕ → List ℕ → Result Verdict PairFault → List ℕ
pair_line word first second one two (Ok verdict) = []
pair_line word first second one two (Err (First fault)) = line_of first (scripts.complaint one) (scripts.stranger ++ (escaped word ++ codes "\n")) (Err fault)
pair_line word first second one two (Err (Second fault)) = line_of second (scripts.complaint two) (scripts.stranger ++ (escaped word ++ codes "\n")) (Err fault)
pair_line word first second one two (Err (NoPair why)) = of_file second (mismatch_text first one two why ++ codes "\n")

-- what was read of a file: all that it held, or the first 1,048,577 bytes, which no good script has
abbrev pub IsHeld : Option (List ℕ) → List ℕ → Type 0
IsHeld held text = IfSome held (λ bytes. text ≡ take 1048577 bytes)

-- what is said of a script that isn't told for this reason: its line, or that memory was refused for that, but where nothing could be printed
pub record IsBlamed (word file text : List ℕ) (fault : Fault) {E : Type 0} (said : E → Option (List ℕ)) (errors told : Output E) (status : ℕ) : Type 0 where
  pub ended : Fault
  pub why : (ended ≡ fault) ⊎ ((ended ≡ Memory) × (fault ≢ Write))
  pub says : Says said errors told (line_of file (scripts.complaint text) (scripts.stranger ++ (escaped word ++ codes "\n")) (Err ended))
  pub is : status ≡ status_of (Err ended)

-- a run of two texts ended so: what was printed, that a write is to blame only where one failed, what was said on standard error, and the status
pub record PairEnds (word first second one two : List ℕ) {W E : Type 0} (contents : W → Option (List ℕ)) (said : E → Option (List ℕ))
    (output written : Output W) (errors told : Output E) (status : ℕ) : Type 0 where
  pub ended : Result Verdict PairFault
  pub printed : List ℕ
  pub adds : Appends (contents output.writer) (contents written.writer) printed
  pub prints : PairPrints word one two ended printed
  pub write : ended ≡ Err (First Write) → written.failed ≡ true
  pub says : Says said errors told (pair_line word first second one two ended)
  pub is : status ≡ pair_status ended

-- one of two files could not be read: nothing was printed, and that was said
pub record IsUnread (first second : List ℕ) {R Q W E : Type 0} (one : Input R) (two : Input Q) (contents : W → Option (List ℕ)) (said : E → Option (List ℕ))
    (output written : Output W) (errors told : Output E) (status : ℕ) : Type 0 where
  pub file : List ℕ
  pub fault : Fault
  pub which : ((file ≡ first) × IsReadFault one fault) ⊎ ((file ≡ second) × IsReadFault two fault)
  pub none : Appends (contents output.writer) (contents written.writer) []
  pub says : Says said errors told (line_of file [] [] (Err fault))
  pub is : status ≡ status_of (Err fault)

-- a run of two files: one could not be read, or what was read of both was run
abbrev pub PairExits : (word first second : List ℕ) → {R Q W E : Type 0} → (R → Option (List ℕ)) → (Q → Option (List ℕ)) → (W → Option (List ℕ)) → (E → Option (List ℕ))
    → Input R → Input R → Input Q → Input Q → Output W → Output W → Output E → Output E → ℕ → Type 0
PairExits word first second remaining others contents said one one_read two two_read output written errors told status =
    IsUnread first second one_read two_read contents said output written errors told status
    ⊎ ((x y : List ℕ) × IsHeld (remaining one.reader) x × IsHeld (others two.reader) y × PairEnds word first second x y contents said output written errors told status)
