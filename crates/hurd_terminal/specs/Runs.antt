-- What a whole run of a program prints.
use Rattle.std.specs.Prelude.{◌≡◌, ◌≢◌, ◌⊎◌, ℕ, Bool, true, false, List, [], Option, Some, None, Result, Ok, Err, IfSome}
use Rattle.std.specs.Io.KnownBytes.{Appends}
use Rattle.hurd_creds.specs.declared.errno.Errno.{Errno}
use Rattle.hurd_terminal.specs.Faults.{Says, line_of, status_of}
use Rattle.hurd_terminal.specs.declared.fault.Fault.{Fault}
use Rattle.hurd_terminal.specs.declared.fault.Fault.TheVariants.{Read, Write, Bad, Unknown, Boot, Memory}
use Rattle.hurd_terminal.specs.declared.print.Output.{Output}
use Rattle.hurd_terminal.specs.declared.read.Input.{Input}

-- what a program makes of a text: what it says after the name of its file where it is bad, and where somebody is named who isn't in it; the line at which
-- a text is bad, whether its world may begin, whether all who are named are in it, all that is printed of it, and a front of that
pub record Program : Type 1 where
  pub complaint : List ℕ → List ℕ
  pub stranger : List ℕ
  pub bad : List ℕ → Option ℕ
  pub boot : List ℕ → Result (Unit {0}) Errno
  pub known : List ℕ → Bool
  pub IsAll : List ℕ → List ℕ → Type 0
  pub IsPart : List ℕ → List ℕ → Type 0

-- a text is good, and those who are named are in it
pub record IsTaken (p : Program) (text : List ℕ) : Type 0 where
  pub good : p.bad text ≡ None
  pub known : p.known text ≡ true

-- what is printed of a text, by how that ends: nothing of a bad text, where no world was begun, or where somebody is named who isn't in it
unfoldable pub Prints : Program → List ℕ → Result (Unit {0}) Fault → List ℕ → Type 0
Prints p text (Ok _) printed = IsTaken p text × p.IsAll text printed
Prints p text (Err Read) printed = printed ≡ []
Prints p text (Err Write) printed = IsTaken p text × p.IsPart text printed
Prints p text (Err (Bad line)) printed = (p.bad text ≡ Some line) × (printed ≡ [])
Prints p text (Err Unknown) printed = (p.bad text ≡ None) × (p.known text ≡ false) × (printed ≡ [])
Prints p text (Err (Boot e)) printed = (p.bad text ≡ None) × (p.boot text ≡ Err e) × (printed ≡ [])
Prints p text (Err Memory) printed = (printed ≡ []) ⊎ (IsTaken p text × p.IsPart text printed)

-- what was printed since is what a program prints of a text that ends so
abbrev pub Adds : Program → List ℕ → Option (List ℕ) → Option (List ℕ) → Result (Unit {0}) Fault → Type 0
Adds p text before after ended = (printed : List ℕ) × Appends before after printed × Prints p text ended printed

-- a text, which is what the reader held where that is known, was run: so much of its output was appended
pub record Ran (p : Program) (held before after : Option (List ℕ)) (ended : Result (Unit {0}) Fault) : Type 0 where
  pub text : List ℕ
  pub read : IfSome held (λ bytes. text ≡ bytes)
  pub adds : Adds p text before after ended

-- a run ends by `Read` only where a read failed or 2,097,152 did not reach the end, and by `Write` only where a write failed
pub record Blames {R W : Type 0} (input : Input R) (output : Output W) (ended : Result (Unit {0}) Fault) : Type 0 where
  pub read : ended ≡ Err Read → (input.failed ≡ true) ⊎ (input.reads_left ≡ 0)
  pub write : ended ≡ Err Write → output.failed ≡ true

-- a run of a text ended so: what was printed of it, that no read was to blame, and a write only where one failed; what was said of its file, and the status
pub record Ends (p : Program) (file text : List ℕ) {W E : Type 0} (contents : W → Option (List ℕ)) (said : E → Option (List ℕ))
    (output written : Output W) (errors told : Output E) (status : ℕ) : Type 0 where
  pub ended : Result (Unit {0}) Fault
  pub adds : Adds p text (contents output.writer) (contents written.writer) ended
  pub read : ended ≢ Err Read
  pub write : ended ≡ Err Write → written.failed ≡ true
  pub says : Says said errors told (line_of file (p.complaint text) p.stranger ended)
  pub is : status ≡ status_of ended

-- a program printed what a run of a file prints, and of a fault its line on standard error, of which only a front stands where that can't be written
pub record Exits (p : Program) (file : List ℕ) {R W E : Type 0} (remaining : R → Option (List ℕ)) (contents : W → Option (List ℕ)) (said : E → Option (List ℕ))
    (input read : Input R) (output written : Output W) (errors told : Output E) (status : ℕ) : Type 0 where
  pub ended : Result (Unit {0}) Fault
  pub ran : Ran p (remaining input.reader) (contents output.writer) (contents written.writer) ended
  pub blames : Blames read written ended
  pub says : Says said errors told (line_of file (p.complaint ran.text) p.stranger ended)
  pub is : status ≡ status_of ended
