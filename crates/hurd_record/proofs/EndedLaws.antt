-- That no reader and no writer is blamed that did not fail.
use Rattle.std.proofs.Common.{◌≡◌, ℕ, List, [], Option, Result, inl, inr, subst, Err}
use Rattle.hurd_terminal.specs.Faults.{Says, line_of}
use Rattle.hurd_terminal.specs.Runs.{Blames}
use Rattle.hurd_terminal.specs.declared.fault.Fault.{Fault}
use Rattle.hurd_terminal.specs.declared.fault.Fault.TheVariants.{Read, Write, Bad, Unknown, Boot, Memory}
use Rattle.hurd_terminal.specs.declared.print.Output.{Output}
use Rattle.hurd_terminal.specs.declared.read.Input.{Input}
use Rattle.hurd_record.specs.Faults.{IsBeginFault, IsRecordFault}

module _ {R W : Type 0} (input : Input R) (output : Output W) where
  -- a world that did not begin
  not_begun : (fault : Fault) → IsBeginFault fault → Blames input output (Err fault)
  not_begun Unknown is = record { read = λ no. absurd (cc); write = λ no. absurd (cc) }
  not_begun (Boot e) is = record { read = λ no. absurd (cc); write = λ no. absurd (cc) }
  not_begun Memory is = record { read = λ no. absurd (cc); write = λ no. absurd (cc) }
  not_begun Read is = absurd is
  not_begun Write is = absurd is
  not_begun (Bad line) is = absurd is

  -- a fault of a record
  pub record_blames : (fault : Fault) → IsRecordFault input output fault → Blames input output (Err fault)
  record_blames fault (inl (inl begin)) = not_begun fault begin
  record_blames fault (inl (inr (inl written))) = record { read = λ no. absurd (cc (no, written.0)); write = λ _. written.1 }
  record_blames fault (inl (inr (inr memory))) = record { read = λ no. absurd (cc (no, memory)); write = λ no. absurd (cc (no, memory)) }
  record_blames fault (inr (inl read)) = record { read = λ _. read.1; write = λ no. absurd (cc (no, read.0)) }
  record_blames fault (inr (inr memory)) = record { read = λ no. absurd (cc (no, memory)); write = λ no. absurd (cc (no, memory)) }

-- the same is said of another stranger that is the same
pub says_same : {E : Type 0} (said : E → Option (List ℕ)) (errors told : Output E) (file stranger other : List ℕ) (ended : Result (Unit {0}) Fault) → stranger ≡ other
    → Says said errors told (line_of file [] stranger ended) → Says said errors told (line_of file [] other ended)
says_same said errors told file stranger other ended same says = subst (λ (s : List ℕ). Says said errors told (line_of file [] s ended)) same says
