-- The report on two texts on their way.
use Rattle.std.specs.Prelude.{◌≡◌, ℕ, true, List, [], Option, Result, Ok, Err}
use Rattle.std.specs.Io.KnownBytes.{Appends}
use Rattle.hurd_sight.specs.Reach.{among}
use Rattle.hurd_dialogue.specs.Parts.{Way}
use Rattle.hurd_teaching.specs.declared.learners.Learners.{Learners}
use Rattle.hurd_terminal.specs.Faults.{AppendsFront}
use Rattle.hurd_terminal.specs.declared.fault.Fault.{Fault}
use Rattle.hurd_terminal.specs.declared.fault.Fault.TheVariants.{Memory, Write}
use Rattle.hurd_terminal.specs.declared.print.Output.{Output}
use Rattle.hurd_pairs.specs.Differences.{Compares, SeeAlike, SeeOther}
use Rattle.hurd_pairs.specs.Lines.{line_before}
use Rattle.hurd_pairs.specs.Moments.{moments_left}
use Rattle.hurd_pairs.specs.Reports.{report_text, verdict_of}
use Rattle.hurd_pairs.specs.declared.difference.Compared.{Compared}
use Rattle.hurd_pairs.specs.declared.difference.Verdict.{Verdict}

-- a report on what two texts have still before them
pub record IsReport (learners : Learners) (one two : List ℕ) (v w : Way) (verdict : Verdict) (text : List ℕ) : Type 0 where
  pub compared : Compared
  pub compares : Compares (SeeAlike learners.tasks.items) (SeeOther learners.tasks.items) learners.tasks.items learners.sees.items
      (moments_left (among learners.tasks.items) v) (moments_left (among learners.tasks.items) w) compared
  pub judged : verdict ≡ verdict_of compared.told
  pub is : text ≡ report_text learners (line_before v.heading one) (line_before w.heading two) compared

-- it was printed, or a front of it where it can't be written; where memory was refused, nothing was
unfoldable pub PrintsReport : Learners → List ℕ → List ℕ → Way → Way → {W : Type 0} → Output W → Option (List ℕ) → Option (List ℕ) → Result Verdict Fault → Type 0
PrintsReport learners one two v w output before after (Ok verdict) = (text : List ℕ) × IsReport learners one two v w verdict text × Appends before after text
PrintsReport learners one two v w output before after (Err Memory) = Appends before after []
PrintsReport learners one two v w output before after (Err Write) =
    (output.failed ≡ true) × (verdict : Verdict) × (text : List ℕ) × IsReport learners one two v w verdict text × AppendsFront before after text
PrintsReport learners one two v w output before after (Err _) = ⊥
