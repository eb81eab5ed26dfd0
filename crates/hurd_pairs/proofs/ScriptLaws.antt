-- What was compared of two scripts, said of what their users see.
use Rattle.std.proofs.Common.{◌≡◌, ◌∙◌, ap, refl, ℕ, List, [], Option, Some, Ok, Err, Result, Bool, true}
use Rattle.std.specs.Prelude.{is_some}
use Rattle.std.specs.Io.KnownBytes.{Appends}
use Rattle.std.proofs.KnownBytes.{Appends-nil}
use Rattle.hurd_machine.specs.Sight.{SameView}
use Rattle.hurd_machine.specs.Sound.{Sound}
use Rattle.hurd_machine.specs.World.{World}
use Rattle.hurd_script.specs.Script.{commands_of}
use Rattle.hurd_trans_iface.specs.Meaning.{begin}
use Rattle.hurd_sight.specs.Reach.{among}
use Rattle.hurd_views.proofs.ViewLaws.{rows_are_views}
use Rattle.hurd_dialogue.specs.Parts.{Part, Way}
use Rattle.hurd_dialogue.specs.Sorts.{Begins}
use Rattle.hurd_shell.specs.Scripts.{scripts}
use Rattle.hurd_teaching.specs.Programs.{AreThese}
use Rattle.hurd_teaching.specs.declared.learners.Learners.{Learners}
use Rattle.hurd_terminal.specs.Faults.{AppendsFront}
use Rattle.hurd_terminal.specs.declared.fault.Fault.{Fault}
use Rattle.hurd_terminal.specs.declared.fault.Fault.TheVariants.{Read, Write, Memory}
use Rattle.hurd_terminal.specs.declared.print.Output.{Output}
use Rattle.hurd_pairs.specs.Differences.{SeeAlike, SeeOther}
use Rattle.hurd_pairs.specs.Lines.{line_before}
use Rattle.hurd_pairs.specs.Moments.{Moment, moments, moments_left}
use Rattle.hurd_pairs.specs.Pairs.{IsPair, Mismatches}
use Rattle.hurd_pairs.specs.Reports.{IsFaulty, IsFit, PairPrints, Reports, lines_in, moments_of, report_text}
use Rattle.hurd_pairs.specs.Whole.{IsReport, PrintsReport}
use Rattle.hurd_pairs.specs.declared.difference.Mismatch.{Mismatch}
use Rattle.hurd_pairs.specs.declared.difference.PairFault.{PairFault}
use Rattle.hurd_pairs.specs.declared.difference.PairFault.TheVariants.{First, Second, NoPair}
use Rattle.hurd_pairs.specs.declared.difference.Verdict.{Verdict}
use Rattle.hurd_pairs.proofs.FirstLaws.{said_otherwise}
use Rattle.hurd_pairs.proofs.ToldLaws.{moments_sound, script_sound}

-- a script that was begun has all its moments before it
begun_moments : (S : ℕ → Bool) (text : List ℕ) (way : Way) → Begins scripts text way → moments_left S way ≡ moments_of scripts S text
begun_moments S text way begins =
    ap (λ (n : ℕ). moments S n way.world way.left) begins.told
    ∙ (ap (λ (w : World). moments S 0 w way.left) begins.world ∙ ap (λ (ps : List Part). moments S 0 (scripts.world text) ps) begins.left)

-- and the lines of its commands
begun_lines : (text : List ℕ) (way : Way) → Begins scripts text way → line_before way.heading text ≡ lines_in scripts text
begun_lines text way begins = ap (λ (h : ℕ). line_before h text) begins.heading

-- a script that was begun, in which those are found, is fit
pub is_fit : (word text : List ℕ) (way : Way) (learners : Learners) → Begins scripts text way → AreThese scripts word text learners → IsFit scripts word text
is_fit word text way learners begins these = record { good = begins.good; boots = begins.boots; known = ap is_some these.tasks }

module _ (word one two : List ℕ) (v w : Way) (learners : Learners) (first : Begins scripts one v) (second : Begins scripts two w)
    (these : AreThese scripts word one learners) (pair : IsPair (among learners.tasks.items) one two) where
  pub script_report : (verdict : Verdict) (text : List ℕ) → IsReport learners one two v w verdict text → Reports word one two verdict text
  script_report verdict text report =
      let tasks = learners.tasks.items in
      let S = among tasks in
      let ms = begun_moments S one v first in
      let ns = begun_moments S two w second in
      record {
        learners = learners;
        these = these;
        pair = pair;
        compared = report.compared;
        compares = record {
          seen = rw (ms, ns) at report.compares.seen;
          told = rw (ms, ns) at report.compares.told;
        };
        judged = report.judged;
        is = report.is ∙ (ap (λ (f : ℕ → Option ℕ). report_text learners f (line_before w.heading two) report.compared) (begun_lines one v first)
            ∙ ap (λ (f : ℕ → Option ℕ). report_text learners (lines_in scripts one) f report.compared) (begun_lines two w second));
      }

-- the report was printed, or a front of it, or nothing

module _ (learners : Learners) (one two : List ℕ) (v w : Way) {W : Type 0} (output : Output W) (before after : Option (List ℕ)) where
  pub nothing_printed : PrintsReport learners one two v w output before before (Err Memory)
  unfolding PrintsReport
  nothing_printed = Appends-nil before

  pub report_printed : (verdict : Verdict) (text : List ℕ) → IsReport learners one two v w verdict text → Appends before after text → PrintsReport learners one two v w output before after (Ok verdict)
  unfolding PrintsReport
  report_printed verdict text report adds = (text, report, adds)

  pub report_cut : (verdict : Verdict) (text : List ℕ) → output.failed ≡ true → IsReport learners one two v w verdict text → AppendsFront before after text
      → PrintsReport learners one two v w output before after (Err Write)
  unfolding PrintsReport
  report_cut verdict text failed report adds = (failed, verdict, text, report, adds)

-- of two scripts nothing was printed: of the first, the second, or since they are no pair

pub first_faulty : (word one two : List ℕ) (before : Option (List ℕ)) (fault : Fault) → IsFaulty scripts word one fault
    → (printed : List ℕ) × Appends before before printed × PairPrints word one two (Err (First fault)) printed
unfolding PairPrints
first_faulty word one two before Read faulty = absurd faulty
first_faulty word one two before Write faulty = absurd faulty
first_faulty word one two before _ faulty = ([], Appends-nil before, (faulty, refl))

pub second_faulty : (word one two : List ℕ) (before : Option (List ℕ)) (fault : Fault) → IsFit scripts word one → IsFaulty scripts word two fault
    → (printed : List ℕ) × Appends before before printed × PairPrints word one two (Err (Second fault)) printed
unfolding PairPrints
second_faulty word one two before fault fit faulty = ([], Appends-nil before, (fit, faulty, refl))

pub no_pair : (word one two : List ℕ) (before : Option (List ℕ)) (why : Mismatch) (learners : Learners) → IsFit scripts word one → IsFit scripts word two → AreThese scripts word one learners
    → Mismatches (among learners.tasks.items) one two (Some why) → (printed : List ℕ) × Appends before before printed × PairPrints word one two (Err (NoPair why)) printed
unfolding PairPrints
no_pair word one two before why learners fit fits these differ = ([], Appends-nil before, (fit, fits, refl, learners, these, differ))

module _ (word one two : List ℕ) (v w : Way) (learners others : Learners) (first : Begins scripts one v) (second : Begins scripts two w)
    (these : AreThese scripts word one learners) (those : AreThese scripts word two others) (pair : IsPair (among learners.tasks.items) one two) where
  -- what was printed of the report is what is printed of the scripts
  pub told_prints : {W : Type 0} (output : Output W) (before after : Option (List ℕ)) (verdict : Verdict) → PrintsReport learners one two v w output before after (Ok verdict)
      → (printed : List ℕ) × Appends before after printed × PairPrints word one two (Ok verdict) printed
  unfolding PrintsReport PairPrints
  told_prints output before after verdict (text, report, adds) =
      (text, adds, (is_fit word one v learners first these, is_fit word two w others second those, script_report word one two v w learners first second these pair verdict text report))

  pub fault_prints : {W : Type 0} (output : Output W) (before after : Option (List ℕ)) (fault : Fault) → PrintsReport learners one two v w output before after (Err fault)
      → (printed : List ℕ) × Appends before after printed × PairPrints word one two (Err (First fault)) printed
  unfolding PrintsReport PairPrints
  fault_prints output before after Memory adds = ([], adds, (tt, refl))
  fault_prints output before after Write (failed, verdict, text, report, (front, is, adds)) =
      (front, adds, (verdict, text, script_report word one two v w learners first second these pair verdict text report, is))
  fault_prints output before after _ none = absurd none

-- a write is to blame only where one failed

pub write_failed : (learners : Learners) (one two : List ℕ) (v w : Way) {W : Type 0} (output : Output W) (before after : Option (List ℕ)) (fault : Fault)
    → PrintsReport learners one two v w output before after (Err fault) → First fault ≡ First Write → output.failed ≡ true
unfolding PrintsReport
write_failed learners one two v w output before after Write (failed, v2, t2, r2, f2) is = failed
write_failed learners one two v w output before after Memory adds is = absurd (cc)
write_failed learners one two v w output before after _ none is = absurd none

-- the fault that ended a run
abbrev pub told_fault : Result Verdict PairFault → PairFault
told_fault (Ok verdict) = First Memory
told_fault (Err fault) = fault
