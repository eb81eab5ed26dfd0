-- What was printed of a text so far.
use Rattle.std.specs.Prelude.{IfErr, OnOk, Option, Result}
use Rattle.std.specs.Io.KnownBytes.{Appends}
use Rattle.std.proofs.Common.{◌≡◌, ◌∙◌, ℕ, List, [], ◌++◌, Ok, Err, Some, None, ◌≢◌, ap, append-nil, append_assoc, refl, subst, suc, sym, length}
use Rattle.std.proofs.KnownBytes.{Appends-nil, Appends-trans}
use Rattle.hurd_creds.specs.declared.errno.Errno.{Errno}
use Rattle.hurd_words.specs.Answers.{plain}
use Rattle.hurd_words.specs.declared.answers.Answer.{Answer}
use Rattle.hurd_terminal.specs.Faults.{AppendsFront, IsFront, IsPrintFault}
use Rattle.hurd_terminal.specs.Runs.{Adds, IsTaken, Prints, Program}
use Rattle.hurd_terminal.specs.declared.fault.Fault.{Fault}
use Rattle.hurd_terminal.specs.declared.fault.Fault.TheVariants.{Read, Write, Bad, Unknown, Boot, Memory}
use Rattle.hurd_terminal.specs.declared.print.Output.{Output}
use Rattle.hurd_terminal.proofs.RunLaws.{adds_all, adds_nothing, adds_part, no_memory}
use Rattle.hurd_terminal.proofs.OutputLaws.{front_follows}
use Rattle.hurd_dialogue.specs.Parts.{Goes, Part, Way, joined}
use Rattle.hurd_dialogue.specs.Sorts.{Begins, NotBegun, Sort, running, transcript}

-- a front of the whole was printed, and the rest is still to be told
pub record PrintedSoFar (whole : List ℕ) (before now : Option (List ℕ)) (left : List Part) : Type 0 where
  pub printed : List ℕ
  pub split : whole ≡ printed ++ joined left
  pub appends : Appends before now printed

pub none_printed : (before : Option (List ℕ)) (left : List Part) → PrintedSoFar (joined left) before before left
none_printed before left = record { printed = []; split = refl; appends = Appends-nil before }

module _ (whole : List ℕ) (before now : Option (List ℕ)) (old : Way) (so : PrintedSoFar whole before now old.left) where
  -- a front was printed
  pub front_printed : AppendsFront before now whole
  front_printed = (so.printed, (joined old.left, so.split), so.appends)

  -- no part is left
  pub all_printed : (new : Way) → Goes old None new → Appends before now whole
  all_printed new none = subst (λ (bs : List ℕ). Appends before now bs) (sym (so.split ∙ (ap (λ (ps : List Part). so.printed ++ joined ps) none.0 ∙ append-nil so.printed))) so.appends

  module _ (new : Way) (answer : Answer) (goes : Goes old (Some answer) new) where
    split_on : whole ≡ (so.printed ++ plain answer) ++ joined new.left
    split_on = so.split ∙ (ap (λ (ps : List Part). so.printed ++ joined ps) goes.1 ∙ sym (append_assoc so.printed (plain answer) (joined new.left)))

    -- the answer was printed
    pub part_printed : (then : Option (List ℕ)) → Appends now then (plain answer) → PrintedSoFar whole before then new.left
    part_printed then adds = record { printed = so.printed ++ plain answer; split = split_on; appends = Appends-trans before now then so.printed (plain answer) so.appends adds }

    -- or a front of it
    pub part_cut : (then : Option (List ℕ)) → AppendsFront now then (plain answer) → AppendsFront before then whole
    part_cut then cut = front_follows before now then whole so.printed (plain answer) (joined new.left, split_on) so.appends cut

-- one part less is left
pub one_less : (old new : Way) (answer : Answer) → Goes old (Some answer) new → length old.left ≡ suc (length new.left)
one_less old new answer goes = ap length goes.1

-- a text that was begun has its whole transcript before it, and printed it, or a front of it

module _ (sort : Sort) (text : List ℕ) (way : Way) (begins : Begins sort text way) where
  taken : IsTaken (running sort) text
  taken = record { good = begins.good; known = refl }

  whole : joined way.left ≡ transcript sort text
  whole = ap joined begins.left

  pub begun_adds : {W : Type 0} (output : Output W) (before after : Option (List ℕ)) (ended : Result (Unit {0}) Fault) → OnOk ended (Appends before after (joined way.left))
      → IfErr ended (λ fault. IsPrintFault output fault × AppendsFront before after (joined way.left)) → Adds (running sort) text before after ended
  begun_adds output before after (Ok u) ok err = adds_all (running sort) before after text (joined way.left) u taken whole ok
  begun_adds output before after (Err fault) ok err =
      adds_part (running sort) output before after text err.1.0 fault err.0 taken (subst (IsFront err.1.0) whole err.1.1) err.1.2

-- one that was not begun printed nothing, whatever is to be printed of it
pub not_begun_adds : (p : Program) (sort : Sort) (before : Option (List ℕ)) (text : List ℕ) (fault : Fault) → p.bad ≡ sort.bad → p.boot ≡ sort.boot → NotBegun sort text fault
    → Adds p text before before (Err fault)
unfolding Prints
not_begun_adds p sort before text Read bad boot not = absurd not
not_begun_adds p sort before text Write bad boot not = absurd not
not_begun_adds p sort before text (Bad line) bad boot not = adds_nothing p before text (Err (Bad line)) (ap (λ (f : List ℕ → Option ℕ). f text) bad ∙ not, refl)
not_begun_adds p sort before text Unknown bad boot not = absurd not
not_begun_adds p sort before text (Boot e) bad boot not =
    adds_nothing p before text (Err (Boot e)) (ap (λ (f : List ℕ → Option ℕ). f text) bad ∙ not.0, ap (λ (f : List ℕ → Result (Unit {0}) Errno). f text) boot ∙ not.1, refl)
not_begun_adds p sort before text Memory bad boot not = no_memory p before text

-- for lack of memory, or a fault that says why it was not begun, and none of reading or writing

pub not_begun_reads : (sort : Sort) (text : List ℕ) (r : Result (Unit {0}) Fault) (fault : Fault) → r ≡ Err fault → NotBegun sort text fault → r ≢ Err Read
not_begun_reads sort text r Read is not same = not
not_begun_reads sort text r Write is not same = not
not_begun_reads sort text r (Bad line) is not same = cc
not_begun_reads sort text r Unknown is not same = not
not_begun_reads sort text r (Boot e) is not same = cc
not_begun_reads sort text r Memory is not same = cc

pub not_begun_writes : {P : Type 0} (sort : Sort) (text : List ℕ) (r : Result (Unit {0}) Fault) (fault : Fault) → r ≡ Err fault → NotBegun sort text fault → r ≡ Err Write → P
not_begun_writes sort text r Read is not same = absurd not
not_begun_writes sort text r Write is not same = absurd not
not_begun_writes sort text r (Bad line) is not same = absurd (cc)
not_begun_writes sort text r Unknown is not same = absurd not
not_begun_writes sort text r (Boot e) is not same = absurd (cc)
not_begun_writes sort text r Memory is not same = absurd (cc)
