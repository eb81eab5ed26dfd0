-- What is printed of two scripts.
use Rattle.std.specs.Prelude.{◌≡◌, ℕ, Bool, List, [], ◌++◌, Option, Some, None, Result, Ok, Err, codes, decimal, if◌then◌else◌, is_some, length, nat_lt, true, false}
use Rattle.hurd_creds.specs.declared.name.TaskId.{TaskId}
use Rattle.hurd_sight.specs.Reach.{among}
use Rattle.hurd_dialogue.specs.Sorts.{Sort}
use Rattle.hurd_shell.specs.Scripts.{scripts}
use Rattle.hurd_teaching.specs.Learners.{tasks_named}
use Rattle.hurd_teaching.specs.Programs.{AreThese}
use Rattle.hurd_teaching.specs.declared.learners.Learners.{Learners}
use Rattle.hurd_terminal.specs.Faults.{IsFront}
use Rattle.hurd_terminal.specs.declared.fault.Fault.{Fault}
use Rattle.hurd_terminal.specs.declared.fault.Fault.TheVariants.{Bad, Boot, Memory, Unknown, Write}
use Rattle.hurd_pairs.specs.Differences.{Compares, SeeAlike, SeeOther}
use Rattle.hurd_pairs.specs.Lines.{line_before}
use Rattle.hurd_pairs.specs.Moments.{Moment, moments}
use Rattle.hurd_pairs.specs.Pairs.{IsPair, Mismatches}
use Rattle.hurd_pairs.specs.declared.difference.Compared.{Compared}
use Rattle.hurd_pairs.specs.declared.difference.Difference.{Difference}
use Rattle.hurd_pairs.specs.declared.difference.PairFault.{PairFault}
use Rattle.hurd_pairs.specs.declared.difference.PairFault.TheVariants.{First, Second, NoPair}
use Rattle.hurd_pairs.specs.declared.difference.Verdict.{Verdict}
use Rattle.hurd_pairs.specs.declared.difference.Verdict.TheVariants.{Same, Different}

-- a place in a text: as `before line 7`, where there is such a line
unfoldable pub place_text : List ℕ → Option ℕ → List ℕ
place_text word None = codes " at the end"
place_text word (Some line) = word ++ decimal line

-- the word before a line of the second text: where a line of the first is named, it is not said again what it is to the place
abbrev pub second_word : List ℕ → Option ℕ → List ℕ
second_word word None = word
second_word word (Some line) = codes " line "

-- a place in each of two
unfoldable pub places_text : List ℕ → Option ℕ → Option ℕ → List ℕ
places_text word one two = place_text word one ++ (codes " of the first script," ++ (place_text (second_word word one) two ++ codes " of the second"))

-- what follows the names of those who get a reply
abbrev pub get_of : List TaskId → List ℕ
get_of tasks = if nat_lt 1 (length tasks) then codes " get" else codes " gets"

-- a difference, by the lines of the things that are done: the places, between a word and another text, and what is said of it
unfoldable pub difference_text : List ℕ → List ℕ → (ℕ → Option ℕ) → (ℕ → Option ℕ) → Difference → List ℕ
difference_text word end one two d = places_text word (one d.one) (two d.two) ++ (end ++ d.said)

-- where somebody whose sight is called so sees something else first
abbrev pub seen_text : List ℕ → (ℕ → Option ℕ) → (ℕ → Option ℕ) → Option Difference → List ℕ
seen_text sees one two None = sees ++ codes " the same\n"
seen_text sees one two (Some d) = sees ++ (codes " a difference" ++ difference_text (codes " before line ") (codes "; first -> second:\n") one two d)

-- and where somebody first gets a different reply
abbrev pub told_text : List ℕ → (ℕ → Option ℕ) → (ℕ → Option ℕ) → Option Difference → List ℕ
told_text get one two None = get ++ codes " the same replies\n"
told_text get one two (Some d) = get ++ (codes " a different reply" ++ difference_text (codes " at line ") (codes ":\n") one two d)

-- both
abbrev pub report_text : Learners → (ℕ → Option ℕ) → (ℕ → Option ℕ) → Compared → List ℕ
report_text learners one two c = seen_text learners.sees.items one two c.seen ++ told_text (learners.names.items ++ get_of learners.tasks.items) one two c.told

-- the moments of a text
abbrev pub moments_of : Sort → (ℕ → Bool) → List ℕ → List Moment
moments_of sort S text = moments S 0 (sort.world text) (sort.parts text)

-- the lines of what is done in a text
abbrev pub lines_in : Sort → List ℕ → ℕ → Option ℕ
lines_in sort text made = line_before (sort.heading text) text made

-- whether they get the same replies
abbrev pub verdict_of : Option Difference → Verdict
verdict_of None = Same
verdict_of (Some d) = Different

-- a report on two scripts that are a pair for those that WHO names: where they first see and are told something else, and whether they are told the same
pub record Reports (word one two : List ℕ) (verdict : Verdict) (text : List ℕ) : Type 0 where
  pub learners : Learners
  pub these : AreThese scripts word one learners
  pub pair : IsPair (among learners.tasks.items) one two
  pub compared : Compared
  pub compares : Compares (SeeAlike learners.tasks.items) (SeeOther learners.tasks.items) learners.tasks.items learners.sees.items
      (moments_of scripts (among learners.tasks.items) one) (moments_of scripts (among learners.tasks.items) two) compared
  pub judged : verdict ≡ verdict_of compared.told
  pub is : text ≡ report_text learners (lines_in scripts one) (lines_in scripts two) compared

-- why a text can't be told for those that WHO names
abbrev pub IsFaulty : Sort → List ℕ → List ℕ → Fault → Type 0
IsFaulty sort word text (Bad line) = sort.bad text ≡ Some line
IsFaulty sort word text (Boot e) = (sort.bad text ≡ None) × (sort.boot text ≡ Err e)
IsFaulty sort word text Unknown = (sort.bad text ≡ None) × (is_some (tasks_named (sort.finds text) word) ≡ false)
IsFaulty sort word text Memory = Unit {0}
IsFaulty sort word text _ = ⊥

-- a text is good, and those are in it
pub record IsFit (sort : Sort) (word text : List ℕ) : Type 0 where
  pub good : sort.bad text ≡ None
  pub boots : sort.boot text ≡ Ok tt
  pub known : is_some (tasks_named (sort.finds text) word) ≡ true

-- what is printed of two scripts, by how that ends: the report, or a front of it where it can't be written, and else nothing. What is wrong with the
-- first comes first
unfoldable pub PairPrints : List ℕ → List ℕ → List ℕ → Result Verdict PairFault → List ℕ → Type 0
PairPrints word one two (Ok verdict) printed = IsFit scripts word one × IsFit scripts word two × Reports word one two verdict printed
PairPrints word one two (Err (First Write)) printed = (verdict : Verdict) × (all : List ℕ) × Reports word one two verdict all × IsFront printed all
PairPrints word one two (Err (First fault)) printed = IsFaulty scripts word one fault × (printed ≡ [])
PairPrints word one two (Err (Second fault)) printed = IsFit scripts word one × IsFaulty scripts word two fault × (printed ≡ [])
PairPrints word one two (Err (NoPair why)) printed =
    IsFit scripts word one × IsFit scripts word two × (printed ≡ [])
    × (learners : Learners) × AreThese scripts word one learners × Mismatches (among learners.tasks.items) one two (Some why)
