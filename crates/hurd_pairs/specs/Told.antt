-- Whoever gets a different reply saw something different before.
use Rattle.std.specs.Prelude.{◌≡◌, ◌≤◌, ℕ, List, Some}
use Rattle.hurd_pairs.specs.Reports.{Reports}
use Rattle.hurd_pairs.specs.declared.difference.Difference.{Difference}
use Rattle.hurd_pairs.specs.declared.difference.Verdict.{Verdict}

-- if a report on two scripts names a different reply, it names a different view at that place or before it
abbrev pub ToldBySeen : Type 0
ToldBySeen =
    (word one two : List ℕ) (verdict : Verdict) (text : List ℕ) (report : Reports word one two verdict text) (told : Difference) → report.compared.told ≡ Some told
    → (seen : Difference) × (report.compared.seen ≡ Some seen) × (seen.one ≤ told.one) × (seen.two ≤ told.two)

-- of two scripts one report is printed, and with one verdict
abbrev pub ReportIsOne : Type 0
ReportIsOne = (word one two : List ℕ) (v w : Verdict) (s t : List ℕ) → Reports word one two v s → Reports word one two w t → (v ≡ w) × (s ≡ t)
