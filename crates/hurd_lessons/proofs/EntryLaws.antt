-- Entries before and after, one after another.
use Rattle.std.proofs.Common.{◌≡◌, ◌∙◌, sym, ap, ℕ, ◌+◌, List, drop, drop-drop, if◌then◌else◌}
use Rattle.std.specs.Prelude.{Bool, true}
use Rattle.hurd_views.specs.declared.rows.EntryRow.{EntryRow}
use Rattle.hurd_lessons.specs.Differences.{comes_next, passed}

-- the next one is passed
pub one_passed : (by_name : Bool) (e : EntryRow) (new : List EntryRow) (k : ℕ) (t : Bool) → t ≡ true → t ≡ comes_next by_name e (drop k new) → drop (k + 1) new ≡ passed by_name e (drop k new)
one_passed by_name e new k t holds is = sym (drop-drop 1 k new) ∙ ap (λ (b : Bool). if b then drop 1 (drop k new) else drop k new) (sym holds ∙ is)
