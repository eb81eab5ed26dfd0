-- Entries of the same names in the same order.
use Rattle.std.proofs.Common.{◌≡◌, ◌∙◌, refl, sym, ap, ℕ, suc, ◌+◌, ◌<◌, ◌≤◌, List, [], ◌∷◌, drop, length, Bool, true, false, if◌then◌else◌}
use Rattle.std.specs.Prelude.{bytes_eq, get_or}
use Rattle.std.proofs.lemmas.List.{drop_all, drop_more}
use Rattle.hurd_views.specs.declared.rows.EntryRow.{EntryRow}
use Rattle.hurd_lessons.specs.Changes.{same_names}

-- lists of other lengths don't have them
pub other_lengths : (es fs : List EntryRow) → (length es ≡ length fs → ⊥) → false ≡ same_names es fs
other_lengths [] [] other = absurd (other refl)
other_lengths [] (f ∷ fs) other = refl
other_lengths (e ∷ es) [] other = refl
other_lengths (e ∷ es) (f ∷ fs) other = go (bytes_eq e.name f.name) (other_lengths es fs (λ is. other (ap suc is)))
  where
    go : (t : Bool) → false ≡ same_names es fs → false ≡ (if t then same_names es fs else false)
    go true later = later
    go false later = refl

-- the entry at a place, and those after it
from_here : (es : List EntryRow) (i : ℕ) (e : EntryRow) → i < length es → e ≡ get_or es i e → drop i es ≡ e ∷ drop (i + 1) es
from_here es i e within is = drop_more es i e within ∙ ap (λ (x : EntryRow). x ∷ drop (i + 1) es) (sym is)

-- those from a place on have them if the two there do, and those after them
pub names_at : (es fs : List EntryRow) (i : ℕ) (e f : EntryRow) (t : Bool) → i < length es → i < length fs → e ≡ get_or es i e → f ≡ get_or fs i f → bytes_eq e.name f.name ≡ t
    → same_names (drop i es) (drop i fs) ≡ (if t then same_names (drop (i + 1) es) (drop (i + 1) fs) else false)
names_at es fs i e f t within inside at there is =
    (λ j. same_names (from_here es i e within at j) (from_here fs i f inside there j))
    ∙ ap (λ (u : Bool). if u then same_names (drop (i + 1) es) (drop (i + 1) fs) else false) is

-- after the last, nothing is left
pub names_end : (es fs : List EntryRow) (i : ℕ) → length es ≤ i → length fs ≤ i → same_names (drop i es) (drop i fs) ≡ true
names_end es fs i past beyond = λ j. same_names (drop_all i es past j) (drop_all i fs beyond j)
