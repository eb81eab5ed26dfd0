-- The tasks of lines, as they are printed.
use Rattle.std.proofs.Common.{Bor, Bool, true, false, is_none, ◌&&◌, ◌≡◌, ◌<◌, ◌≤◌, ◌+◌, ◌++◌, ◌∷◌, [], ℕ, List, Option, Some, None, refl, sym, ◌∙◌, ap, append_assoc, append-nil, codes, drop, length}
use Rattle.std.proofs.Math.Bool.{and-false, and-true}
use Rattle.hurd_words.specs.Lines.{is_skipped}
use Rattle.hurd_words.specs.Reading.{said}
use Rattle.hurd_words.specs.Users.{begins_with}
use Rattle.hurd_words.proofs.Loops.{last_piece, next_piece, piece_at}
use Rattle.hurd_vectors.specs.Lines.{ids_by, ids_of, ids_on, ids_text, line_words, tasks_text}

next_line : (first : Bool) (line : List ℕ) (lines : List (List ℕ)) (o : Option (List ℕ)) → ids_on line ≡ o → tasks_text first (line ∷ lines) ≡ ids_text first o ++ tasks_text (first && is_none o) lines
unfolding tasks_text
next_line first line lines o is = ap (λ (p : Option (List ℕ)). ids_text first p ++ tasks_text (first && is_none p) lines) is

no_line : (first : Bool) → tasks_text first [] ≡ []
unfolding tasks_text
no_line first = refl

-- a line that is no task's
no_task : (text : List ℕ) (first : Bool) (line : List ℕ) (lines : List (List ℕ)) → ids_on line ≡ None → text ++ tasks_text first lines ≡ text ++ tasks_text first (line ∷ lines)
no_task text first line lines is = ap (λ (t : List ℕ). text ++ t) (sym (next_line first line lines None is ∙ rw (and-true first) refl))

pub skipped : (text : List ℕ) (first : Bool) (line : List ℕ) (lines : List (List ℕ)) → is_skipped line ≡ true → text ++ tasks_text first lines ≡ text ++ tasks_text first (line ∷ lines)
skipped text first line lines is = no_task text first line lines (rw is refl)

other_line : (line : List ℕ) → is_skipped line ≡ false → ids_on line ≡ ids_by (line_words line)
other_line line there = rw there refl

pub other : (text : List ℕ) (first : Bool) (line : List ℕ) (lines words : List (List ℕ)) → is_skipped line ≡ false → words ≡ line_words line → begins_with (codes "task") words ≡ false
    → text ++ tasks_text first lines ≡ text ++ tasks_text first (line ∷ lines)
other text first line lines words there are none =
    let by : ids_by words ≡ None = rw none refl in
    no_task text first line lines (other_line line there ∙ (ap ids_by (sym are) ∙ by))

-- a task's
pub task_told : (text new : List ℕ) (first : Bool) (line : List ℕ) (lines words : List (List ℕ)) → is_skipped line ≡ false → words ≡ line_words line → begins_with (codes "task") words ≡ true
    → new ≡ text ++ ids_text first (Some (ids_of words)) → new ++ tasks_text false lines ≡ text ++ tasks_text first (line ∷ lines)
task_told text new first line lines words there are begun e =
    let by : ids_by words ≡ Some (ids_of words) = rw begun refl in
    let on : ids_on line ≡ Some (ids_of words) = other_line line there ∙ (ap ids_by (sym are) ∙ by) in
    ap (λ (t : List ℕ). t ++ tasks_text false lines) e
    ∙ (append_assoc text (ids_text first (Some (ids_of words))) (tasks_text false lines)
    ∙ ap (λ (t : List ℕ). text ++ t) (sym (next_line first line lines (Some (ids_of words)) on ∙ rw (and-false first) refl)))

-- the next line was gone over, or none is left
pub line_next : (whole now new : List ℕ) (first none : Bool) (items : List (Bor (List ℕ))) (i : ℕ) → i < length items
    → new ++ tasks_text none (drop (i + 1) (said items)) ≡ now ++ tasks_text first (piece_at items i ∷ drop (i + 1) (said items))
    → now ++ tasks_text first (drop i (said items)) ≡ whole → new ++ tasks_text none (drop (i + 1) (said items)) ≡ whole
line_next whole now new first none items i h step so = step ∙ (ap (λ (t : List ℕ). now ++ t) (sym (next_piece (tasks_text first) items i h)) ∙ so)

pub lines_ended : (now : List ℕ) (first : Bool) (items : List (Bor (List ℕ))) (i : ℕ) → length items ≤ i → now ++ tasks_text first (drop i (said items)) ≡ now
lines_ended now first items i h = ap (λ (t : List ℕ). now ++ t) (last_piece (tasks_text first) items i h ∙ no_line first) ∙ append-nil now
