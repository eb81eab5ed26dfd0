-- A text with marks, one byte after another.
use Rattle.std.proofs.Common.{◌≡◌, ◌<◌, ◌≤◌, ◌+◌, ◌++◌, ◌∷◌, [], ℕ, List, refl, sym, ◌∙◌, ap, append_assoc, drop, get_or, length, Bool, if◌then◌else◌, ◌==◌, codes}
use Rattle.std.proofs.lemmas.List.{at_drop_all, at_drop_more}
use Rattle.hurd_words.specs.Marks.{marked_from, unended}

-- what comes before a byte, where a line may begin
abbrev pub mark : Bool → List ℕ
mark due = if due then codes "| " else []

pub mark_more : (due : Bool) (b : ℕ) (bs : List ℕ) → marked_from due (b ∷ bs) ≡ mark due ++ b ∷ marked_from (b == 10) bs
unfolding marked_from
mark_more due b bs = refl

pub mark_none : (due : Bool) → marked_from due [] ≡ (if due then [] else unended)
unfolding marked_from
mark_none due = refl

-- the next byte was printed
pub mark_next : (due : Bool) (front new part : List ℕ) (i : ℕ) → i < length part → new ≡ front ++ (mark due ++ get_or part i 0 ∷ [])
    → new ++ marked_from (get_or part i 0 == 10) (drop (i + 1) part) ≡ front ++ marked_from due (drop i part)
mark_next due front new part i h e =
    let b : ℕ = get_or part i 0 in
    let rest : List ℕ = marked_from (b == 10) (drop (i + 1) part) in
    ap (λ (n : List ℕ). n ++ rest) e
    ∙ (append_assoc front (mark due ++ b ∷ []) rest
    ∙ ap (λ (t : List ℕ). front ++ t) (append_assoc (mark due) (b ∷ []) rest ∙ sym (at_drop_more (marked_from due) part i 0 h ∙ mark_more due b (drop (i + 1) part))))

pub mark_ended : (due : Bool) (front part : List ℕ) (i : ℕ) → length part ≤ i → front ++ marked_from due (drop i part) ≡ front ++ (if due then [] else unended)
mark_ended due front part i h = ap (λ (t : List ℕ). front ++ t) (at_drop_all (marked_from due) part i h ∙ mark_none due)
