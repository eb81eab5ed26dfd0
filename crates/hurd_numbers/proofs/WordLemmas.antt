-- Borrowed words, and words that are printed one after another.
use Rattle.std.proofs.Common.{◌≡◌, ◌∙◌, ◌≤◌, ◌<◌, ◌+◌, ◌-◌, ◌==◌, ℕ, Bool, false, List, [], ◌∷◌, ◌++◌, Some, None, ap, append-nil, append_assoc, arith, drop, get_or, length, map, refl, sym, take}
use Rattle.std.specs.Borrow.{Bor}
use Rattle.std.specs.List.{slice_split}
use Rattle.std.specs.Prelude.{Option}
use Rattle.std.proofs.lemmas.Bool.{le-leb}
use Rattle.std.proofs.lemmas.List.{at_drop_all, at_drop_more, drop-map, length-drop, length-map, take-map, take_all}
use Rattle.hurd_words.specs.Reading.{said}
use Rattle.hurd_numbers.specs.Words.{after_first, first_of, is_some_text, words_in, zero_ended}

-- the first of borrowed words
pub first_said : (n : ℕ) (ws : List (Bor (List ℕ))) → n ≤ length ws → first_of n (said ws) ≡ Some (said (take n ws))
first_said n ws le = rw (length-map ws (λ (w : Bor (List ℕ)). w.now), le-leb n (length ws) le) (ap (λ (l : List (List ℕ)). Some l) (take-map (λ (w : Bor (List ℕ)). w.now) n ws))

-- and those after them
pub rest_said : (n : ℕ) (ws : List (Bor (List ℕ))) → n ≤ length ws → after_first n (said ws) ≡ Some (said (take (length ws - n) (drop n ws)))
rest_said n ws le =
    rw (length-map ws (λ (w : Bor (List ℕ)). w.now), le-leb n (length ws) le, take_all (length ws - n) (drop n ws) (rw (length-drop n ws) (omega arith)))
    (ap (λ (l : List (List ℕ)). Some l) (drop-map (λ (w : Bor (List ℕ)). w.now) n ws))

-- the pieces between zero bytes, of which the last has no bytes
pub words_said : (n : ℕ) (ws : List (Bor (List ℕ))) (bytes : List ℕ) → n ≡ length ws → said ws ≡ slice_split (λ (b : ℕ). b == 0) bytes → is_some_text (said ws) (n - 1) ≡ false
    → words_in bytes ≡ Some (said (take (n - 1) ws))
words_said n ws bytes count is none =
    let last : is_some_text (said ws) (length ws - 1) ≡ false = rw count at none in
    rw (count, ← is, length-map ws (λ (w : Bor (List ℕ)). w.now), last) (ap (λ (l : List (List ℕ)). Some l) (take-map (λ (w : Bor (List ℕ)). w.now) (length ws - 1) ws))

-- the next word was printed
pub word_next : (start old new : List ℕ) (words : List (List ℕ)) (i : ℕ) (d : List ℕ) → i < length words → new ≡ (old ++ get_or words i d) ++ 0 ∷ []
    → old ++ zero_ended (drop i words) ≡ start → new ++ zero_ended (drop (i + 1) words) ≡ start
word_next start old new words i d lt is was =
    ap (λ (l : List ℕ). l ++ zero_ended (drop (i + 1) words)) is
    ∙ (ap (λ (l : List ℕ). l ++ zero_ended (drop (i + 1) words)) (append_assoc old (get_or words i d) (0 ∷ []))
    ∙ (append_assoc old (get_or words i d ++ 0 ∷ []) (zero_ended (drop (i + 1) words))
    ∙ (ap (λ (l : List ℕ). old ++ l) (sym (at_drop_more zero_ended words i d lt)) ∙ was)))

pub words_ended : (old start : List ℕ) (words : List (List ℕ)) (i : ℕ) → length words ≤ i → old ++ zero_ended (drop i words) ≡ start → old ≡ start
words_ended old start words i le was = sym (append-nil old) ∙ (ap (λ (l : List ℕ). old ++ l) (sym (at_drop_all zero_ended words i le)) ∙ was)
