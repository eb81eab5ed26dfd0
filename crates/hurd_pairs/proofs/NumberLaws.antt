-- The numbers of lines that say something, read one after another.
use Rattle.std.proofs.Common.{◌≡◌, ◌∙◌, ◌+◌, refl, sym, ap, ℕ, true, false, List, [], ◌∷◌, ◌++◌, append_assoc, append-nil}
use Rattle.hurd_words.specs.Lines.{is_skipped}
use Rattle.hurd_pairs.specs.Lines.{numbers_from}

numbers_skipped : (n : ℕ) (line : List ℕ) (lines : List (List ℕ)) → is_skipped line ≡ true → numbers_from n (line ∷ lines) ≡ numbers_from (n + 1) lines
unfolding numbers_from
numbers_skipped n line lines is = rw is refl

numbers_said : (n : ℕ) (line : List ℕ) (lines : List (List ℕ)) → is_skipped line ≡ false → numbers_from n (line ∷ lines) ≡ n ∷ numbers_from (n + 1) lines
unfolding numbers_from
numbers_said n line lines is = rw is refl

-- what was read, and the numbers of lines that are left
abbrev pub read_on : List ℕ → ℕ → List (List ℕ) → List ℕ
read_on front n lines = front ++ numbers_from n lines

pub numbers_none : (front : List ℕ) (n : ℕ) → front ++ numbers_from n [] ≡ front
unfolding numbers_from
numbers_none front n = append-nil front

module _ (front all : List ℕ) (n : ℕ) (line : List ℕ) (lines : List (List ℕ)) (before : front ++ numbers_from n (line ∷ lines) ≡ all) where
  -- a line that says nothing is read
  pub skipped_over : (new : List ℕ) → new ≡ front → is_skipped line ≡ true → new ++ numbers_from (n + 1) lines ≡ all
  skipped_over new same is = rw same (ap (λ (ns : List ℕ). front ++ ns) (sym (numbers_skipped n line lines is)) ∙ before)

  -- or one that says something
  pub said_now : (new : List ℕ) → new ≡ front ++ n ∷ [] → is_skipped line ≡ false → new ++ numbers_from (n + 1) lines ≡ all
  said_now new more is =
      rw more (append_assoc front (n ∷ []) (numbers_from (n + 1) lines) ∙ (ap (λ (ns : List ℕ). front ++ ns) (sym (numbers_said n line lines is)) ∙ before))
