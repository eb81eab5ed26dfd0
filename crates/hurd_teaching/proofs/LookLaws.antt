-- Reading where a text asks what is seen, and where lessons begin.
use Rattle.std.proofs.Common.{◌≡◌, ◌∙◌, refl, sym, ap, ℕ, suc, ◌+◌, arith, Bool, true, false, List, [], ◌∷◌, ◌++◌, append_assoc}
use Rattle.std.specs.Prelude.{if◌then◌else◌, Option, Some, None, option_map}
use Rattle.hurd_words.specs.Lines.{is_skipped}
use Rattle.hurd_teaching.specs.Looks.{asks_behind, asks_first, is_look, is_start, said_before}

-- what is still to be said of lines, where it was asked or not since the last that says something
abbrev pub asks_from : Bool → List (List ℕ) → List Bool
asks_from asked lines = (if asked then true else asks_first lines) ∷ asks_behind lines

-- a line asks
pub look_line : (asked : Bool) (line : List ℕ) (lines : List (List ℕ)) → is_look line ≡ true → asks_from asked (line ∷ lines) ≡ asks_from true lines
look_line true line lines is = rw is refl
look_line false line lines is = rw is refl

-- a line says nothing
pub skipped_line : (asked : Bool) (line : List ℕ) (lines : List (List ℕ)) → is_look line ≡ false → is_skipped line ≡ true → asks_from asked (line ∷ lines) ≡ asks_from asked lines
skipped_line asked line lines other is = rw (other, is) refl

-- a line says something
pub said_line : (asked : Bool) (line : List ℕ) (lines : List (List ℕ)) → is_look line ≡ false → is_skipped line ≡ false → asks_from asked (line ∷ lines) ≡ asked ∷ asks_from false lines
said_line true line lines other says = rw (other, says) refl
said_line false line lines other says = rw (other, says) refl

-- no line is left
pub no_line : (asked : Bool) → asks_from asked [] ≡ asked ∷ []
no_line true = refl
no_line false = refl

-- a line more is read, by what it is

module _ (front new : List Bool) (asked now : Bool) (line : List ℕ) (lines : List (List ℕ)) (all : List Bool) (before : front ++ asks_from asked (line ∷ lines) ≡ all) where
  pub look_read : new ≡ front → now ≡ true → is_look line ≡ true → new ++ asks_from now lines ≡ all
  look_read same asks is = rw (same, asks) (ap (λ (bs : List Bool). front ++ bs) (sym (look_line asked line lines is)) ∙ before)

  pub skipped_read : new ≡ front → now ≡ asked → is_look line ≡ false → is_skipped line ≡ true → new ++ asks_from now lines ≡ all
  skipped_read same asks other is = rw (same, asks) (ap (λ (bs : List Bool). front ++ bs) (sym (skipped_line asked line lines other is)) ∙ before)

  pub said_read : new ≡ front ++ asked ∷ [] → now ≡ false → is_look line ≡ false → is_skipped line ≡ false → new ++ asks_from now lines ≡ all
  said_read more asks other says =
      rw (more, asks) (append_assoc front (asked ∷ []) (asks_from false lines) ∙ (ap (λ (bs : List Bool). front ++ bs) (sym (said_line asked line lines other says)) ∙ before))

-- how many lines say something before lessons begin, where so many were read already
abbrev pub said_from : ℕ → List (List ℕ) → Option ℕ
said_from n lines = option_map (λ k. n + k) (said_before lines)

-- a line more is read, by what it is

module _ (n : ℕ) (line : List ℕ) (lines : List (List ℕ)) (all : Option ℕ) (before : said_from n (line ∷ lines) ≡ all) where
  pub start_reached : is_start line ≡ true → Some n ≡ all
  start_reached is = ap Some (omega arith) ∙ rw is at before

  pub skipped_over : (now : ℕ) → now ≡ n → is_start line ≡ false → is_skipped line ≡ true → said_from now lines ≡ all
  skipped_over now same other is = rw same (rw (other, is) at before)

  pub said_counted : (now : ℕ) → now ≡ n + 1 → is_start line ≡ false → is_skipped line ≡ false → said_from now lines ≡ all
  said_counted now more other says = rw more (sym (go (said_before lines)) ∙ rw (other, says) at before)
    where
      go : (o : Option ℕ) → option_map (λ k. n + k) (option_map suc o) ≡ option_map (λ k. (n + 1) + k) o
      go None = refl
      go (Some k) = ap Some (omega arith)
