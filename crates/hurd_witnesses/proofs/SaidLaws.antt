-- Those lines of a text that say something, found one after another.
use Rattle.std.proofs.Common.{◌≡◌, ◌∙◌, true, false, List, ℕ, [], ◌∷◌, ◌++◌, append-nil, append_assoc}
use Rattle.hurd_words.specs.Lines.{is_skipped}
use Rattle.hurd_witnesses.specs.Witnesses.{said_of}

-- those found so far, and those among the lines that are left
abbrev pub read_on : List (List ℕ) → List (List ℕ) → List (List ℕ)
read_on front lines = front ++ said_of lines

pub said_none : (front : List (List ℕ)) → read_on front [] ≡ front
unfolding said_of
said_none front = append-nil front

module _ (front all : List (List ℕ)) (line : List ℕ) (lines : List (List ℕ)) (before : read_on front (line ∷ lines) ≡ all) (now : List (List ℕ)) where
  -- one more says something
  pub said_now : now ≡ front ++ line ∷ [] → is_skipped line ≡ false → read_on now lines ≡ all
  unfolding said_of
  said_now is says = rw is (append_assoc front (line ∷ []) (said_of lines)) ∙ (rw says at before)

  -- one more doesn't
  pub skipped_over : now ≡ front → is_skipped line ≡ true → read_on now lines ≡ all
  unfolding said_of
  skipped_over is says = rw is (rw says at before)
