-- The lines of what is printed, gone over one after another.
use Rattle.std.proofs.Common.{◌≡◌, ◌∙◌, ℕ, ◌+◌, ◌==◌, ◌≤◌, List, [], ◌∷◌, ◌++◌, append-nil, append_assoc, arith, if◌then◌else◌, length, Bool, true, false}
use Rattle.hurd_dialogue.specs.Sorts.{Sort}
use Rattle.hurd_witnesses.specs.Witnesses.{ended, if_learned, witnessed}
use Rattle.hurd_witnesses.specs.declared.hunt.Hunt.{Hunt}

module _ (sort : Sort) (h : Hunt) (made : ℕ) (front all : List ℕ) where
  -- what was said so far, and what is still to be said of these lines
  abbrev pub read_on : List (List ℕ) → List ℕ
  read_on lines = front ++ witnessed sort h made lines

  pub said_none : read_on [] ≡ front
  unfolding witnessed
  said_none = append-nil front

  -- one line more
  pub said_more : (line : List ℕ) (lines : List (List ℕ)) → read_on (line ∷ lines) ≡ all → (now : List ℕ) → now ≡ front ++ (ended line ++ if_learned sort h made line)
      → (next : ℕ) → next ≡ (if length line == 0 then made + 1 else made) → now ++ witnessed sort h next lines ≡ all
  unfolding witnessed
  said_more line lines before now is next more = rw (is, more) (append_assoc front (ended line ++ if_learned sort h made line) (witnessed sort h (if length line == 0 then made + 1 else made) lines)) ∙ before

-- at most one command more
pub made_more : (i made next : ℕ) (b : Bool) → made ≤ i → next ≡ (if b then made + 1 else made) → next ≤ i + 1
made_more i made next true few is = omega (arith, is, few)
made_more i made next false few is = omega (arith, is, few)
