-- What is said of a word that names none.
use Rattle.std.proofs.Common.{◌≡◌, inl, inr, refl, sym, ap, ℕ, List, [], ◌∷◌, Some, Err}
use Rattle.hurd_dialogue.specs.Sorts.{Sort}
use Rattle.hurd_terminal.specs.Runs.{Program}
use Rattle.hurd_terminal.specs.declared.fault.Fault.{Fault}
use Rattle.hurd_terminal.specs.declared.fault.Fault.TheVariants.{Memory}
use Rattle.hurd_c.specs.Ends.{over, said_of}
use Rattle.hurd_c.specs.Texts.{CopiesOf, IsUnnamed, OfSome, sort_at}
use Rattle.hurd_c.specs.declared.said.Said.{Said}

-- no bytes in place of others leave these
over_none : (old : List ℕ) → old ≡ over [] old
over_none [] = refl
over_none (byte ∷ bytes) = refl

-- nothing is copied for a word that names none
copies_none : (who text old : List ℕ) (p : Program) (fault : Fault) → IsUnnamed who fault → CopiesOf who p text (said_of (Err fault) 0) old old
copies_none who text old p fault (inl (is, none)) = inr (none, (ap (λ (f : Fault). said_of (Err f) 0) is, refl))
copies_none who text old p fault (inr (is, named)) = inl (named, (Err Memory, [], refl, ap (λ (f : Fault). said_of (Err f) 0) is, over_none old))

-- and that is said, where there is a sort of a number
pub says_none : (who : List ℕ) (number : ℕ) (program : Sort → Program) (text old : List ℕ) (sort : Sort) (fault : Fault) (said : Said)
    → Some sort ≡ sort_at number → IsUnnamed who fault → said ≡ said_of (Err fault) 0 → OfSome who number program text said old old
says_none who number program text old sort fault said here why is = rw (is, sym here) (copies_none who text old (program sort) fault why)
