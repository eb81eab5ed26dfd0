-- What a witness is worth.
use Rattle.std.proofs.Common.{◌≡◌, ◌≢◌, ◌∙◌, ◌⊎◌, inl, inr, ℕ, List, [], ◌∷◌, ◌++◌, Bool, true, false, true≢false, Option, Some, None, bytes_eq, if◌then◌else◌, refl, sym, ap, subst}
use Rattle.std.proofs.lemmas.Slice.Eq.{bytes_eq-Decides}
use Rattle.std.specs.Option.{option_or}
use Rattle.hurd_dialogue.specs.Sorts.{Sort}
use Rattle.hurd_words.specs.Marks.{marked}
use Rattle.hurd_words.specs.declared.answers.Answer.{Answer}
use Rattle.hurd_witnesses.specs.Answers.{answer_of}
use Rattle.hurd_witnesses.specs.Laws.{Tells, WitnessTells}
use Rattle.hurd_witnesses.specs.Witnesses.{ended, told_apart, tried, witness_of}
use Rattle.hurd_witnesses.specs.declared.witness.Witness.{Witness}

-- two answers that are told apart are those of the witness, and not the same
record Apart (trial : List ℕ) (o p : Option Answer) (w : Witness) : Type 0 where
  first : o ≡ Some w.before
  second : p ≡ Some w.after
  other : w.before ≢ w.after
  line : w.trial ≡ trial

found_other : (trial : List ℕ) (s t : Answer) (w : Witness) → bytes_eq (marked s) (marked t) ≡ false → Some (record { trial = trial; before = s; after = t }) ≡ Some w → Apart trial (Some s) (Some t) w
found_other trial s t w differ found =
    let is : record { trial = trial; before = s; after = t } ≡ w = cc found in
    subst (Apart trial (Some s) (Some t)) is (record { first = refl; second = refl; other = λ e. true≢false (sym ((bytes_eq-Decides (marked s) (marked t)).1 (ap marked e)) ∙ differ); line = refl })

by_test : (trial : List ℕ) (s t : Answer) (w : Witness) (b : Bool) → bytes_eq (marked s) (marked t) ≡ b
    → (let o : Option Witness = if b then None else Some (record { trial = trial; before = s; after = t }) in o) ≡ Some w → Apart trial (Some s) (Some t) w
by_test trial s t w true is found = absurd (cc found)
by_test trial s t w false is found = found_other trial s t w is found

apart : (trial : List ℕ) (o p : Option Answer) (w : Witness) → told_apart trial o p ≡ Some w → Apart trial o p w
apart trial (Some s) (Some t) w found = by_test trial s t w (bytes_eq (marked s) (marked t)) refl found
apart trial (Some s) None w found = absurd (cc found)
apart trial None p w found = absurd (cc found)

module _ (sort : Sort) (before behind : List ℕ) where
  tells : (trial : List ℕ) (w : Witness) → tried sort before behind trial ≡ Some w → Tells sort before behind w
  tells trial w found =
      let a = apart trial (answer_of sort (before ++ ended trial)) (answer_of sort (behind ++ ended trial)) w found in
      record { first = rw a.line a.first; second = rw a.line a.second; other = a.other }

  -- the first that is one is one of them
  first_or_later : (o p : Option Witness) (w : Witness) → option_or o p ≡ Some w → (o ≡ Some w) ⊎ (p ≡ Some w)
  first_or_later (Some v) p w found = inl found
  first_or_later None p w found = inr found

  pub witness_tells : (trials : List (List ℕ)) (w : Witness) → witness_of sort before behind trials ≡ Some w → Tells sort before behind w
  witness_tells [] w found = absurd (cc found)
  witness_tells (trial ∷ trials) w found = elim (first_or_later (tried sort before behind trial) (witness_of sort before behind trials) w found) [
    | inl here ↦ tells trial w here
    | inr later ↦ witness_tells trials w later
  ]

pub all_tell : WitnessTells
all_tell sort before behind trials w found = witness_tells sort before behind trials w found
