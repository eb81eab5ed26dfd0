-- What a witness is worth.
use Rattle.std.specs.Prelude.{◌≡◌, ◌≢◌, ◌++◌, ℕ, List, Some}
use Rattle.hurd_dialogue.specs.Sorts.{Sort}
use Rattle.hurd_witnesses.specs.Answers.{answer_of}
use Rattle.hurd_witnesses.specs.Witnesses.{ended, witness_of}
use Rattle.hurd_witnesses.specs.declared.witness.Witness.{Witness}

-- as the last line of either text it is answered so, and these answers are not the same
pub record Tells (sort : Sort) (before behind : List ℕ) (w : Witness) : Type 0 where
  pub first : answer_of sort (before ++ ended w.trial) ≡ Some w.before
  pub second : answer_of sort (behind ++ ended w.trial) ≡ Some w.after
  pub other : w.before ≢ w.after

abbrev pub WitnessTells : Type 0
WitnessTells = (sort : Sort) (before behind : List ℕ) (trials : List (List ℕ)) (w : Witness) → witness_of sort before behind trials ≡ Some w → Tells sort before behind w
