-- The moments at which some tasks do something.
use Rattle.std.proofs.Common.{◌≡◌, ◌∙◌, ◌<◌, ◌+◌, refl, sym, ap, arith, ℕ, Bool, true, false, List, [], ◌∷◌, length, Option, Some, None}
use Rattle.std.specs.Prelude.{is_some}
use Rattle.hurd_machine.specs.World.{World}
use Rattle.hurd_words.specs.declared.answers.Answer.{Answer}
use Rattle.hurd_dialogue.specs.Parts.{Goes, Part, Way, next_task}
use Rattle.hurd_pairs.specs.Moments.{Moment, moments, moments_left}
use Rattle.hurd_pairs.specs.Steps.{IsAtOwn}

some_is : (m n : ℕ) → Some m ≡ Some n → m ≡ n
some_is m n e = cc

module _ (S : ℕ → Bool) where
  -- at the end nothing is answered
  pub moments_end : (made : ℕ) (w : World) → moments S made w [] ≡ record { made = made; world = w; answer = None } ∷ []
  unfolding moments
  moments_end made w = refl

  -- a part of theirs is next, or another's
  pub moments_own : (made : ℕ) (w : World) (p : Part) (ps : List Part) → S p.task ≡ true
      → moments S made w (p ∷ ps) ≡ record { made = made; world = w; answer = Some p.answer } ∷ moments S (made + 1) p.world ps
  unfolding moments
  moments_own made w p ps own = rw own refl

  pub moments_other : (made : ℕ) (w : World) (p : Part) (ps : List Part) → S p.task ≡ false → moments S made w (p ∷ ps) ≡ moments S (made + 1) p.world ps
  unfolding moments
  moments_other made w p ps other = rw other refl

  -- another's part was told: no moment of theirs passed, and a part less is left
  pub passed : (old new : Way) (t : ℕ) (o : Option Answer) → next_task old.left ≡ Some t → S t ≡ false → Goes old o new
      → (moments_left S new ≡ moments_left S old) × (length new.left < length old.left)
  passed old new t None next other (none, same) = absurd (let no = sym (ap next_task none) ∙ next in cc)
  passed old new t (Some answer) next other (task, is, told) =
      let of_other : S task ≡ false = ap S (some_is task t (sym (ap next_task is) ∙ next)) ∙ other in
      let here = moments_other old.told old.world (record { task = task; answer = answer; world = new.world }) new.left of_other in
      let more = ap length is in (
        ap (λ (n : ℕ). moments S n new.world new.left) told ∙ (sym here ∙ sym (ap (moments S old.told old.world) is)),
        omega (arith, more),
      )

  -- the next part is theirs
  pub at_own : (left : List Part) (t : ℕ) → next_task left ≡ Some t → S t ≡ true → IsAtOwn S true left
  at_own [] t next own = absurd (cc)
  at_own (p ∷ rest) t next own = (p, rest, refl, ap S (some_is p.task t next) ∙ own)

  -- what they do next was told: one moment passed, and what is left are those after it
  pub record PassesOne (old new : Way) (o : Option Answer) : Type 0 where
    pub rest : List Moment
    pub is : moments_left S old ≡ record { made = old.told; world = old.world; answer = o } ∷ rest
    pub more : is_some o ≡ true → rest ≡ moments_left S new
    pub none : is_some o ≡ false → rest ≡ []

  pub passes_one : (old new : Way) (there : Bool) (o : Option Answer) → IsAtOwn S there old.left → Goes old o new → PassesOne old new o
  passes_one old new there None at (none, same) = record {
    rest = [];
    is = ap (moments S old.told old.world) none ∙ moments_end old.told old.world;
    more = λ no. absurd (cc);
    none = λ _. refl;
  }
  passes_one old new false (Some answer) at (task, is, told) = absurd (let no = sym at ∙ is in cc)
  passes_one old new true (Some answer) (p, rest, left, own) (task, is, told) =
      let ours : S task ≡ true = ap S (some_is task p.task (sym (ap next_task is) ∙ ap next_task left)) ∙ own in
      record {
        rest = moments S (old.told + 1) new.world new.left;
        is = ap (moments S old.told old.world) is ∙ moments_own old.told old.world (record { task = task; answer = answer; world = new.world }) new.left ours;
        more = λ _. ap (λ (n : ℕ). moments S n new.world new.left) (sym told);
        none = λ no. absurd (cc);
      }
