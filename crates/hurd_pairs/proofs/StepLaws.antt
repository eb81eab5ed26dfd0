-- What was compared so far of two texts.
use Rattle.std.proofs.Common.{◌≡◌, ◌∙◌, ◌⊎◌, ◌<◌, inl, inr, refl, sym, ap, arith, ℕ, Bool, true, false, List, length}
use Rattle.std.specs.Prelude.{◌&&◌, Option, is_some}
use Rattle.hurd_creds.specs.declared.name.TaskId.{TaskId}
use Rattle.hurd_sight.specs.Reach.{among}
use Rattle.hurd_words.specs.declared.answers.Answer.{Answer}
use Rattle.hurd_dialogue.specs.Parts.{Way}
use Rattle.hurd_pairs.specs.Differences.{Compares, SaysSeen, SaysTold, SeeAlike, SeeOther}
use Rattle.hurd_pairs.specs.Moments.{Moment, TellOther, TellSame, moments_left}
use Rattle.hurd_pairs.specs.Steps.{HearsAt, Looks, StepsTo}
use Rattle.hurd_pairs.specs.declared.difference.Compared.{Compared}
use Rattle.hurd_pairs.specs.declared.difference.Difference.{Difference}
use Rattle.hurd_pairs.proofs.OwnLaws.{PassesOne}
use Rattle.hurd_pairs.proofs.FirstLaws.{SoFar, so_far_done, so_far_found, so_far_more}

-- what these tasks see and are told in common, and what not
abbrev pub See : List TaskId → Moment → Moment → Type 0
See tasks m n = SeeAlike tasks m.world n.world

abbrev pub SeeNot : List TaskId → Moment → Moment → Type 0
SeeNot tasks m n = SeeOther tasks m.world n.world

-- of two lists of moments those in front of these were compared
pub record Comparing (tasks : List TaskId) (sees : List ℕ) (ms ns xs ys : List Moment) (c : Compared) : Type 0 where
  pub seen : SoFar (See tasks) (SeeNot tasks) (SaysSeen tasks sees) ms ns xs ys c.seen
  pub told : SoFar TellSame TellOther SaysTold ms ns xs ys c.told

module _ (tasks : List TaskId) (sees : List ℕ) (ms ns : List Moment) (one two : Way) (old : Compared) (more : Bool) (one_then two_then : Way) (new : Compared)
    (is : Comparing tasks sees ms ns (moments_left (among tasks) one) (moments_left (among tasks) two) old) (step : StepsTo tasks sees one two old more one_then two_then new) where
  -- the next moments were compared
  stepped : Comparing tasks sees ms ns step.ms step.ns new
  stepped = record {
    seen = so_far_more (See tasks) (SeeNot tasks) (SaysSeen tasks sees) ms ns step.m step.n step.ms step.ns old.seen new.seen (rw (step.ones, step.twos) at is.seen) step.looks;
    told = so_far_more TellSame TellOther SaysTold ms ns step.m step.n step.ms step.ns old.told new.told (rw (step.ones, step.twos) at is.told) step.hears;
  }

  -- and there are more, which are fewer
  pub comparing_more : more ≡ true → Comparing tasks sees ms ns (moments_left (among tasks) one_then) (moments_left (among tasks) two_then) new
  comparing_more goes = let left = step.goes goes in rw (left.0, left.1) at stepped

  pub fewer_left : more ≡ true → length (moments_left (among tasks) one_then) < length (moments_left (among tasks) one)
  fewer_left goes =
      let left = ap length (step.goes goes).0 in
      let was = ap length step.ones in
      omega (arith, left, was)

  -- or none are left, or both differences were found
  pub comparing_done : more ≡ false → Compares (SeeAlike tasks) (SeeOther tasks) tasks sees ms ns new
  comparing_done ends =
      let none = step.ends ends in
      record {
        seen = so_far_done (See tasks) (SeeNot tasks) (SaysSeen tasks sees) ms ns step.ms step.ns new.seen stepped.seen none;
        told = so_far_done TellSame TellOther SaysTold ms ns step.ms step.ns new.told stepped.told none;
      }

  pub comparing_found : is_some new.seen ≡ true → is_some new.told ≡ true → Compares (SeeAlike tasks) (SeeOther tasks) tasks sees ms ns new
  comparing_found seen told = record {
    seen = so_far_found (See tasks) (SeeNot tasks) (SaysSeen tasks sees) ms ns step.ms step.ns new.seen stepped.seen seen;
    told = so_far_found TellSame TellOther SaysTold ms ns step.ms step.ns new.told stepped.told told;
  }

-- two tests in one

both_hold : (a b : Bool) → (a && b) ≡ true → (a ≡ true) × (b ≡ true)
both_hold true true is = (refl, refl)
both_hold true false is = absurd (cc)
both_hold false b is = absurd (cc)

one_fails : (a b : Bool) → (a && b) ≡ false → (a ≡ false) ⊎ (b ≡ false)
one_fails true true is = absurd (cc)
one_fails true false is = inr refl
one_fails false b is = inl refl

-- what some do next in each text was told, and compared
pub step_to : (tasks : List TaskId) (sees : List ℕ) (one two one_mid two_mid one_then two_then : Way) (old : Compared) (part other : Option Answer) (seen told : Option Difference) (more : Bool)
    → moments_left (among tasks) one_mid ≡ moments_left (among tasks) one → moments_left (among tasks) two_mid ≡ moments_left (among tasks) two
    → PassesOne (among tasks) one_mid one_then part → PassesOne (among tasks) two_mid two_then other
    → ((s t : Option Answer) → Looks tasks sees (record { made = one_mid.told; world = one_mid.world; answer = s }) (record { made = two_mid.told; world = two_mid.world; answer = t }) old.seen seen)
    → HearsAt one_mid.told two_mid.told part other old.told told → more ≡ (is_some part && is_some other)
    → StepsTo tasks sees one two old more one_then two_then (record { seen = seen; told = told })
step_to tasks sees one two one_mid two_mid one_then two_then old part other seen told more first second passes passed looks hears both = record {
  m = record { made = one_mid.told; world = one_mid.world; answer = part };
  n = record { made = two_mid.told; world = two_mid.world; answer = other };
  ms = passes.rest;
  ns = passed.rest;
  ones = sym first ∙ passes.is;
  twos = sym second ∙ passed.is;
  looks = looks part other;
  hears = hears one_mid.world two_mid.world;
  goes = λ is.
      let some = both_hold (is_some part) (is_some other) (sym both ∙ is) in
      (passes.more some.0, passed.more some.1);
  ends = λ is. elim (one_fails (is_some part) (is_some other) (sym both ∙ is)) [ inl none ↦ inl (passes.none none) | inr none ↦ inr (passed.none none) ];
}
