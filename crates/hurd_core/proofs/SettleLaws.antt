-- A step of one half of the world, as the nodes or the ports, is what the machine's changes make of the world; where it settles, with one change more.
use Rattle.std.proofs.Common.{◌≡◌, ◌∙◌, inl, inr, Bool, true, false, cond, List, [], ◌∷◌, ◌++◌, refl, sym, ap, true≢false}
use Rattle.std.specs.Prelude.{Result, Ok, Err}
use Rattle.hurd_machine.proofs.Common.{Change, Errno, Reply, Settle, Steps, World, answered, apply_all, is_no_memory, told}
use Rattle.hurd_machine.specs.Change.{settle}
use Rattle.hurd_machine.specs.Plan.{Follows}
use Rattle.hurd_machine.proofs.Keeping.{apply_all-append}
use Rattle.hurd_core.specs.Core.{Does}

-- the world settled, unless what came before was refused
abbrev pub settled_if : {T : Type 0} → Result T Errno → World → World
settled_if (Ok u) y = settle y
settled_if (Err e) y = y

-- what has done its changes, and settles, has done these and the settling
pub does_settled : {A T : Type 0} (w : World) (asks : Result A Errno) (changes : A → List Change) (answer : A → T) (r : Result T Errno) (y : World) → Does w asks changes answer r y
    → (z : World) → z ≡ settled_if r y → Does w asks (λ a. changes a ++ Settle ∷ []) answer r z
does_settled w asks changes answer (Ok x) y d z left = (d.0, d.1, d.2, left ∙ ap settle d.3 ∙ sym (apply_all-append (changes d.0) (Settle ∷ []) w))
does_settled w asks changes answer (Err e) y d z left = (left ∙ d.0, d.1)

module _ {A T S : Type 0} (whole : S → World) (H : S) (changes : A → List Change) (answer : A → T) where
  -- a step that refuses what is refused, and answers and changes what is asked
  abbrev pub Alike : Result A Errno → Result T Errno × S → Type 0
  Alike (Ok a) step = (step.0 ≡ Ok (answer a)) × (whole step.1 ≡ apply_all (changes a) (whole H))
  Alike (Err e) step = (step.0 ≡ Err e) × (step.1 ≡ H)

  either : (b : Bool) → cond b H H ≡ H
  either true = refl
  either false = refl

  pub alike-does : (asks : Result A Errno) (step : Result T Errno × S) → Alike asks step → (r : Result T Errno) (K : S) → Steps H step r K → Does (whole H) asks changes answer r (whole K)
  alike-does (Ok a) step d (Ok k) K s = let same : Ok (answer a) ≡ Ok k = sym d.0 ∙ s.answered in (a, refl, cc, ap whole s.left ∙ d.1)
  alike-does (Ok a) step d (Err e) K s = elim s.answered [
    | inl never ↦ absurd (cc (d.0, never))
    | inr lacks ↦ (ap whole (s.left ∙ rw lacks.0 refl), inr (lacks.0, refl))
  ]
  alike-does (Err e) step d (Ok k) K s = let never = s.answered in absurd (cc (d.0, never))
  alike-does (Err e) step d (Err f) K s = elim s.answered [
    | inl is ↦ let same : e ≡ f = cc (d.0, is) in (ap whole (s.left ∙ ap (cond (is_no_memory f) H) d.1 ∙ either (is_no_memory f)), inl (ap Err same))
    | inr lacks ↦ let answers = rw d.0 at lacks.1 in absurd (true≢false (sym answers))
  ]

  -- a step that was done
  pub stepped-does : (asks : Result A Errno) (step : Result T Errno × S) → Alike asks step → (k : T) (K : S) → step ≡ (Ok k, K) → Does (whole H) asks changes answer (Ok k) (whole K)
  stepped-does asks step alike k K did =
      alike-does asks step alike (Ok k) K (record { answered = ap (λ (z : Result T Errno × S). z.0) did; left = sym (ap (λ (z : Result T Errno × S). z.1) did) })

  -- of a step that takes no memory
  module _ (f : T → Reply) (asks : Result A Errno) (step : Result T Errno × S) (alike : Alike asks step) (r : Result T Errno) (K : S) (is : (r, K) ≡ step) where
    pub alike-follows : Follows (whole H) (answered asks (λ a. record { reply = f (answer a); changes = changes a })) (told f r) (whole K)
    unfolding answered
    alike-follows = by asks alike
      where
        by : (asks : Result A Errno) → Alike asks step → Follows (whole H) (answered asks (λ a. record { reply = f (answer a); changes = changes a })) (told f r) (whole K)
        by (Ok a) d = (ap (λ (z : Result T Errno × S). told f z.0) is ∙ ap (told f) d.0, ap (λ (z : Result T Errno × S). whole z.1) is ∙ d.1)
        by (Err e) d = (ap (λ (z : Result T Errno × S). told f z.0) is ∙ ap (told f) d.0, ap (λ (z : Result T Errno × S). whole z.1) is ∙ ap whole d.1)

    pub settled-follows : (z : World) → z ≡ settled_if r (whole K) → Follows (whole H) (answered asks (λ a. record { reply = f (answer a); changes = changes a ++ Settle ∷ [] })) (told f r) z
    unfolding answered
    settled-follows z left = by asks alike
      where
        world : (q : Result T Errno) → step.0 ≡ q → z ≡ settled_if q (whole step.1)
        world q e = left ∙ ap (λ (z : Result T Errno × S). settled_if z.0 (whole z.1)) is ∙ ap (λ q. settled_if q (whole step.1)) e

        by : (asks : Result A Errno) → Alike asks step → Follows (whole H) (answered asks (λ a. record { reply = f (answer a); changes = changes a ++ Settle ∷ [] })) (told f r) z
        by (Ok a) d = (ap (λ (z : Result T Errno × S). told f z.0) is ∙ ap (told f) d.0, world (Ok (answer a)) d.0 ∙ ap settle d.1 ∙ sym (apply_all-append (changes a) (Settle ∷ []) (whole H)))
        by (Err e) d = (ap (λ (z : Result T Errno × S). told f z.0) is ∙ ap (told f) d.0, world (Err e) d.0 ∙ ap whole d.1)
