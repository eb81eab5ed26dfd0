-- When a row's answer, and the world that it leaves, are those of its plan.
use Rattle.std.proofs.Common.{◌≡◌, ◌∙◌, inl, inr, false, true≢false, List, sym, refl, ap, subst}
use Rattle.std.specs.Prelude.{Result, Ok, Err, IsOk}
use Rattle.hurd_machine.proofs.Common.{Change, ENOMEM, Errno, Meets, Plan, Planned, Reply, World, after_plan, answered, apply_all, is_refused}
use Rattle.hurd_machine.specs.declared.call.Reply.TheVariants.{Refused}
use Rattle.hurd_machine.specs.Plan.{Follows}
use Rattle.hurd_core.specs.Core.{Does}

module _ {A T : Type 0} (w : World) (asks : Result A Errno) (k : A → Plan) (f : T → Reply) where
  -- what is asked is refused
  pub asked-refused : (e : Errno) → asks ≡ Err e → Planned w (answered asks k) f (Err e) w
  unfolding answered
  asked-refused e is = (refl, inl (ap (λ (r : Result A Errno). answered r k) is))

  -- or finds no memory where the plan refuses nothing
  pub asked-lacks : (a : A) (e : Errno) (y : World) → asks ≡ Ok a → is_refused (k a).reply ≡ false → y ≡ w → e ≡ ENOMEM → Planned w (answered asks k) f (Err e) y
  unfolding answered
  asked-lacks a e y is free same lacks = (same, inr (lacks, ap (λ (r : Result A Errno). is_refused (answered r k).reply) is ∙ free))

  -- one or the other
  pub asked-short : (e : Errno) → ((a : A) → is_refused (k a).reply ≡ false) → Meets asks (Err e) → Planned w (answered asks k) f (Err e) w
  asked-short e free (inl is) = asked-refused e is
  asked-short e free (inr lacks) = go asks refl lacks.1
    where
      go : (r : Result A Errno) → asks ≡ r → IsOk r → Planned w (answered asks k) f (Err e) w
      go (Ok a) is ok = asked-lacks a e w is (free a) refl lacks.0
      go (Err x) is ok = absurd (true≢false (sym ok))

  -- what is asked is answered, and the changes are made
  pub asked-done : (a : A) (x : T) (y : World) → asks ≡ Ok a → f x ≡ (k a).reply → y ≡ after_plan w (k a) → Planned w (answered asks k) f (Ok x) y
  unfolding answered
  asked-done a x y is tells makes =
      (tells ∙ sym (ap (λ (r : Result A Errno). (answered r k).reply) is), makes ∙ sym (ap (λ (r : Result A Errno). after_plan w (answered r k)) is))

-- a method of the core that does what the plan says
pub does-planned : {A T : Type 0} (w : World) (asks : Result A Errno) (changes : A → List Change) (answer : A → T) (k : A → Plan) (f : T → Reply) (r : Result T Errno) (y : World)
    → ((a : A) → (f (answer a) ≡ (k a).reply) × ((k a).changes ≡ changes a)) → ((a : A) → is_refused (k a).reply ≡ false) → Does w asks changes answer r y → Planned w (answered asks k) f r y
does-planned {A} w asks changes answer k f (Ok x) y same free d =
    asked-done w asks k f d.0 x y d.1 (ap f d.2 ∙ (same d.0).0) (d.3 ∙ ap (λ (cs : List Change). apply_all cs w) (sym (same d.0).1))
does-planned {A} {T} w asks changes answer k f (Err e) y same free d = subst (λ (z : World). Planned w (answered asks k) f (Err e) z) (sym d.0) (asked-short w asks k f e free d.1)

-- the plan that follows from an answer is the plan
pub planned-then : {A T : Type 0} (w : World) (asks : Result A Errno) (k : A → Plan) (f : T → Reply) (a : A) (r : Result T Errno) (y : World) → asks ≡ Ok a → Planned w (k a) f r y → Planned w (answered asks k) f r y
unfolding answered
planned-then {A} w asks k f a r y is h = subst (λ (q : Result A Errno). Planned w (answered q k) f r y) (sym is) h

-- of a call that takes no memory

module _ {A : Type 0} (w : World) (asks : Result A Errno) (k : A → Plan) where
  -- what is asked is refused
  pub follows-refused : (e : Errno) → asks ≡ Err e → Follows w (answered asks k) (Refused e) w
  unfolding answered
  follows-refused e is = subst (λ (q : Result A Errno). Follows w (answered q k) (Refused e) w) (sym is) (refl, refl)

  -- the plan that follows from an answer is the plan, and the other way round
  module _ (a : A) (r : Reply) (y : World) (is : asks ≡ Ok a) where
    pub follows-then : Follows w (k a) r y → Follows w (answered asks k) r y
    unfolding answered
    follows-then h = subst (λ (q : Result A Errno). Follows w (answered q k) r y) (sym is) h

    pub follows-from : Follows w (answered asks k) r y → Follows w (k a) r y
    unfolding answered
    follows-from h = subst (λ (q : Result A Errno). Follows w (answered q k) r y) is h
