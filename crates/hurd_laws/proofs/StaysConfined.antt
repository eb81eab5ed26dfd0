-- What S sees after a step or a run it saw before, or a task of S made it since.
use Rattle.std.proofs.Common.{◌≡◌, ◌⊎◌, ℕ, ◌≤◌, Bool, true, false, true≢false, [], ◌∷◌, sym, refl, ◌∙◌, inl, inr, arith}
use Rattle.hurd_machine.proofs.Common.{AttrOf, Call, Name, Seen, Sound, World}
use Rattle.hurd_machine.proofs.Confine.{NewTo}
use Rattle.hurd_machine.proofs.Confined.{to_give}
use Rattle.hurd_machine.proofs.CallLaws as call
use Rattle.hurd_laws.specs.Step.{after}
use Rattle.hurd_laws.specs.Runs.{TouchesUnseen}
use Rattle.hurd_laws.specs.Laws.{GivenSince, Confined, ConfinedRun}
use Rattle.hurd_laws.proofs.Assembled.{others_unseen, stays_sound}
use Rattle.hurd_laws.proofs.Rows.{call_laws}

-- a name that a task of S hadn't given
given_new : (S : ℕ → Bool) (w : World) (n : Name) → NewTo S w n → GivenSince S w n
given_new S w n new = let x = to_give w n new.1 in record { ours = new.0; task = x.0; is_task = x.1; since = x.2 }

-- one given since a step was given since before it
given_before : (S : ℕ → Bool) (w : World) (t : ℕ) (c : Call) (n : Name) → Sound w → GivenSince S (after w t c) n → GivenSince S w n
given_before S w t c n s g =
    let x = call.names_grow t _ _ (call_laws t c).laws w s n.task.0 g.task g.is_task in
    let low : x.0.made ≤ g.task.made = x.2 in
    let high : g.task.made ≤ n.count = g.since in
    record { ours = g.ours; task = x.0; is_task = x.1; since = omega arith }

pub confined : Confined
confined S w t c n s side seen = go (S t) refl
  where
    go : (b : Bool) → S t ≡ b → Seen S w n ⊎ GivenSince S w n
    go true ours = elim (call.confined t _ _ (call_laws t c).laws S w s ours n seen) [ inl old ↦ inl old | inr new ↦ inr (given_new S w n new) ]
    go false out = elim side [
      | inl ours ↦ absurd (true≢false (sym ours ∙ out))
      | inr quiet ↦ inl (((others_unseen S w t c s out quiet).seen (AttrOf n)).1 seen)
    ]

pub confined_run : ConfinedRun
confined_run S w [] n s quiet seen = inl seen
confined_run S w (m ∷ ms) n s quiet seen =
    elim (confined_run S (after w m.task m.call) ms n (stays_sound w m.task m.call s) quiet.1 seen) [
      | inl old ↦ confined S w m.task m.call n s (side (S m.task) refl) old
      | inr given ↦ inr (given_before S w m.task m.call n s given)
    ]
  where
    side : (b : Bool) → S m.task ≡ b → (S m.task ≡ true) ⊎ TouchesUnseen S w m.task m.call
    side true ours = inl ours
    side false out = inr (quiet.0 out)
