-- Runs side by side up to names, since no reply tells a name.
use Rattle.std.proofs.Common.{◌≡◌, ◌∙◌, ℕ, Bool, true, List, ◌∷◌, sym, refl, ap₂}
use Rattle.hurd_machine.proofs.Common.{Sound, World}
use Rattle.hurd_machine.specs.Renamed.{renamed}
use Rattle.hurd_machine.specs.Calls.{Call}
use Rattle.hurd_laws.specs.Step.{after, reply_of}
use Rattle.hurd_laws.specs.Runs.{TaskCall, replies_to, worlds_of}
use Rattle.hurd_laws.proofs.Assembled.{own_from_view, stays_sound}
use Rattle.hurd_laws.proofs.Together.{together}
use Rattle.hurd_laws.specs.Untold.{NamesUntold, SameViewRenamed, SideBySideRenamed, SameViewsRenamed}
use Rattle.hurd_laws.proofs.SoundRenamed.{renamed_sound}

-- a call of S in two worlds that look the same to it except for names is told the same
pub told_by_looks : NamesUntold → (S : ℕ → Bool) (v w : World) (t : ℕ) (c : Call) → Sound v → Sound w → S t ≡ true → SameViewRenamed S v w → reply_of v t c ≡ reply_of w t c
told_by_looks untold S v w t c sv sw ours k =
    let none = k.ours t ours in
    let one = own_from_view S (renamed k.left v) (renamed k.right w) t c (renamed_sound k.left v k.given.0 sv) (renamed_sound k.right w k.given.1 sw) ours k.same in
    sym (untold k.left v t c none.0) ∙ sym one.0 ∙ untold k.right w t c none.1

abbrev Told : (ℕ → Bool) → List TaskCall → List TaskCall → Type 0
Told S ms ns = (v w : World) → Sound v → Sound w → SameViewsRenamed S (worlds_of S v ms) (worlds_of S w ns) → replies_to S v ms ≡ replies_to S w ns

pub side_by_side_renamed : NamesUntold → SideBySideRenamed
side_by_side_renamed untold S v w ms ns sv sw same views = together (λ (m : TaskCall). S m.task) (Told S)
    (λ v w sv sw views. refl)
    (λ m ms ns e ih v w sv sw. rw e (ih (after v m.task m.call) w (stays_sound v m.task m.call sv) sw))
    (λ n ms ns e ih v w sv sw. rw e (ih v (after w n.task n.call) sv (stays_sound w n.task n.call sw)))
    (λ m ms ns e ih v w sv sw. rw e (λ views.
    ap₂ ◌∷◌ (told_by_looks untold S v w m.task m.call sv sw e views.0)
    (ih (after v m.task m.call) (after w m.task m.call) (stays_sound v m.task m.call sv) (stays_sound w m.task m.call sw) views.1)))
    ms ns same v w sv sw views
