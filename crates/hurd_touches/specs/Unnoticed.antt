-- Whom noted calls are unnoticed by.
use Rattle.std.specs.Prelude.{ℕ, Bool}
use Rattle.hurd_machine.specs.Calls.{Call}
use Rattle.hurd_machine.specs.World.{World}
use Rattle.hurd_machine.specs.Sight.{Part, Sees, SameView}
use Rattle.hurd_machine.specs.Sound.{Sound}
use Rattle.hurd_laws.specs.Step.{after}
use Rattle.hurd_touches.specs.declared.noted.Noted.{Noted}
use Rattle.hurd_touches.specs.Touched.{IsNoted, Notes}

-- whoever sees none of the noted parts in u has in w the view that it had in u
abbrev pub Unnoticed : Noted → World → World → Type 0
Unnoticed noted u w = (S : ℕ → Bool) → ((p : Part) → IsNoted noted p → Sees S u p → ⊥) → SameView S u w

-- after one call more, which was noted too, this still holds
abbrev pub NotedCall : Type 0
NotedCall =
    (u w : World) (t : ℕ) (c : Call) (old new : Noted) → Sound w → Unnoticed old u w → Notes w t c old new
    → Unnoticed new u (after w t c)

-- where nothing was done, nobody notices anything
abbrev pub NotedNothing : Type 0
NotedNothing = (noted : Noted) (w : World) → Unnoticed noted w w
