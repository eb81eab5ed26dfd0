-- A world with the parts that its calls touched since these were to be noted.
use Rattle.hurd_machine.specs.World.{World}
use Rattle.hurd_machine.specs.Sound.{Sound}
use Rattle.hurd_touches.specs.Unnoticed.{Unnoticed}
use Rattle.hurd_touches.specs.declared.noted.Noted.{Noted}

-- a world, and the parts that are noted
pub record State : Type 0 where
  pub world : World
  pub noted : Noted

-- from one to another all that was done was noted: a sound world stays sound, and whoever saw none of the noted parts in world u has the view that it had there still
pub record NotesWhatIsTouched (x y : State) : Type 0 where
  pub sound : Sound x.world → Sound y.world
  pub unnoticed : (u : World) → Sound x.world → Unnoticed x.noted u x.world → Unnoticed y.noted u y.world
