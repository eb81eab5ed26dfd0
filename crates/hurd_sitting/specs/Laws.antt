-- What several texts tell.
use Rattle.std.specs.Prelude.{◌≡◌, ◌≤◌, ℕ, List, ◌∷◌, ◌++◌, None, length}
use Rattle.hurd_creds.specs.Limits.{most_script}
use Rattle.hurd_lists.specs.Lists.{Listed}
use Rattle.hurd_machine.specs.World.{World}
use Rattle.hurd_calls.specs.Making.{parts_of}
use Rattle.hurd_sitting.specs.Sittings.{Begins, Makes, behind, told_by}

-- calls, and then others after them, have the parts that all of them have as one list, tell the same, and leave the same world
pub record AreOne (first then : List Listed) (w : World) : Type 0 where
  pub parts : parts_of (first ++ then) w ≡ parts_of first w ++ parts_of then (behind first w)
  pub tells : told_by (first ++ then) w ≡ told_by first w ++ told_by then (behind first w)
  pub leaves : behind (first ++ then) w ≡ behind then (behind first w)

-- in each world
abbrev pub CallsAreOne : Type 0
CallsAreOne = (first then : List Listed) (w : World) → AreOne first then w

-- a list that begins a sitting and a text that is made in it, joined by a newline, begin one in which the same is told and done, if they are not too long together
abbrev pub TextsAreOne : Type 0
TextsAreOne = (list text told more : List ℕ) (w x : World)
    → Begins list told w → Makes None text w more x → length (list ++ 10 ∷ text) ≤ most_script → Begins (list ++ 10 ∷ text) (told ++ more) x
