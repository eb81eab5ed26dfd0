-- A list of calls on its way: what is still to be printed of it.
use Rattle.std.specs.Prelude.{◌≡◌, ℕ, List, [], ◌∷◌, Option, Some, None, map}
use Rattle.hurd_kinds.specs.Boxes.{box_meaning}
use Rattle.hurd_lists.specs.Lists.{listed_by, reading_of}
use Rattle.hurd_world.specs.Held.{world_of}
use Rattle.hurd_calls.specs.Lists.{lists}
use Rattle.hurd_calls.specs.Readings.{said_in}
use Rattle.hurd_tmpfs.specs.Tree.{new_tmpfs}
use Rattle.hurd_world.specs.Boot.{first_world}
use Rattle.hurd_vectors.specs.Vectors.{vectors_from}
use Rattle.hurd_vectors.specs.declared.printing.Calls.{Calls}

-- the vectors of the calls that are left
abbrev pub left_of : Calls → List (List ℕ)
left_of calls = vectors_from (map (listed_by box_meaning) calls.calls.items) (world_of box_meaning calls.world.value)

-- a list is good, and all its calls are left
pub record Begins (text : List ℕ) (calls : Calls) : Type 0 where
  pub good : lists.bad text ≡ None
  pub left : left_of calls ≡ vectors_from (said_in (reading_of text)).calls (first_world new_tmpfs (said_in (reading_of text)).tasks)

-- the next call was made, and this is its vector; or there is none, and none is left
abbrev pub Goes : Calls → Option (List ℕ) → Calls → Type 0
Goes old None new = left_of old ≡ []
Goes old (Some vector) new = left_of old ≡ vector ∷ left_of new
