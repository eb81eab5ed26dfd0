-- Where the last name of a path is.
use Rattle.std.specs.Prelude.{ℕ, ◌==◌, List, [], ◌∷◌, if◌then◌else◌, drop, length, reverse}
use Rattle.hurd_script.specs.declared.places.EntryPlace.{EntryPlace}

-- a path without the slashes that it begins with
abbrev pub skip_slashes : List ℕ → List ℕ
skip_slashes [] = []
skip_slashes (b ∷ bs) = if b == 47 then skip_slashes bs else b ∷ bs

-- a path from its first slash on
abbrev pub skip_name : List ℕ → List ℕ
skip_name [] = []
skip_name (b ∷ bs) = if b == 47 then b ∷ bs else skip_name bs

-- a path without the slashes that it ends with
abbrev pub without_slashes : List ℕ → List ℕ
without_slashes path = reverse (skip_slashes (reverse path))

-- a path up to and with its last slash; nothing of one that has none
abbrev pub up_to_slash : List ℕ → List ℕ
up_to_slash path = reverse (skip_name (reverse path))

-- the path of a directory, and a name in it
abbrev pub split_at_slash : List ℕ → EntryPlace
split_at_slash path = record { directory = up_to_slash path; name = drop (length (up_to_slash path)) path }

-- the place that a node's path names; of slashes alone, or of nothing, the empty path and the empty name
abbrev pub place_of : List ℕ → EntryPlace
place_of node = split_at_slash (without_slashes node)
