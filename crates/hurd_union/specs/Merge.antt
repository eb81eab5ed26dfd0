-- Lists of names as one.
use Rattle.std.specs.Prelude.{ℕ, Bool, List, [], ◌∷◌, ◌++◌, if◌then◌else◌}
use Rattle.std.specs.List.{list_any}
use Rattle.std.specs.Str.{bytes_eq}

-- whether a name is one of these
abbrev pub is_among : List ℕ → List (List ℕ) → Bool
is_among name names = list_any (bytes_eq name) names

-- a name after others, where it is not there yet
abbrev pub with_name : List ℕ → List (List ℕ) → List (List ℕ)
with_name name names = if is_among name names then names else names ++ name ∷ []

-- names after others, each where it is not there yet
abbrev pub merge : List (List ℕ) → List (List ℕ) → List (List ℕ)
merge seen [] = seen
merge seen (n ∷ ns) = merge (with_name n seen) ns
