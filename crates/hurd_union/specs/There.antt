-- Sets of names.
use Rattle.std.specs.Prelude.{◌≡◌, ℕ, List, [], ◌∷◌, ◌++◌}
use Rattle.std.specs.Global.{Vec}
use Rattle.std.specs.List.{list_any}
use Rattle.std.specs.Str.{bytes_eq}
use Rattle.hurd_union.specs.Merge.{is_among}

-- the keys of a set have the names of a list, in whatever order
abbrev pub Tells : List (Vec ℕ) → List (List ℕ) → Type 0
Tells keys names = (name : List ℕ) → list_any (λ k. bytes_eq name k.items) keys ≡ is_among name names

-- one more name is among the keys
abbrev pub Notes : List ℕ → List (Vec ℕ) → List (Vec ℕ) → Type 0
Notes name old new = (names : List (List ℕ)) → Tells old names → Tells new (names ++ name ∷ [])
