-- Finite maps from names.
use Rattle.std.specs.Prelude.{ℕ, ◌+◌, List, [], ◌∷◌, map, cond, Option, Some, None}
use Rattle.std.specs.Option.{option_map}
use Rattle.std.specs.FinMap as fin
use Rattle.hurd_creds.specs.declared.name.Name.{Name}
use Rattle.hurd_creds.specs.Names.{name_cmp, same_name}

-- things of one type, each under its name
abbrev pub NameMap : Type 0 → Type 0
NameMap X = fin.FinMap name_cmp X

-- the map with what is given put in at a name; where nothing is given, the map as it is
abbrev pub put_back : {X : Type 0} → Name → NameMap X → Option X → NameMap X
put_back n m None = m
put_back n m (Some x) = fin.insert m n x

-- the map with what is at a name changed; where nothing is there, the map as it is
unfoldable pub edit : {X : Type 0} → Name → (X → X) → NameMap X → NameMap X
edit n f m = put_back n m (option_map f (fin.get m n))

-- the map with a function at each value
unfoldable pub map_values : {A B : Type 0} → (A → B) → NameMap A → NameMap B
map_values f m = fin.from_entries (map (λ e. (e.0, f e.1)) (fin.entries m))

-- a list of things, each with its name and its value, as a map; of two things of one name the first counts
unfoldable pub keyed : {X V : Type 0} → (X → Name) → (X → V) → List X → NameMap V
keyed key value xs = fin.from_entries (map (λ x. (key x, value x)) xs)

-- the index of the first thing of a name, if any has it
abbrev pub place_by : {X : Type 0} → (X → Name) → Name → List X → Option ℕ
place_by key n [] = None
place_by key n (x ∷ xs) = cond (same_name n (key x)) (Some 0) (option_map (λ i. i + 1) (place_by key n xs))
