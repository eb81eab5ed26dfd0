-- Who could help some tasks to see a part of a world.
use Rattle.std.specs.Prelude.{◌≡◌, ◌⊎◌, List, [], ◌∷◌, ◌++◌, map}
use Rattle.hurd_creds.specs.declared.name.TaskId.{TaskId}
use Rattle.hurd_machine.specs.World.{World}
use Rattle.hurd_machine.specs.Sight.{Sees}
use Rattle.hurd_sight.specs.Parts.{part_of}
use Rattle.hurd_sight.specs.Reach.{among}
use Rattle.hurd_sight.specs.declared.parts.SeenPart.{SeenPart}
use Rattle.hurd_can.specs.declared.helped.Pair.{Pair}

-- who could help to see a part: each of the ones alone, and each pair of the twos; and who saw it before
pub record Help : Type 0 where
  pub part : SeenPart
  pub ones : List TaskId
  pub twos : List Pair
  pub before : List TaskId

-- of these things, those of which P holds, in their order
abbrev pub Picks : {X : Type 0} → (X → Type 0) → List X → List X → Type 0
Picks P [] ys = ys ≡ []
Picks {X} P (x ∷ xs) ys = (P x × (zs : List X) × (ys ≡ x ∷ zs) × Picks P xs zs) ⊎ ((P x → ⊥) × Picks P xs ys)

-- the help of one task is enough for those who see, to see a part
abbrev pub IsEnough : World → List TaskId → SeenPart → TaskId → Type 0
IsEnough w who p d = Sees (among (who ++ d ∷ [])) w (part_of p)

-- the help of two tasks is enough, and that of neither alone
pub record AreEnough (w : World) (who : List TaskId) (p : SeenPart) (pair : Pair) : Type 0 where
  pub one : IsEnough w who p pair.one → ⊥
  pub other : IsEnough w who p pair.other → ⊥
  pub both : Sees (among (who ++ pair.one ∷ pair.other ∷ [])) w (part_of p)

-- a task with each of these
abbrev pub with_each : TaskId → List TaskId → List Pair
with_each d es = map (λ (e : TaskId). let pair : Pair = record { one = d; other = e } in pair) es

-- each two of these tasks, in their order
unfoldable pub pairs_of : List TaskId → List Pair
pairs_of [] = []
pairs_of (d ∷ ds) = with_each d ds ++ pairs_of ds

-- of all others, those who could help to see a part, and the pairs; who saw it before is not noted yet
pub record IsHelped (w : World) (who others : List TaskId) (p : SeenPart) (help : Help) : Type 0 where
  pub part : help.part ≡ p
  pub ones : Picks (IsEnough w who p) others help.ones
  pub twos : Picks (AreEnough w who p) (pairs_of others) help.twos
  pub before : help.before ≡ []

-- the same of each of these parts
abbrev pub AreHelped : World → List TaskId → List TaskId → List SeenPart → List Help → Type 0
AreHelped w who others parts helps =
    (helped : SeenPart → Help) × (helps ≡ map helped parts) × ((p : SeenPart) → IsHelped w who others p (helped p))
