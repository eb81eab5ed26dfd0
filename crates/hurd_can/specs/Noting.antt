-- What a look with helpers shows, and what is noted of it.
use Rattle.std.specs.Prelude.{◌≡◌, ◌↔◌, Bool, true, not, ◌&&◌, if◌then◌else◌, List, [], ◌∷◌, ◌++◌, map}
use Rattle.hurd_creds.specs.declared.name.TaskId.{TaskId}
use Rattle.hurd_machine.specs.World.{World}
use Rattle.hurd_machine.specs.Sight.{Sees}
use Rattle.hurd_sight.specs.Parts.{part_of}
use Rattle.hurd_sight.specs.Reach.{among}
use Rattle.hurd_sight.specs.declared.parts.SeenPart.{SeenPart}
use Rattle.hurd_can.specs.Help.{Help, IsEnough, Picks}
use Rattle.hurd_can.specs.declared.helped.Pair.{Pair}

-- a part without helpers
abbrev pub unhelped : SeenPart → Help
unhelped p = record { part = p; ones = []; twos = []; before = [] }

-- a helper is noted, if this shows the part
abbrev pub noted_one : (SeenPart → Bool) → TaskId → Help → Help
noted_one sees d h = if sees h.part then record h { ones = h.ones ++ d ∷ [] } else h

-- whether neither of two could help alone
abbrev pub lacks : Help → Pair → Bool
lacks h pair = not (among h.ones pair.one.0) && not (among h.ones pair.other.0)

-- a pair is noted, if this shows the part, and neither could help alone
abbrev pub noted_two : (SeenPart → Bool) → Pair → Help → Help
noted_two sees pair h = if lacks h pair && sees h.part then record h { twos = h.twos ++ pair ∷ [] } else h

-- this shows what those see, and nothing else
abbrev pub IsExact : World → List TaskId → (SeenPart → Bool) → Type 0
IsExact w tasks sees = (p : SeenPart) → (sees p ≡ true) ↔ Sees (among tasks) w (part_of p)

-- these tasks were tried as helpers, one after another, and noted where their help is enough
pub record AddsOnes (w : World) (who ds : List TaskId) (old new : List Help) : Type 0 where
  pub grown : Help → Help
  pub is : new ≡ map grown old
  pub part : (h : Help) → (grown h).part ≡ h.part
  pub twos : (h : Help) → (grown h).twos ≡ h.twos
  pub before : (h : Help) → (grown h).before ≡ h.before
  pub ones : (h : Help) → (more : List TaskId) × ((grown h).ones ≡ h.ones ++ more) × Picks (IsEnough w who h.part) ds more

-- a pair is enough, and none of these tasks is that
pub record AreEnoughFor (w : World) (who : List TaskId) (h : Help) (pair : Pair) : Type 0 where
  pub lacking : lacks h pair ≡ true
  pub both : Sees (among (who ++ pair.one ∷ pair.other ∷ [])) w (part_of h.part)

-- these pairs were tried, and noted where their help is enough
pub record AddsTwos (w : World) (who : List TaskId) (pairs : List Pair) (old new : List Help) : Type 0 where
  pub grown : Help → Help
  pub is : new ≡ map grown old
  pub part : (h : Help) → (grown h).part ≡ h.part
  pub ones : (h : Help) → (grown h).ones ≡ h.ones
  pub before : (h : Help) → (grown h).before ≡ h.before
  pub twos : (h : Help) → (more : List Pair) × ((grown h).twos ≡ h.twos ++ more) × Picks (AreEnoughFor w who h) pairs more
