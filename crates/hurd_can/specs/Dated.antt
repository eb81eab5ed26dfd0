-- Since which command a part is as it is at the end of a text.
use Rattle.std.specs.Prelude.{◌↔◌, ◌≡◌, ℕ, suc, ◌+◌, Bool, List, [], ◌∷◌, Option, Some, None, IsTrue, if◌then◌else◌, map}
use Rattle.std.specs.Option.{option_or}
use Rattle.hurd_creds.specs.declared.name.TaskId.{TaskId}
use Rattle.hurd_dialogue.specs.Parts.{Part}
use Rattle.hurd_dialogue.specs.Sorts.{Sort}
use Rattle.hurd_machine.specs.World.{World}
use Rattle.hurd_sight.specs.declared.parts.SeenPart.{SeenPart}
use Rattle.hurd_views.specs.Views.{Views}
use Rattle.hurd_views.specs.declared.rows.Row.{Row}
use Rattle.hurd_views.specs.declared.view.View.{View}
use Rattle.hurd_can.specs.Remembered.{ShowsAlike, row_of}

-- a world, and the worlds after these parts
abbrev pub worlds_from : World → List Part → List World
worlds_from w parts = w ∷ map (λ (p : Part). p.world) parts

-- these tasks together see a part of a world as a row shows it
abbrev pub SeenAs : Row → List TaskId → SeenPart → World → Type 0
SeenAs r tasks p w = (v : View) × Views tasks w v × ShowsAlike (row_of v p) r p

-- since how many commands a part is seen so, one world further: since those before, or since now; since never, if it isn't
abbrev pub since_then : Bool → Option ℕ → ℕ → Option ℕ
since_then alike since told = if alike then option_or since (Some told) else None

-- the same over these worlds, of which the first is the one after so many commands
abbrev pub Since : Row → List TaskId → SeenPart → List World → ℕ → Option ℕ → Option ℕ → Type 0
Since r tasks p [] told since end = end ≡ since
Since r tasks p (w ∷ ws) told since end = (alike : Bool) × (IsTrue alike ↔ SeenAs r tasks p w) × Since r tasks p ws (told + 1) (since_then alike since told) end

-- since how many commands of a text these tasks together see a part as a row shows it
abbrev pub SinceIn : Sort → List ℕ → Row → List TaskId → SeenPart → Option ℕ → Type 0
SinceIn sort text r tasks p since = Since r tasks p (worlds_from (sort.world text) (sort.parts text)) 0 None since

-- how many commands come before the one that made it so, if one did
abbrev pub made_before : Option ℕ → Option ℕ
made_before (Some (suc made)) = Some made
made_before _ = None
