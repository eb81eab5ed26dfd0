-- Who saw a part before as it is now.
use Rattle.std.specs.Prelude.{◌≡◌, ◌⊎◌, ◌↔◌, true, List, [], ◌∷◌, is_some}
use Rattle.hurd_creds.specs.declared.name.TaskId.{TaskId}
use Rattle.hurd_machine.specs.World.{IsAmong, World}
use Rattle.hurd_sight.specs.Reach.{among}
use Rattle.hurd_sight.specs.declared.parts.SeenPart.{SeenPart}
use Rattle.hurd_sight.specs.declared.parts.SeenPart.TheVariants as seen
use Rattle.hurd_views.specs.Views.{Views, no_row, row_at}
use Rattle.hurd_views.specs.declared.rows.Row.{Row}
use Rattle.hurd_views.specs.declared.view.View.{View}
use Rattle.hurd_can.specs.Help.{Help}

-- what is seen under the name of a part
abbrev pub row_of : View → SeenPart → Row
row_of v (seen.Attributes n) = row_at v.rows n
row_of v (seen.Empty n) = row_at v.rows n
row_of v (seen.Body n) = row_at v.rows n
row_of v (seen.Ends n) = row_at v.rows n
row_of v (seen.Open n) = row_at v.rows n
row_of v (seen.Options n) = row_at v.rows n
row_of v (seen.Text n) = row_at v.rows n
row_of v (seen.Users n) = row_at v.rows n
row_of v (seen.Total n) = row_at v.rows n
row_of v (seen.Task t) = no_row

-- a row shows a part of this kind, and as another row does
abbrev pub ShowsAlike : Row → Row → SeenPart → Type 0
ShowsAlike a b (seen.Attributes n) = (is_some a.attributes ≡ true) × (a.attributes ≡ b.attributes)
ShowsAlike a b (seen.Empty n) = (is_some a.empty ≡ true) × (a.empty ≡ b.empty)
ShowsAlike a b (seen.Body n) = (is_some a.body ≡ true) × (a.body ≡ b.body)
ShowsAlike a b (seen.Ends n) = (is_some a.ends ≡ true) × (a.ends ≡ b.ends)
ShowsAlike a b (seen.Open n) = (is_some a.opened ≡ true) × (a.opened ≡ b.opened)
ShowsAlike a b (seen.Options n) = (is_some a.server ≡ true) × (a.server ≡ b.server)
ShowsAlike a b (seen.Text n) = (is_some a.text ≡ true) × (a.text ≡ b.text)
ShowsAlike a b (seen.Users n) = (is_some a.users ≡ true) × (a.users ≡ b.users)
ShowsAlike a b (seen.Total n) = (is_some a.total ≡ true) × (a.total ≡ b.total)
ShowsAlike a b (seen.Task t) = ⊥

-- a view shows a part, and as another view does
abbrev pub SawAs : View → View → SeenPart → Type 0
SawAs v last p = ShowsAlike (row_of v p) (row_of last p) p

-- a task alone sees a part of a world as the last view shows it
abbrev pub SawIn : World → View → TaskId → SeenPart → Type 0
SawIn w last d p = (v : View) × Views (d ∷ []) w v × SawAs v last p

-- a task of these saw a part so in one of these worlds
abbrev pub SawBefore : List World → View → List TaskId → SeenPart → TaskId → Type 0
SawBefore ws last ds p d = IsAmong d ds × (w : World) × IsAmong w ws × SawIn w last d p

-- who saw a part before: those that were noted already, and those who saw it in these worlds; all else stays
pub record Remembers (ws : List World) (last : View) (ds : List TaskId) (old new : Help) : Type 0 where
  pub part : new.part ≡ old.part
  pub ones : new.ones ≡ old.ones
  pub twos : new.twos ≡ old.twos
  pub before : (d : TaskId) → (among new.before d.0 ≡ true) ↔ ((among old.before d.0 ≡ true) ⊎ SawBefore ws last ds old.part d)

-- each of these became one of those, in their order
abbrev pub Each : {X : Type 0} → (X → X → Type 0) → List X → List X → Type 0
Each R [] ys = ys ≡ []
Each {X} R (x ∷ xs) ys = (y : X) × (zs : List X) × (ys ≡ y ∷ zs) × R x y × Each R xs zs
