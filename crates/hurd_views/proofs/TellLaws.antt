-- A view tells exactly the parts that its tasks see.
use Rattle.std.proofs.Common.{◌≡◌, ◌∙◌, sym, refl, ap, Bool, true, false, List}
use Rattle.std.specs.Prelude.{is_some}
use Rattle.hurd_machine.proofs.Common.{TaskId, World}
use Rattle.hurd_machine.specs.World.{nodes_of}
use Rattle.hurd_sight.specs.Looks.{sees_with}
use Rattle.hurd_sight.specs.Reach.{among}
use Rattle.hurd_sight.specs.declared.parts.SeenPart.{SeenPart}
use Rattle.hurd_sight.specs.declared.parts.SeenPart.TheVariants as seen
use Rattle.hurd_sight.proofs.PartLaws.{parts_are_seen}
use Rattle.hurd_views.specs.Views.{TellsParts, Views, tells_in, told_if}
use Rattle.hurd_views.specs.declared.rows.Row.{Row}
use Rattle.hurd_views.specs.declared.view.View.{View}
use Rattle.hurd_views.proofs.ViewLaws.{row_there}

-- whether something is told is what the test says
is_told : {X : Type 0} (b : Bool) (x : X) → is_some (told_if b x) ≡ b
is_told true x = refl
is_told false x = refl

module _ {tasks : List TaskId} {w : World} {a : View} (views : Views tasks w a) where
  tells_as : (p : SeenPart) → tells_in a p ≡ sees_with (nodes_of w) a.sight p
  tells_as (seen.Attributes n) = ap (λ (r : Row). is_some r.attributes) (row_there views n) ∙ is_told _ _
  tells_as (seen.Empty n) = ap (λ (r : Row). is_some r.empty) (row_there views n) ∙ is_told _ _
  tells_as (seen.Body n) = ap (λ (r : Row). is_some r.body) (row_there views n) ∙ is_told _ _
  tells_as (seen.Ends n) = ap (λ (r : Row). is_some r.ends) (row_there views n) ∙ is_told _ _
  tells_as (seen.Open n) = ap (λ (r : Row). is_some r.opened) (row_there views n) ∙ is_told _ _
  tells_as (seen.Options n) = ap (λ (r : Row). is_some r.server) (row_there views n) ∙ is_told _ _
  tells_as (seen.Text n) = ap (λ (r : Row). is_some r.text) (row_there views n) ∙ is_told _ _
  tells_as (seen.Users n) = ap (λ (r : Row). is_some r.users) (row_there views n) ∙ is_told _ _
  tells_as (seen.Total n) = ap (λ (r : Row). is_some r.total) (row_there views n) ∙ is_told _ _
  tells_as (seen.Task t) = refl

pub views_tell_parts : TellsParts
views_tell_parts tasks w a p views =
    let says = parts_are_seen (among tasks) w a.sight p views.looks in
    (λ e. says.0 (sym (tells_as views p) ∙ e), λ s. tells_as views p ∙ says.1 s)
