use Rattle.std.proofs.Common.{refl}
use Rattle.std.specs.Prelude.{option_copied}
use Rattle.hurd_pictures.specs.declared.names.Titles.{Titles}
use Rattle.hurd_world.specs.Held.{world_of}
use Rattle.hurd_teaching.proofs.PictureLaws.{is_picture, said_so}
use Rattle.hurd_teaching.proofs.drawing.picture_of.Goals as goal

pub returns : goal.returns
returns g c =
    let titles : Titles = record { tasks = c.args.names; owners = c.in_ok-owners.owners } in
    let owned = rw c.as_slice.ensures.value at c.in_ok-owners.ensures in
    let rows = rw (c.ports.ensures, c.core.ensures) at c.seats-seats.ensures.all in
    let views = rw c.as_slice-2.ensures.value at c.in_ok-view.ensures in
    let drawn = rw (c.as_slice-3.ensures.value, c.deref.ensures) at c.picture.ensures in
    said_so _ _ c.picture.result
    (λ text is. is_picture c.args.names.items (world_of g.S.Server.meaning c.args.world.now) titles c.in_ok-view.view.value c.args.who.now (option_copied c.args.theirs) (option_copied c.args.wide)
    c.seats-seats.result.now c.in_ok-tasks.tasks.items text refl owned rows c.in_ok-tasks.ensures views is)
    drawn
