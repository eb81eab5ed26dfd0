use Rattle.std.proofs.Common.{None, Some, false, refl}
use Rattle.hurd_machine.specs.World.{World}
use Rattle.hurd_world.specs.Held.{world_of}
use Rattle.hurd_teaching.specs.Drawings.{marked_by}
use Rattle.hurd_teaching.proofs.PictureLaws.{is_drawn, said_so}
use Rattle.hurd_teaching.proofs.drawing.marked_picture.Goals as goal

pub returns : goal.returns
returns g c =
    let w : World = world_of g.S.Server.meaning c.args.world.now in
    let theirs = rw c.as_slice.ensures.value at c.in_ok-theirs.ensures in
    let drawn = rw (c.as_slice-2.ensures.value, c.deref.ensures) at c.picture_of.ensures in
    said_so _ _ c.picture_of.result
    (λ text is. is_drawn c.args.names.items (Some (marked_by false c.args.learners.now w)) w (Some c.in_ok-theirs.theirs.value) None text (c.in_ok-theirs.theirs.value, refl, theirs) refl is)
    drawn
