use Rattle.std.proofs.Common.{None, refl}
use Rattle.hurd_world.specs.Held.{world_of}
use Rattle.hurd_teaching.proofs.PictureLaws.{is_drawn, said_so}
use Rattle.hurd_teaching.proofs.drawing.plain_picture.Goals as goal

pub returns : goal.returns
returns g c =
    said_so _ _ c.picture_of.result (λ text is. is_drawn c.args.names.items None (world_of g.S.Server.meaning c.args.world.now) None None text refl refl is) c.picture_of.ensures
