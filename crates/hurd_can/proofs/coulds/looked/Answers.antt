use Rattle.std.proofs.Common.{List, subst}
use Rattle.hurd_creds.specs.declared.name.TaskId.{TaskId}
use Rattle.hurd_machine.specs.World.{World}
use Rattle.hurd_teaching.proofs.PictureLaws.{said_so}
use Rattle.hurd_views.specs.declared.view.View.{View}
use Rattle.hurd_world.specs.Held.{world_of}
use Rattle.hurd_can.specs.Ending.{HelpsAtEnd}
use Rattle.hurd_can.specs.Dated.{worlds_from}
use Rattle.hurd_can.specs.Programs.{asking_of}
use Rattle.hurd_can.proofs.EndLaws.{could_be}
use Rattle.hurd_can.proofs.coulds.looked.Goals as goal

pub returns : goal.returns
returns g c =
    let w : World = world_of g.S.Server.meaning c.args.world.now in
    let a = asking_of g.T.Telling.sort c.args.asking.now in
    let found : HelpsAtEnd w c.deref.result.now c.as_slice-who.result.now c.args.tasks.now c.args.asking.now.every c.in_ok-all.all.items = c.in_ok-all.ensures in
    let theirs : HelpsAtEnd w c.deref.result.now a.who c.args.tasks.now c.args.asking.now.every c.in_ok-all.all.items =
    subst (λ (ts : List TaskId). HelpsAtEnd w c.deref.result.now ts c.args.tasks.now c.args.asking.now.every c.in_ok-all.all.items) c.as_slice-who.ensures.value found in
    let helps = subst (λ (v : View). HelpsAtEnd w v a.who c.args.tasks.now c.args.asking.now.every c.in_ok-all.all.items) c.deref.ensures theirs in
    let remembered = rw c.deref-2.ensures at c.in_ok-remember_all.ensures in
    let said = rw (c.deref-3.ensures, c.as_slice.ensures.value) at c.lines_of.ensures in
    said_so _ _ c.lines_of.result
    (λ text is. could_be a c.args.asking.now.every (worlds_from (g.T.Telling.way c.args.again.now).world (g.T.Telling.way c.args.again.now).left) w c.in_ok-view.view.value c.args.tasks.now
    c.in_ok-all.all.items c.remember_all.new.all.items text c.requires c.in_ok-view.ensures helps remembered is) said
