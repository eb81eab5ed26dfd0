use Rattle.hurd_machine.specs.World.{World}
use Rattle.hurd_teaching.proofs.PictureLaws.{said_so}
use Rattle.hurd_world.specs.Held.{world_of}
use Rattle.hurd_can.specs.Listed.{listed}
use Rattle.hurd_can.proofs.EndLaws.{kept_unseen}
use Rattle.hurd_can.proofs.coulds.helped_now.Goals as goal

pub returns : goal.returns
returns g c =
    let w : World = world_of g.S.Server.meaning c.args.world.now in
    let looks = rw (c.nodes.ensures, c.ports.ensures, c.core-core.ensures) at c.in_ok-sight.ensures in
    let kept = rw (c.deref.ensures, c.nodes-2.ensures, c.core-core.ensures) at c.in_ok-parts.ensures in
    let unseen = rw (← kept) at (kept_unseen w c.args.who.now c.in_ok-sight.sight.value looks (listed c.args.every c.args.view.now)) in
    let helped = rw (c.nodes-3.ensures, c.ports-2.ensures, c.core-core.ensures, c.as_slice.ensures.value, c.in_ok-others.ensures, c.as_slice-2.ensures.value) at c.helpers_of.ensures in
    said_so _ _ c.helpers_of.result (λ all is. (c.in_ok-parts.parts.items, unseen, is)) helped
