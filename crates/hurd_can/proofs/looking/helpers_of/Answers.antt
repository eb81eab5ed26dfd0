use Rattle.hurd_machine.specs.World.{World, world_from}
use Rattle.hurd_nodes.specs.Shown.{shown}
use Rattle.hurd_can.proofs.HelpLaws.{all_helped}
use Rattle.hurd_can.proofs.looking.helpers_of.Goals as goal

pub returns : goal.returns
returns g c =
    let w : World = world_from (shown g.S.Server.meaning c.args.nodes.now) c.args.ports.now.state in
    let ones = rw c.in_ok-all.ensures at c.in_ok-try_ones.ensures in
    let twos = rw (c.as_slice.ensures.value, c.in_ok-pairs.ensures) at c.in_ok-try_twos.ensures in
    all_helped w c.args.who.now c.args.others.now c.args.parts.now _ _ ones twos
