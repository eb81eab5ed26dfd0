use Rattle.hurd_machine.specs.World.{World, world_from}
use Rattle.hurd_nodes.specs.Shown.{shown}
use Rattle.hurd_can.proofs.HelpLaws.{tried_one}
use Rattle.hurd_can.proofs.looking.try_one.Goals as goal

pub returns : goal.returns
returns g c =
    let w : World = world_from (shown g.S.Server.meaning c.args.nodes.now) c.args.ports.now.state in
    tried_one w c.args.who.now c.args.one c.in_ok-tasks.tasks.items c.in_ok-sight.sight.value c.args.all.now.items c.note_ones.new.all.items c.note_ones.result c.in_ok-tasks.ensures (rw c.as_slice.ensures.value at c.in_ok-sight.ensures)
    (rw c.deref.ensures at c.note_ones.ensures)
