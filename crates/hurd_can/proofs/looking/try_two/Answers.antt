use Rattle.hurd_machine.specs.World.{World, world_from}
use Rattle.hurd_nodes.specs.Shown.{shown}
use Rattle.hurd_can.proofs.HelpLaws.{tried_two}
use Rattle.hurd_can.proofs.looking.try_two.Goals as goal

pub returns : goal.returns
returns g c =
    let w : World = world_from (shown g.S.Server.meaning c.args.nodes.now) c.args.ports.now.state in
    tried_two w c.args.who.now c.args.pair c.in_ok-tasks.tasks.items c.in_ok-sight.sight.value c.args.all.now.items c.note_twos.new.all.items c.note_twos.result c.in_ok-tasks.ensures (rw c.as_slice.ensures.value at c.in_ok-sight.ensures)
    (rw c.deref.ensures at c.note_twos.ensures)
