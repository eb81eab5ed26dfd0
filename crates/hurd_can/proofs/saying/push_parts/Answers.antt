use Rattle.std.proofs.Common.{arith, map}
use Rattle.hurd_ports.specs.Seats.{seat_task}
use Rattle.hurd_can.specs.Saying.{SaysPart, asked_of}
use Rattle.hurd_can.proofs.SaidLaws.{said_more}
use Rattle.hurd_can.proofs.saying.push_parts.Goals as goal

pub loop-helped-preserved : goal.loop-helped-preserved
loop-helped-preserved g c =
    let scene = c.args.scene.now in
    said_more (SaysPart (asked_of g.T.Telling.sort scene) scene.view.now (map seat_task scene.seats.now) scene.tasks.now) c.args.all.now c.loop-helped.helped-index _ c.args.text.now.items c.loop-helped.text.items
    c.push_part.new.text.items (omega arith) c.loop-helped.invariant (rw c.helped-item.is at c.in_ok-push_part.ensures)
