use Rattle.std.proofs.Common.{map, refl}
use Rattle.hurd_ports.specs.Seats.{seat_task}
use Rattle.hurd_can.specs.Could.{could_line}
use Rattle.hurd_can.specs.Saying.{SaysPart, SaysWays, asked_of}
use Rattle.hurd_can.proofs.SaidLaws.{both_said}
use Rattle.hurd_can.proofs.saying.push_part.Goals as goal

pub returns : goal.returns
returns g c =
    let scene = c.args.scene.now in
    let tasks = map seat_task scene.seats.now in
    both_said (SaysWays scene.how (asked_of g.T.Telling.sort scene) scene.view.now tasks scene.tasks.now c.args.helped.now) (SaysPart (asked_of g.T.Telling.sort scene) scene.view.now tasks scene.tasks.now c.args.helped.now)
    c.args.text.now.items c.add_line.new.text.items c.push_ways.new.text.items (could_line scene.view.now scene.names.now tasks scene.tasks.now scene.who.now c.args.helped.now) c.push_ways.result c.in_ok-add_line.ensures
    (λ rest says. (rest, refl, says)) c.push_ways.ensures
