use Rattle.std.proofs.Common.{◌≡◌, ◌++◌, ℕ, List, map, take}
use Rattle.hurd_ports.specs.Seats.{seat_task}
use Rattle.hurd_can.specs.Saying.{SaysPart, asked_of}
use Rattle.hurd_can.specs.Tried.{AllSaid}
use Rattle.hurd_can.proofs.saying.push_parts.Given as goal

-- what is said of those before this one is added
abbrev pub invariant-loop-helped : goal.invariant-loop-helped
invariant-loop-helped g l = (said : List ℕ) × AllSaid (SaysPart (asked_of g.T.Telling.sort l.scene) l.scene.view.now (map seat_task l.scene.seats.now) l.scene.tasks.now) (take l.helped-index l.all) said × (l.text.items ≡ l.fn.text.items ++ said)
