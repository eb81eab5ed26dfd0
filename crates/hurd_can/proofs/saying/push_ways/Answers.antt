use Rattle.std.proofs.Common.{◌≡◌, Bool, sym, subst, map, ℕ, List}
use Rattle.std.specs.Prelude.{◌++◌, OnOk}
use Rattle.std.proofs.lemmas.Result.{on_ok_weaker}
use Rattle.hurd_ports.specs.Seats.{seat_task}
use Rattle.hurd_sight.specs.declared.parts.SeenPart.{SeenPart}
use Rattle.hurd_can.specs.Dated.{SinceIn}
use Rattle.hurd_can.specs.Remembered.{row_of}
use Rattle.hurd_can.specs.Saying.{SaysWays, asked_of}
use Rattle.hurd_can.proofs.saying.push_ways.Goals as goal

pub returns : goal.returns
returns g c =
    let scene = c.args.scene.now in
    let sets = rw (c.as_slice-2.ensures.value, c.in_ok-path.ensures, c.as_slice.ensures.value, c.in_ok-place.ensures, c.as_slice-3.ensures.value, c.in_ok-sets.ensures, c.made_before.ensures, c.look_at.ensures, c.part-part.ensures)
    at c.push_sets.ensures in
    let since = subst (λ (p : SeenPart). SinceIn g.T.Telling.sort scene.script.now (row_of scene.view.now p) scene.tasks.now p c.in_ok-since.since) c.part-part.ensures c.in_ok-since.ensures in
    subst (λ (how : Bool). OnOk c.push_sets.result ((x : List ℕ) × SaysWays how (asked_of g.T.Telling.sort scene) scene.view.now (map seat_task scene.seats.now) scene.tasks.now c.args.helped.now x
    × (c.push_sets.new.text.items ≡ c.args.text.now.items ++ x))) (sym c.if-not-scene.false)
    (on_ok_weaker c.push_sets.result (λ said. (said.0, (c.in_ok-since.since, since, said.1), said.2)) sets)
