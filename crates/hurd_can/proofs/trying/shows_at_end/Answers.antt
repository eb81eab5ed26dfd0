use Rattle.std.proofs.Common.{◌∙◌, subst}
use Rattle.std.specs.Prelude.{◌↔◌, IsTrue}
use Rattle.hurd_kinds.specs.Boxes.{box_meaning}
use Rattle.hurd_machine.specs.Sight.{Sees}
use Rattle.hurd_machine.specs.World.{World}
use Rattle.hurd_sight.specs.Looks.{Looks}
use Rattle.hurd_sight.specs.Parts.{part_of}
use Rattle.hurd_sight.specs.Reach.{among}
use Rattle.hurd_world.specs.Held.{world_of}
use Rattle.hurd_can.proofs.TriedLaws.{looks_exact}
use Rattle.hurd_can.proofs.trying.shows_at_end.Goals as goal

pub returns : goal.returns
returns g c =
    let w : World = world_of box_meaning c.world.result.now in
    let looks : Looks (among c.args.who.now) w c.in_ok-sight.sight.value = rw (c.nodes.ensures, c.ports.ensures, c.core-core.ensures) at c.in_ok-sight.ensures in
    let shown = rw (c.deref.ensures, c.nodes-2.ensures, c.core-core.ensures) at c.sees.ensures in
    subst (λ (x : World). IsTrue c.sees.result ↔ Sees (among c.args.who.now) x (part_of c.args.part)) (c.world.ensures ∙ c.in_ok-play_silently.ensures)
    (looks_exact w c.args.who.now c.in_ok-sight.sight.value c.args.part c.sees.result looks shown)
