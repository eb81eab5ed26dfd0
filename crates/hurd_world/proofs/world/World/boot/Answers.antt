use Rattle.std.proofs.Common.{◌∙◌, sym, ap, subst}
use Rattle.hurd_machine.proofs.Common.{Sound, booted, state_of, world_from}
use Rattle.hurd_world.proofs.FirstWorld.{first_sound}
use Rattle.hurd_world.proofs.world.World.boot.Goals as goal

pub returns-clause-sound : goal.returns-clause-sound
returns-clause-sound g c =
    let m = g.S.Server.meaning c.args.boot in
    subst Sound (sym (c.in_ok-core.ensures.ok ∙ ap (world_from (state_of (booted m))) c.in-Ok.ensures.ok.1)) (first_sound m c.args.tasks.items c.requires)

pub returns-clause-ok : goal.returns-clause-ok
returns-clause-ok g c =
    (rw (← c.root-root.ensures, c.in-Dir.is, ← c.if-is_aimed.ensures) c.in-Ok.ensures.ok.0, c.in_ok-core.ensures.ok ∙ ap (world_from (state_of (booted (g.S.Server.meaning c.args.boot)))) c.in-Ok.ensures.ok.1)
