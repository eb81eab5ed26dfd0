use Rattle.hurd_nodes.specs.Shown.{shown}
use Rattle.hurd_sight.proofs.PartLaws.{seen_of}
use Rattle.hurd_sight.proofs.looks.Sight.of.Goals as goal

pub returns : goal.returns
returns g c =
    let near = c.in_ok-near.near in
    let seen =
    seen_of (shown g.S.Server.meaning c.args.nodes.now) c.args.ports.now.state c.args.tasks.now c.in_ok-own_tasks.own_tasks near.reach near.found c.in_ok-rights.rights near.known near.sendable
    c.in_ok-own_tasks.ensures.items c.in_ok-near.ensures.reach c.in_ok-near.ensures.found c.in_ok-rights.ensures c.in_ok-near.ensures.known c.in_ok-near.ensures.sendable in
    record { looks = seen.0; gathered = (seen.1, seen.2) }
