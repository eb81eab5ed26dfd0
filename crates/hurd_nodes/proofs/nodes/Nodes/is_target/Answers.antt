use Rattle.std.proofs.Common.{◌∙◌}
use Rattle.hurd_nodes.specs.Held.{seats_of}
use Rattle.hurd_nodes.proofs.AimLaws.{aims-counted}
use Rattle.hurd_nodes.proofs.nodes.Nodes.is_target.Goals as goal

pub returns : goal.returns
returns g c =
    rw (← c.self.view_is) (c.is_aimed.ensures ∙ aims-counted g.S.Server.meaning (seats_of c.self.inside.seats.entries) c.self.inside.aims.entries c.self.invariant.kept.aims c.args.node)
