use Rattle.std.proofs.Common.{◌∙◌}
use Rattle.hurd_nodes.specs.Held.{sites_of}
use Rattle.hurd_nodes.proofs.StayLaws.{stays-is}
use Rattle.hurd_nodes.proofs.nodes.Nodes.stays_at.Goals as goal

pub returns-in-Some : goal.returns-in-Some
returns-in-Some g c =
    let i = c.self.inside in
    let home = rw (← c.self.view_is) at c.requires.home in
    let serves = rw (← c.self.view_is) at c.requires.serves in
    c.has_reason.ensures
    ∙ rw (← c.self.view_is) (stays-is g.S.Server.meaning (sites_of i.sites.entries) i.seats.entries (g.N.Namings.outside c.args.namings.now) c.args.node c.args.server home c.in-Some.i c.index.result.now c.in-Some.ensures.is c.index.ensures serves)
