use Rattle.std.proofs.Common.{sym}
use Rattle.hurd_nodes.specs.Held.{seats_of, sites_of, mean}
use Rattle.hurd_nodes.proofs.SpaceLaws.{total-found, total-none}
use Rattle.hurd_nodes.proofs.StayLaws.{info-absent}
use Rattle.hurd_nodes.proofs.nodes.Nodes.total_of.Goals as goal

pub returns-in-Some : goal.returns-in-Some
returns-in-Some g c =
    let i = c.self.inside in
    rw (← c.self.view_is, total-found g.S.Server.meaning i.sites.entries i.seats.entries c.self.invariant.hides c.args.server _ _ c.in-Some.ensures.is c.index.ensures) c.total_in.ensures

pub returns-in-None : goal.returns-in-None
returns-in-None g c =
    let i = c.self.inside in
    let f = g.S.Server.meaning in
    rw (← c.self.view_is) (sym (total-none (sites_of i.sites.entries) (mean f (seats_of i.seats.entries)) c.self.invariant.hides c.args.server (info-absent f i.seats.entries c.args.server c.in-None.ensures.is)))
