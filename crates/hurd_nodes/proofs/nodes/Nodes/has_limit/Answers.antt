use Rattle.hurd_nodes.proofs.StayLaws.{info-found}
use Rattle.hurd_nodes.proofs.nodes.Nodes.has_limit.Goals as goal

pub returns-in-Some : goal.returns-in-Some
returns-in-Some g c = rw (← c.self.view_is, info-found g.S.Server.meaning _ _ _ _ c.in-Some.ensures.is c.index.ensures) c.has_limit.ensures
