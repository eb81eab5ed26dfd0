use Rattle.hurd_nodes.proofs.WholeLaws.{whole-left}
use Rattle.hurd_nodes.proofs.nodes.Nodes.take_server.Goals as goal

pub invariant_of-self : goal.invariant_of-self
invariant_of-self g c =
    let e = c.remove_server-self-inside.ensures in
    whole-left g.S.Server.meaning _ _ _ _ _ _ _ _ c.args.server e.is e.kept (λ x b. (e.less x b).1) c.self.invariant
