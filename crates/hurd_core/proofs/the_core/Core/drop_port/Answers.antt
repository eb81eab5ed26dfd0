-- The ports without the port, and what is left of the nodes, are the world without it.
use Rattle.std.proofs.lemmas.Result.{err_from_is_err_and}
use Rattle.std.proofs.Common.{refl}
use Rattle.hurd_nodes.specs.Shown.{shown}
use Rattle.hurd_core.proofs.CoreLaws.{drop-follows}
use Rattle.std.proofs.Common.{sym, arith}
use Rattle.hurd_core.proofs.UserLaws.{dropped_counts}
use Rattle.hurd_core.proofs.the_core.Core.drop_port.Goals as goal

pub returns-in_err-deallocate : goal.returns-in_err-deallocate
returns-in_err-deallocate g c =
    let p = err_from_is_err_and c.from_residual.result c.from_residual.ensures.1 in
    rw (p.1, p.2, ← c.self.view_is)
    (drop-follows (shown g.S.Server.meaning c.self.inside.nodes) c.self.inside.ports.state c.args.task.0 c.args.port _ _ _ c.in_err-deallocate.ensures.answer refl)

pub returns : goal.returns
returns g c =
    rw (← c.self.view_is)
    (drop-follows (shown g.S.Server.meaning c.self.inside.nodes) c.self.inside.ports.state c.args.task.0 c.args.port _ _ _ c.in_ok-deallocate.ensures.answer c.settle.ensures)

pub subtract-requires : goal.subtract-requires
subtract-requires g c s =
    let lost = dropped_counts (shown g.S.Server.meaning c.self.inside.nodes) c.self.inside.ports.state _ c.args.task.0 s c.args.port _ (sym c.in_ok-deallocate.ensures.answer) in
    let server = rw (← c.self.view_is) at c.home_used-server.ensures in
    rw server (omega (arith, lost, c.self.invariant s))

pub invariant_of-self-2 : goal.invariant_of-self-2
invariant_of-self-2 g c s =
    let lost = dropped_counts (shown g.S.Server.meaning c.self.inside.nodes) c.self.inside.ports.state _ c.args.task.0 s c.args.port _ (sym c.in_ok-deallocate.ensures.answer) in
    let server = rw (← c.self.view_is) at c.home_used-server.ensures in
    let less = rw server at c.subtract.ensures.less s in
    omega (arith, lost, less, c.self.invariant s)
