-- Room, and leave.
use Rattle.std.proofs.Common.{sym, ap}
use Rattle.std.proofs.lemmas.Result.{err_from_is_err_and}
use Rattle.hurd_nodes.specs.Shown.{shown}
use Rattle.hurd_core.specs.Core.{asked_only}
use Rattle.hurd_core.specs.ToMake.{new_node_of}
use Rattle.hurd_core.proofs.MakingLaws.{no-room, file-asked}
use Rattle.hurd_core.proofs.the_core.Core.can_make_file.Goals as goal

pub returns-in_err-room : goal.returns-in_err-room
returns-in_err-room g c =
    let N = shown g.S.Server.meaning c.self.inside.nodes in
    let p = err_from_is_err_and c.from_residual.result c.from_residual.ensures.1 in
    rw (p.1, p.2, ← c.self.view_is) (sym (ap asked_only (no-room N c.self.inside.ports.state c.args.task.0 (new_node_of c.args.file.now) _ (sym c.in_err-room.ensures.room))))

pub returns : goal.returns
returns g c =
    let N = shown g.S.Server.meaning c.self.inside.nodes in
    rw (← c.self.view_is)
    (file-asked N c.self.inside.ports.state c.args.task.0 (new_node_of c.args.file.now) (sym c.in_ok-room.ensures.room) c.can_make.result c.can_make.ensures)
