use Rattle.std.proofs.Common.{List, subst, sym}
use Rattle.hurd_creds.specs.declared.name.TaskId.{TaskId}
use Rattle.hurd_machine.specs.declared.call.Call as call
use Rattle.hurd_world.specs.Held.{AllBegun}
use Rattle.hurd_trials.proofs.ReadyLaws.{all-begun, brings}
use Rattle.hurd_trials.proofs.counts.at_once.add.Goals as goal

pub returns : goal.returns
returns g c =
    let items = rw c.in_ok-push-2.was at c.push-2.ensures.items in
    subst (λ (ms : List (TaskId × call.Call g.row.S.Denot)). AllBegun g.S.Server.meaning ms) (sym items)
    (all-begun g.S.Server.meaning c.args.ready.now.calls.items (c.args.listed.task, c.with_server-call.result) c.requires.before
    (c.with_server-call.ensures.begun (brings g.S.Server.meaning c.args.listed.server c.args.server c.requires.made)))
