-- The ids of the task, and what is found with what is lent of them.
use Rattle.std.proofs.Common.{List, Vec, inl, subst}
use Rattle.std.specs.Prelude.{Result}
use Rattle.std.specs.Global.{Global}
use Rattle.std.proofs.lemmas.Result.{err_from_is_err_and}
use Rattle.hurd_machine.proofs.Common.{EBUSY, Errno, IdSets, Name, task_at}
use Rattle.hurd_core.specs.Core.{world_of}
use Rattle.hurd_lookup.specs.Lent.{lent}
use Rattle.hurd_creds.specs.Memory.{MeetsOr}
use Rattle.hurd_fsys.specs.Aims.{HasTargets, aims_asks}
use Rattle.hurd_lookup.proofs.RoomLaws.{ids_had, ids_not}
use Rattle.hurd_fsys.proofs.starting.start_aims.Goals as goal

pub returns-in_err-ids : goal.returns-in_err-ids
returns-in_err-ids g c =
    let w = world_of g.S.Server.meaning c.args.core.now in
    let m = g.S.Server.meaning c.args.server.now in
    let p = err_from_is_err_and c.from_residual.result c.from_residual.ensures.1 in
    let f = λ (ids : IdSets). aims_asks EBUSY w (lent ids c.args.owner) m in
    rw (p.1, p.2) (inl (ids_not f (task_at w c.args.task.0) _ c.in_err-ids.ensures))

pub returns : goal.returns
returns g c =
    let w = world_of g.S.Server.meaning c.args.core.now in
    let m = g.S.Server.meaning c.args.server.now in
    let f = λ (ids : IdSets). aims_asks EBUSY w (lent ids c.args.owner) m in
    subst (λ (r : Result (List Name) Errno). MeetsOr {B = Vec Name Global} (HasTargets m) (λ nodes. nodes.items) r c.aims.result) (ids_had f (task_at w c.args.task.0) c.in_ok-ids.ids.now c.in_ok-ids.ensures) c.aims.ensures
