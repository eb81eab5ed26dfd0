-- The one that is to be started first is sought with the ids of the task.
use Rattle.std.proofs.Common.{inl, inr}
use Rattle.std.proofs.lemmas.Result.{err_from_is_err_and}
use Rattle.hurd_core.specs.Core.{world_of}
use Rattle.hurd_lookup.specs.Seeking.{start_at}
use Rattle.hurd_lookup.proofs.SeekingLaws.{sooner_is, sooner_not}
use Rattle.hurd_lookup.proofs.lookup.sooner.Goals as goal

pub returns-in_err-first-in-Starts : goal.returns-in_err-first-in-Starts
returns-in_err-first-in-Starts g c =
    let w = world_of g.S.Server.meaning c.args.core.now in
    let p = err_from_is_err_and c.from_residual-in_err-first-in-Starts.result c.from_residual-in_err-first-in-Starts.ensures.1 in
    rw (p.1, p.2, c.in-Starts.is) (elim c.in_err-first-in-Starts.ensures [
      | inl refused ↦ inl (sooner_not w c.args.task.0 (start_at w c.in-Starts.node) _ c.in_ok-ids-in-Starts.ensures _ refused)
      | inr lacks ↦ inr lacks
    ])

pub returns-in_ok-first-in-Starts : goal.returns-in_ok-first-in-Starts
returns-in_ok-first-in-Starts g c =
    let w = world_of g.S.Server.meaning c.args.core.now in
    let found = c.in_ok-first-in-Starts.ensures in
    rw c.in-Starts.is (sooner_is w c.args.task.0 (start_at w c.in-Starts.node) _ c.in_ok-ids-in-Starts.ensures _ found.0, found.1 (rw c.in-Starts.is at c.requires))
