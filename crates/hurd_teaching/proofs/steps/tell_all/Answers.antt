use Rattle.std.proofs.Common.{arith}
use Rattle.std.proofs.lemmas.Result.{err_from_is_err_and}
use Rattle.hurd_teaching.proofs.Following.{fewer, following_cut, following_done, following_more, following_none}
use Rattle.hurd_teaching.proofs.steps.tell_all.Goals as goal

pub steps-init : goal.steps-init
steps-init g c = record { told = following_none _ _ _ (g.T.Telling.way c.args.telling.now) _ _ _ c.requires.anew; sound = c.requires.sound }

pub tell_next-requires-clause-seen : goal.tell_next-requires-clause-seen
tell_next-requires-clause-seen g c = c.steps.invariant.told.seen

pub tell_next-requires-clause-sound : goal.tell_next-requires-clause-sound
tell_next-requires-clause-sound g c = c.steps.invariant.sound

pub steps-preserved : goal.steps-preserved
steps-preserved g c =
    let told = rw c.if-not-branch.false at c.in_ok-tell_next.ensures.ok in
    record {
      told = following_more _ _ _ (g.T.Telling.way c.args.telling.now) _ _ (g.T.Telling.way c.steps.telling) _ _ _ c.steps.invariant.told (g.T.Telling.way c.tell_next.new.telling) _ _ _ told;
      sound = c.in_ok-tell_next.ensures.sound;
    }

pub steps-smaller : goal.steps-smaller
steps-smaller g c =
    let told = rw c.if-not-branch.false at c.in_ok-tell_next.ensures.ok in
    let less = fewer _ _ _ (g.T.Telling.way c.steps.telling) (g.T.Telling.way c.tell_next.new.telling) _ _ _ _ _ told in
    omega (arith, less)

pub returns-then-not-branch-clause-ok : goal.returns-then-not-branch-clause-ok
returns-then-not-branch-clause-ok g c =
    let none = rw c.if-not-branch.true at c.in_ok-tell_next.ensures.ok in
    following_done _ _ _ (g.T.Telling.way c.args.telling.now) _ _ (g.T.Telling.way c.steps.telling) _ _ _ c.steps.invariant.told (g.T.Telling.way c.tell_next.new.telling) _ _ _ none

pub returns-in_err-tell_next-clause-err : goal.returns-in_err-tell_next-clause-err
returns-in_err-tell_next-clause-err g c =
    let p = err_from_is_err_and c.from_residual.result c.from_residual.ensures.1 in
    let failed = c.in_err-tell_next.ensures.err in
    rw (p.1, p.2) (failed.0, following_cut _ _ _ (g.T.Telling.way c.args.telling.now) _ _ (g.T.Telling.way c.steps.telling) _ _ _ c.steps.invariant.told _ failed.1)
