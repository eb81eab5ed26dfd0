use Rattle.hurd_teaching.specs.Watched.{Watched}
use Rattle.std.proofs.Common.{ap}
use Rattle.hurd_teaching.proofs.WatchLaws.{sees_first}
use Rattle.hurd_teaching.proofs.watch.Watch.look.Goals as goal

pub returns-in_ok-view-clause-ok : goal.returns-in_ok-view-clause-ok
returns-in_ok-view-clause-ok g c =
    sees_first (λ v. v.value) c.self.inside.seen _ _ c.args.self.now.seen c.keep.new.self.seen c.in_ok-view.view.value c.is_none.result (ap (λ (w : Watched). w.seen) c.self.view_is) c.is_none.ensures c.if-is_none.true
    c.keep.ensures c.in_ok-view.ensures
