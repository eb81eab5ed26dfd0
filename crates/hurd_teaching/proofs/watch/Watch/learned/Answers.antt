use Rattle.std.proofs.Common.{Option, ap, subst}
use Rattle.hurd_views.specs.declared.view.View.{View}
use Rattle.hurd_teaching.specs.Watched.{LearnedSince, Watched}
use Rattle.hurd_teaching.proofs.watch.Watch.learned.Goals as goal

pub returns-clause-ok : goal.returns-clause-ok
returns-clause-ok g c =
    let after = c.in_ok-after.after.value in
    let seen = ap (λ (w : Watched). w.seen) c.self.view_is in
    record {
      view = after;
      kept = c.keep.ensures;
      sees = c.in_ok-after.ensures;
      learned = subst (λ (o : Option View). LearnedSince c.args.who.now o after c.in_ok-learned.learned) seen (rw c.deref.ensures at c.in_ok-learned.ensures);
    }
