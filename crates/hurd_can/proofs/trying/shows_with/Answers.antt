use Rattle.std.proofs.Common.{[], ◌∷◌}
use Rattle.std.specs.Prelude.{◌++◌}
use Rattle.hurd_can.proofs.TriedLaws.{with_more}
use Rattle.hurd_can.proofs.trying.shows_with.Goals as goal

pub returns : goal.returns
returns g c =
    rw (c.as_slice.ensures.value, c.in_ok-push_lines-2.ensures, c.in_ok-push_lines.ensures, c.in_ok-push.ensures.items, c.in_ok-text.ensures.items, ← with_more (c.args.trial.now.text.now ++ 10 ∷ []) c.args.first.now c.args.rest.now)
    at c.shows.ensures
