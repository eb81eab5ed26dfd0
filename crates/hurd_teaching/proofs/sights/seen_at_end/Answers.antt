use Rattle.std.proofs.Common.{◌∙◌}
use Rattle.hurd_teaching.proofs.sights.seen_at_end.Goals as goal

pub returns : goal.returns
returns g c = rw (c.world.ensures ∙ c.in_ok-play_silently.ensures) at c.shown.ensures
