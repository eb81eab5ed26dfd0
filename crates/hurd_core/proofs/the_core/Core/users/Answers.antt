use Rattle.std.proofs.Common.{◌∙◌}
use Rattle.hurd_core.proofs.the_core.Core.users.Goals as goal

pub returns : goal.returns
returns g c = rw (← c.self.view_is) (c.count.ensures ∙ c.self.invariant c.args.server)
