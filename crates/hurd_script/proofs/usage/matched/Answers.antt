use Rattle.std.proofs.lemmas.Bool.{and_parts}
use Rattle.hurd_script.proofs.usage.matched.Goals as goal

pub returns-in-Ok : goal.returns-in-Ok
returns-in-Ok c = (c.in-Ok.ensures.kinds c.requires, (c.in-Ok.ensures.matches (and_parts _ _ c.requires).0).0)
