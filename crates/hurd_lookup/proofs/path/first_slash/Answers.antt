-- The first slash, or the end.
use Rattle.std.proofs.Common.{sym}
use Rattle.hurd_lookup.proofs.PathLaws.{position_some, position_none}
use Rattle.hurd_lookup.proofs.path.first_slash.Goals as goal

pub returns-in-Some : goal.returns-in-Some
returns-in-Some c = position_some c.args.path.now _ (sym c.in-Some.ensures)

pub returns-in-None : goal.returns-in-None
returns-in-None c = position_none c.args.path.now (sym c.in-None.ensures)
