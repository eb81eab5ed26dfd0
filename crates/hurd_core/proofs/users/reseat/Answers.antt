use Rattle.std.proofs.Common.{arith}
use Rattle.hurd_creds.proofs.NameLaws.{same_name-itself}
use Rattle.hurd_core.proofs.users.reseat.Goals as goal

pub add-requires-clause-fits : goal.add-requires-clause-fits
add-requires-clause-fits c = let none = rw (same_name-itself c.args.server) at (c.forget-2.ensures.none c.args.server) in omega (arith, none)
