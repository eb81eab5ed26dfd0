use Rattle.std.proofs.Common.{Option, Some, None, arith}
use Rattle.std.specs.Prelude.{IfSome}
use Rattle.hurd_creds.specs.declared.name.Name.{Name}
use Rattle.hurd_core.proofs.users.rehouse.Goals as goal

-- what holds of all names holds of one that may be there
of_all : (P : Name → Type 0) (o : Option Name) → ((s : Name) → P s) → IfSome o P
of_all P None all = tt
of_all P (Some s) all = all s

pub add-requires-clause-fits : goal.add-requires-clause-fits
add-requires-clause-fits c = of_all _ c.args.now.server (λ s. omega (arith, c.subtract.ensures.less s, c.requires.fits s))
