use Rattle.std.proofs.Common.{◌≡◌, drop}
use Rattle.hurd_pictures.specs.Found.{first_sought}
use Rattle.hurd_pictures.proofs.names.Sought.first.Given as goal

abbrev pub invariant-loop-i : goal.invariant-loop-i
invariant-loop-i l = first_sought l.view l.self (drop l.i l.view.rows) ≡ first_sought l.view l.self l.fn.view.rows
