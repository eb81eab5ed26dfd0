-- In a path that is no longer than a name may be no name is too long.
use Rattle.std.proofs.Common.{arith}
use Rattle.std.proofs.lemmas.Bool.Decides.{nat_tests}
use Rattle.hurd_lookup.proofs.PathLaws.{short_names}
use Rattle.hurd_lookup.proofs.path.is_short.Goals as goal

pub returns-then-path-le-MOST_NAME : goal.returns-then-path-le-MOST_NAME
returns-then-path-le-MOST_NAME c =
    let short = short_names c.args.path.now c.if-path-le-MOST_NAME.true in
    rw short (grind (arith, nat_tests, c.if-path-le-MOST_NAME.true))
