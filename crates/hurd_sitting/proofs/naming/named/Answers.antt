use Rattle.hurd_sitting.proofs.NumberLaws.{no_text}
use Rattle.hurd_sitting.proofs.naming.named.Goals as goal

pub returns-in_default-clause-err : goal.returns-in_default-clause-err
returns-in_default-clause-err c = no_text c.args.count c.args.who.now c.in_default.ensures.cases.0
