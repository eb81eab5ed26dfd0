use Rattle.std.proofs.Common.{arith}
use Rattle.std.proofs.lemmas.Grind.{common_steps}
use Rattle.hurd_trans_iface.proofs.Sayings.{begun-fits, begun-kind}
use Rattle.hurd_trans_iface.proofs.begun.begun_by.Goals as goal

pub returns-in-len1-up-clause-begins : goal.returns-in-len1-up-clause-begins
returns-in-len1-up-clause-begins c = grind (arith, common_steps)

pub returns-in-len1-up-clause-fit : goal.returns-in-len1-up-clause-fit
returns-in-len1-up-clause-fit c = begun-fits c.args.words.now c.named.result (returns-in-len1-up-clause-begins c)

pub returns-in-len1-up-clause-kind : goal.returns-in-len1-up-clause-kind
returns-in-len1-up-clause-kind c = begun-kind c.args.words.now c.named.result (returns-in-len1-up-clause-begins c)
