use Rattle.hurd_small.proofs.LoneLaws.{find-forgotten}
use Rattle.hurd_small.proofs.presence.Presence.find.Goals as goal

pub returns-in-Forgotten-clause-found : goal.returns-in-Forgotten-clause-found
returns-in-Forgotten-clause-found c = λ kind text held. find-forgotten kind text held c.args.self.now c.args.node c.in-Forgotten.field-0 c.in-Forgotten.is
