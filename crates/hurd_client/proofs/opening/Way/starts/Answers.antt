use Rattle.std.proofs.Common.{arith}
use Rattle.hurd_client.proofs.OpeningLaws.{begun_asks}
use Rattle.hurd_client.proofs.opening.Way.starts.Goals as goal

pub returns-clause-turn : goal.returns-clause-turn
returns-clause-turn c = begun_asks c.args.self.held.items c.args.self.how c.args.self.left c.args.target.port c.args.target.name c.args.words (omega (arith, c.if-self-eq0.false))
