use Rattle.std.proofs.Common.{refl}
use Rattle.hurd_client.proofs.OpeningLaws.{ends, goes_on}
use Rattle.hurd_client.proofs.opening.Opening.started.Goals as goal

pub returns-in-Ok-clause-opening : goal.returns-in-Ok-clause-opening
returns-in-Ok-clause-opening c = rw c.in-Ok.is (goes_on c.args.self _)

pub returns-in-Err-clause-opening : goal.returns-in-Err-clause-opening
returns-in-Err-clause-opening c = rw c.in-Err.is (ends c.args.self c.args.self.way _ refl)
