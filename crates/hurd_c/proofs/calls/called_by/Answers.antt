use Rattle.hurd_numbers.specs.Calls.{numbered}
use Rattle.hurd_c.proofs.CallLaws.{unread}
use Rattle.hurd_c.proofs.calls.called_by.Goals as goal

pub returns-in-Err-Memory-clause-called : goal.returns-in-Err-Memory-clause-called
returns-in-Err-Memory-clause-called c = rw c.unanswered-in-Err-Memory.ensures (unread (numbered c.args.numbers.now c.args.bytes.now) c.args.sitting.now c.args.out.now)
