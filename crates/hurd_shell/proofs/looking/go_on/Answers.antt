use Rattle.hurd_shell.proofs.LookLaws.{stopped_inside}
use Rattle.hurd_shell.proofs.ProgramLaws.{leads_reaches, leads_trans}
use Rattle.hurd_shell.proofs.looking.go_on.Goals as goal

pub returns-in_err-next-in-Call : goal.returns-in_err-next-in-Call
returns-in_err-next-in-Call g c = leads_reaches c.turns.invariant (stopped_inside c.from_residual-in_err-next-in-Call.ensures c.in_err-next-in-Call.ensures.comes)

pub turns-preserved : goal.turns-preserved
turns-preserved g c =
    let turned = rw c.in-Onward.is at c.in_ok-next-in-Call.ensures.comes in
    leads_trans c.turns.invariant turned.reaches

pub returns-in-Starts : goal.returns-in-Starts
returns-in-Starts g c =
    let turned = rw c.in-Starts.is at c.in_ok-next-in-Call.ensures.comes in
    leads_reaches c.turns.invariant (record { reaches = turned.reaches })
