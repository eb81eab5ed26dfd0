use Rattle.hurd_shell.proofs.LookLaws.{call_leads}
use Rattle.hurd_shell.proofs.looking.turn.Goals as goal

pub returns-clause-comes : goal.returns-clause-comes
returns-clause-comes g c =
    let stepped = rw c.into_call.ensures at c.in_ok-reply.ensures.ok in
    record { reaches = call_leads c.requires.0.1 stepped c.in_ok-replied.ensures.turn }
