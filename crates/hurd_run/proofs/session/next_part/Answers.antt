use Rattle.hurd_shell.specs.Session.{has_failed}
use Rattle.hurd_world.proofs.NotingLaws.{notes_trans}
use Rattle.hurd_shell.specs.declared.fault.SessionFault.TheVariants.{Memory}
use Rattle.hurd_shell.proofs.GivenLaws.{was_fine}
use Rattle.hurd_run.proofs.AskedLaws.{asked_end, asked_fewer, asked_more, asked_part, asked_waits, asking_none, made_begins}
use Rattle.hurd_run.proofs.session.next_part.Goals as goal

pub asked-init : goal.asked-init
asked-init c = asking_none c.args.session.now

pub returns-in-Ok-Output-clause-goes : goal.returns-in-Ok-Output-clause-goes
returns-in-Ok-Output-clause-goes c = λ names.
    let fine = was_fine (has_failed c.asked.session) c.in-Ok-Output.field-0 Memory c.in-Ok-Output.ensures.stays in
    asked_part c.args.session.now c.asked.session c.next.new.self c.asked.invariant fine c.in-Ok-Output.answer (rw c.in-Ok-Output.field-0-is at (c.in-Ok-Output.ensures.tells fine)) names

pub returns-in-Ok-Done-clause-goes : goal.returns-in-Ok-Done-clause-goes
returns-in-Ok-Done-clause-goes c = λ names.
    let fine = was_fine (has_failed c.asked.session) c.in-Ok-Done.field-0 Memory c.in-Ok-Done.ensures.stays in
    asked_end c.args.session.now c.asked.session c.next.new.self c.asked.invariant fine (rw c.in-Ok-Done.field-0-is at (c.in-Ok-Done.ensures.tells fine)) names

pub answer-requires-clause-begins : goal.answer-requires-clause-begins
answer-requires-clause-begins c = made_begins c.in-Ok-Server.words c.in_ok-server-in-Ok-Server.server c.in_ok-server-in-Ok-Server.ensures

pub answer-requires-clause-waits : goal.answer-requires-clause-waits
answer-requires-clause-waits c =
    let fine = was_fine (has_failed c.asked.session) c.in-Ok-Server.field-0 Memory c.in-Ok-Server.ensures.stays in
    asked_waits c.args.session.now c.asked.session c.next.new.self c.asked.invariant fine c.in-Ok-Server.words (rw c.in-Ok-Server.field-0-is at (c.in-Ok-Server.ensures.tells fine)) c.in_ok-server-in-Ok-Server.server c.in_ok-server-in-Ok-Server.ensures

pub asked-preserved : goal.asked-preserved
asked-preserved c =
    let fine = was_fine (has_failed c.asked.session) c.in-Ok-Server.field-0 Memory c.in-Ok-Server.ensures.stays in
    asked_more c.args.session.now c.asked.session c.next.new.self c.asked.invariant fine c.in-Ok-Server.words (rw c.in-Ok-Server.field-0-is at (c.in-Ok-Server.ensures.tells fine)) c.in_ok-server-in-Ok-Server.server c.in_ok-server-in-Ok-Server.ensures
    c.answer.new.self c.answer.ensures.takes c.in-Ok-Server.ensures.noted c.answer.ensures.noted

pub asked-smaller : goal.asked-smaller
asked-smaller c =
    let fine = was_fine (has_failed c.asked.session) c.in-Ok-Server.field-0 Memory c.in-Ok-Server.ensures.stays in
    asked_fewer c.args.session.now c.asked.session c.next.new.self c.asked.invariant fine c.in-Ok-Server.words (rw c.in-Ok-Server.field-0-is at (c.in-Ok-Server.ensures.tells fine)) c.in_ok-server-in-Ok-Server.server c.in_ok-server-in-Ok-Server.ensures
    c.answer.new.self c.answer.ensures.takes

pub returns-in-Ok-Output-clause-noted : goal.returns-in-Ok-Output-clause-noted
returns-in-Ok-Output-clause-noted c =
    let fine = was_fine (has_failed c.asked.session) c.in-Ok-Output.field-0 Memory c.in-Ok-Output.ensures.stays in
    notes_trans (c.asked.invariant.noted fine) c.in-Ok-Output.ensures.noted

pub returns-in-Ok-Done-clause-noted : goal.returns-in-Ok-Done-clause-noted
returns-in-Ok-Done-clause-noted c =
    let fine = was_fine (has_failed c.asked.session) c.in-Ok-Done.field-0 Memory c.in-Ok-Done.ensures.stays in
    notes_trans (c.asked.invariant.noted fine) c.in-Ok-Done.ensures.noted
