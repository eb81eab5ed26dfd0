use Rattle.std.proofs.Common.{◌∙◌, refl}
use Rattle.hurd_client.specs.Openings.{call_of, opening_of, turn_on}
use Rattle.hurd_client.specs.declared.opening.Turn.TheVariants as turn
use Rattle.hurd_kinds.specs.Boxes.{box_meaning}
use Rattle.hurd_lists.specs.Lists.{listed_by}
use Rattle.hurd_machine.specs.Calls.{reply_by}
use Rattle.hurd_machine.specs.declared.call.Call.TheVariants.{Plain}
use Rattle.hurd_sitting.proofs.OpenLaws.{come_call, come_end, come_failed, come_none, come_not_started, come_started, come_stopped, come_turn, if_err}
use Rattle.hurd_sitting.proofs.opening.open.Goals as goal

pub turns-init : goal.turns-init
turns-init c = record { come = come_none _ _ _ _ _; same = refl }

pub returns-in_err-end-clause-err : goal.returns-in_err-end-clause-err
returns-in_err-end-clause-err c = if_err _ (come_stopped c.turns.invariant.come)

pub returns-in-Ends-clause-ok : goal.returns-in-Ends-clause-ok
returns-in-Ends-clause-ok c = come_end c.turns.invariant.come c.in-Ends.end (rw c.in-Ends.is at c.in_ok-end.ensures)

pub returns-in_err-call-in-Call-clause-err : goal.returns-in_err-call-in-Call-clause-err
returns-in_err-call-in-Call-clause-err c = if_err _ (come_stopped c.turns.invariant.come)

pub returns-in_err-reply-in-Call-clause-err : goal.returns-in_err-reply-in-Call-clause-err
returns-in_err-reply-in-Call-clause-err c =
    let next = rw c.in-Call.is at c.in_ok-end.ensures in
    let lost = c.in_err-reply-in-Call.ensures.err in
    rw lost.0 (if_err _ (come_failed c.turns.invariant.come (Plain (call_of c.in-Call.call)) next.0.0 next.0.1 (listed_by box_meaning c.in_ok-call-in-Call.call) _ c.in_ok-call-in-Call.ensures lost.1))

pub returns-in_err-next-in-Call-clause-err : goal.returns-in_err-next-in-Call-clause-err
returns-in_err-next-in-Call-clause-err c =
    let next = rw c.in-Call.is at c.in_ok-end.ensures in
    let told = rw c.turns.invariant.same at c.in_ok-reply-in-Call.ensures.ok in
    if_err _ (come_stopped (come_call c.turns.invariant.come (Plain (call_of c.in-Call.call)) next.0.0 next.0.1 (listed_by box_meaning c.in_ok-call-in-Call.call) (reply_by box_meaning c.in_ok-reply-in-Call.reply) _ _
    c.in_ok-call-in-Call.ensures told))

pub turns-preserved-in-Onward : goal.turns-preserved-in-Onward
turns-preserved-in-Onward c =
    let next = rw c.in-Call.is at c.in_ok-end.ensures in
    let told = rw c.turns.invariant.same at c.in_ok-reply-in-Call.ensures.ok in
    let turned = rw c.in-Onward.is at c.in_ok-next-in-Call.ensures.turn in
    record {
      come = come_turn c.turns.invariant.come (Plain (call_of c.in-Call.call)) next.0.0 next.0.1 (listed_by box_meaning c.in_ok-call-in-Call.call) (reply_by box_meaning c.in_ok-reply-in-Call.reply) _ _
          (opening_of c.in-Onward.next) c.in_ok-call-in-Call.ensures told turned;
      same = c.tell.ensures.learners ∙ c.turns.invariant.same;
    }

pub returns-in_err-answer-in-Starts-clause-err : goal.returns-in_err-answer-in-Starts-clause-err
returns-in_err-answer-in-Starts-clause-err c =
    let next = rw c.in-Call.is at c.in_ok-end.ensures in
    let told = rw c.turns.invariant.same at c.in_ok-reply-in-Call.ensures.ok in
    let turned = rw c.in-Starts.is at c.in_ok-next-in-Call.ensures.turn in
    let lost = c.in_err-answer-in-Starts.ensures.err in
    let come = come_turn c.turns.invariant.come (Plain (call_of c.in-Call.call)) next.0.0 next.0.1 (listed_by box_meaning c.in_ok-call-in-Call.call) (reply_by box_meaning c.in_ok-reply-in-Call.reply) _ _
    (turn_on (turn.Starts c.in-Starts.words c.in-Starts.waiting)) c.in_ok-call-in-Call.ensures told turned in
    rw lost.0 (if_err _ (come_not_started come c.in-Starts.words c.in-Starts.waiting refl _ lost.1))

pub turns-preserved : goal.turns-preserved
turns-preserved c =
    let next = rw c.in-Call.is at c.in_ok-end.ensures in
    let told = rw c.turns.invariant.same at c.in_ok-reply-in-Call.ensures.ok in
    let turned = rw c.in-Starts.is at c.in_ok-next-in-Call.ensures.turn in
    let same = c.tell.ensures.learners ∙ c.turns.invariant.same in
    let started = rw same at c.in_ok-answer-in-Starts.ensures.ok in
    let come = come_turn c.turns.invariant.come (Plain (call_of c.in-Call.call)) next.0.0 next.0.1 (listed_by box_meaning c.in_ok-call-in-Call.call) (reply_by box_meaning c.in_ok-reply-in-Call.reply) _ _
    (turn_on (turn.Starts c.in-Starts.words c.in-Starts.waiting)) c.in_ok-call-in-Call.ensures told turned in
    record { come = come_started come c.in-Starts.words c.in-Starts.waiting refl _ _ _ (opening_of c.started-opening.result) started c.started-opening.ensures.opening; same = c.start.ensures.learners ∙ same }
