use Rattle.std.proofs.Common.{ap}
use Rattle.hurd_machine.proofs.Common.{Task}
use Rattle.hurd_ports.specs.Seats.{seat_task}
use Rattle.hurd_looks.proofs.MeetLaws.{ok_then, pairs_as, pairs_both, pairs_never, pairs_no, said_no, said_yes}
use Rattle.hurd_looks.proofs.SplitLaws.{task_numbers, task_split}
use Rattle.hurd_looks.proofs.rights.meet_seats.Goals as goal

pub returns-then-not-same_numbers : goal.returns-then-not-same_numbers
returns-then-not-same_numbers c =
    pairs_never _ (λ g e. said_no c.same_numbers.ensures c.if-not-same_numbers.true (task_numbers g (seat_task c.args.seat.now) (seat_task c.args.other.now) e)) _ _

pub returns-then-not-branch : goal.returns-then-not-branch
returns-then-not-branch c = pairs_no _ _ (λ g e. ap (λ (x : Task). x.ports) e) _ _ _ c.if-not-branch.true (rw (c.as_slice.ensures.value, c.as_slice-2.ensures.value) at c.in_ok-meet_all.ensures)

pub returns-then-not-branch-2 : goal.returns-then-not-branch-2
returns-then-not-branch-2 c =
    pairs_no _ _ (λ g e. (ap (λ (x : Task). x.ports) e, ap (λ (x : Task). x.inbox) e)) _ _ _ c.if-not-branch-2.true
    (pairs_both _ _ _ _ _ _ _ c.if-not-branch.false (rw (c.as_slice.ensures.value, c.as_slice-2.ensures.value) at c.in_ok-meet_all.ensures) (rw (c.as_slice-3.ensures.value, c.as_slice-4.ensures.value) at c.in_ok-meet_all-2.ensures))

pub returns : goal.returns
returns c =
    let same = said_yes c.same_numbers.ensures c.if-not-same_numbers.false in
    ok_then _ _ (λ met h. pairs_as _ _ (λ g. task_split g (seat_task c.args.seat.now) (seat_task c.args.other.now) same) _ met _
    (pairs_both _ _ _ _ _ met _ c.if-not-branch.false (rw (c.as_slice.ensures.value, c.as_slice-2.ensures.value) at c.in_ok-meet_all.ensures) (pairs_both _ _ _ _ _ met _ c.if-not-branch-2.false (rw (c.as_slice-3.ensures.value, c.as_slice-4.ensures.value) at c.in_ok-meet_all-2.ensures) h))) c.meet.result c.meet.ensures
