use Rattle.std.proofs.Common.{◌∙◌, refl, sym, ap}
use Rattle.std.specs.Option.{option_copied, option_map}
use Rattle.hurd_ports.specs.Seats.{seat_task}
use Rattle.hurd_machine.specs.Renamed.{task_renamed}
use Rattle.hurd_looks.proofs.MeetLaws.{none_alone, none_meets, ok_then, some_alone, some_meets}
use Rattle.hurd_looks.proofs.rights.SeatRowMeet.meet.Goals as goal

pub returns-in-Some-Some : goal.returns-in-Some-Some
returns-in-Some-Some c =
    ok_then _ _ (λ met h. some_meets (λ f. task_renamed f 0) c.args.self.now c.args.other.now _ _ (seat_task c.in-Some-Some.seat.now) (seat_task c.in-Some-Some.other.now) met
    (sym c.seat.ensures ∙ ap (λ o. option_map seat_task (option_copied o)) c.in-Some-Some.is-0)
    (sym c.seat-2.ensures ∙ ap (λ o. option_map seat_task (option_copied o)) c.in-Some-Some.is-1) h) c.meet_seats.result c.meet_seats.ensures

pub returns-in-None-None : goal.returns-in-None-None
returns-in-None-None c = none_meets (λ f. task_renamed f 0) c.args.self.now c.args.other.now _ _
    (sym c.seat.ensures ∙ ap (λ o. option_map seat_task (option_copied o)) c.in-None-None.is-0) (sym c.seat-2.ensures ∙ ap (λ o. option_map seat_task (option_copied o)) c.in-None-None.is-1) refl

pub returns-in_default : goal.returns-in_default
returns-in_default c = some_alone (λ f. task_renamed f 0) c.args.self.now c.args.other.now _ _ (seat_task c.in_default.field-0-0.now)
    (sym c.seat.ensures ∙ ap (λ o. option_map seat_task (option_copied o)) c.in_default.is-0) (sym c.seat-2.ensures ∙ ap (λ o. option_map seat_task (option_copied o)) c.in_default.is-1)

pub returns-in_default-2 : goal.returns-in_default-2
returns-in_default-2 c = none_alone (λ f. task_renamed f 0) c.args.self.now c.args.other.now _ _ (seat_task c.in_default.field-0-1.now)
    (sym c.seat.ensures ∙ ap (λ o. option_map seat_task (option_copied o)) c.in_default.is-0) (sym c.seat-2.ensures ∙ ap (λ o. option_map seat_task (option_copied o)) c.in_default.is-1)
