use Rattle.std.proofs.Common.{refl}
use Rattle.hurd_pictures.specs.Tasks.{seat_text, seats_text}
use Rattle.hurd_views.proofs.SeatLaws.{seats_here, seats_past}
use Rattle.hurd_pictures.proofs.tasks.push_seats.Goals as goal

pub returns-in_default : goal.returns-in_default
returns-in_default c =
    let told = seats_text c.args.titles.now c.args.view.now in
    seats_past (seat_text c.args.titles.now c.args.view.now) told refl (λ t us. refl) c.args.tasks.now c.args.rows.now c.loop-i.i c.loop-i.text.items _ c.in_default.ensures.lookup.3 c.loop-i.invariant

pub loop-i-preserved : goal.loop-i-preserved
loop-i-preserved c =
    let told = seats_text c.args.titles.now c.args.view.now in
    seats_here (seat_text c.args.titles.now c.args.view.now) told (λ t x ts xs. refl) c.args.tasks.now c.args.rows.now c.loop-i.i _ c.in-Some.row.now c.loop-i.text.items _ _ c.loop-i-test.true
    c.in-Some.ensures.lookup.3.0 c.in-Some.ensures.lookup.1 c.in_ok-push_seat.ensures c.loop-i.invariant
