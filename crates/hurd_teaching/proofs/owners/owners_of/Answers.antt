use Rattle.hurd_teaching.proofs.OwnerLaws.{names_past, owners_here, tasks_past}
use Rattle.hurd_teaching.proofs.owners.owners_of.Goals as goal

pub returns-in_default : goal.returns-in_default
returns-in_default c = tasks_past c.args.names.now c.args.seats.now c.loop-i.i c.loop-i.owners.items _ c.in_default.ensures.lookup.3 c.loop-i.invariant

pub loop-i-preserved : goal.loop-i-preserved
loop-i-preserved c =
    owners_here c.args.names.now c.args.seats.now c.loop-i.i c.loop-i.owners.items _ c.index-names-i.result c.in-Some.seat.now _ c.loop-i-test.true c.in-Some.ensures.lookup.3.0 c.index-names-i.is c.in-Some.ensures.lookup.1
    c.in_ok-add_owner.ensures c.loop-i.invariant

pub returns : goal.returns
returns c = names_past c.args.names.now c.args.seats.now c.loop-i.i c.loop-i.owners.items _ c.loop-i-test.false c.loop-i.invariant
