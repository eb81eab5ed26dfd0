use Rattle.std.proofs.Common.{◌≡◌, List, [], length, true, sym, ap, ap₂, arith, length-append}
use Rattle.std.proofs.lemmas.Bool.Decides.{nat_tests}
use Rattle.hurd_creds.specs.declared.errno.Errno.{Errno}
use Rattle.std.proofs.lemmas.Grind.{common_steps}
use Rattle.std.proofs.lemmas.List.{nil_from_length}
use Rattle.std.specs.Vec.Iter.{into_iter_items}
use Rattle.std.specs.Prelude.{None, Ok, Result, nat_le}
use Rattle.hurd_ports.specs.Tables.{Task, PortState, Tables}
use Rattle.hurd_ports.specs.Steps.{starting_at}
use Rattle.hurd_ports.specs.Seats.{state_of}
use Rattle.hurd_ports.specs.declared.table.Port.{Port}
use Rattle.hurd_ports.specs.declared.table.Right.{Right}
use Rattle.hurd_ports.proofs.SeatLaws.{started, seat-pushed}
use Rattle.hurd_ports.proofs.CountLaws.{counted-starting}
use Rattle.hurd_ports.proofs.SoundLaws.{sound-starting}
use Rattle.hurd_ports.proofs.ports.Ports.starting_at.Goals as goal

pub loop-ids-preserved : goal.loop-ids-preserved
loop-ids-preserved c = record {
  can = tt;
  ends = tt;
  all = grind (arith, common_steps);
  seats =
      let empty =
      ap₂ (λ (ps : List Port) (rs : List Right). let x : Task = record { ids = c.in-Some.ids; ports = ps; next = c.args.next; inbox = rs; made = 0; pending = None } in x) c.new.ensures.items c.new-in-loop-ids.ensures.items in
      rw (c.push_reserved.ensures.items) (seat-pushed c.loop-ids.seats.items _ c.loop-ids.yielded c.in-Some.ids c.args.next c.loop-ids.invariant.seats empty);
  room = omega (arith, c.in-Some.ensures.steps.1);
}

-- what the seats and no opens stand for
begun : (c : goal.After-new-3) → state_of c.new-2.result.all c.loop-ids.seats.items ≡ starting_at c.args.tasks.items c.args.next
begun c =
    let end : into_iter_items c.loop-ids.ids-iterator ≡ [] = nil_from_length _ (omega (arith, c.in-None.ensures.steps.0, c.loop-ids.ids-iterator.rest.ok.0)) in
    started c.new-2.result.all c.loop-ids.seats.items c.args.tasks.items c.loop-ids.yielded _ c.args.next c.new-2.ensures c.loop-ids.invariant.seats c.loop-ids.invariant.all end

pub returns : goal.returns
returns c =
    let within : nat_le (length c.args.tasks.items) 64 ≡ true = grind (arith, nat_tests, c.if-len-gt-MOST_TASKS.false, c.len.ensures, c.args.tasks.ok.0) in
    rw within (ap (λ (h : PortState). let p : Result Tables Errno = Ok (record { state = h; ready = None }) in p) (sym (begun c)))

pub invariant_of-result : goal.invariant_of-result
invariant_of-result c = record {
  sound = rw (begun c) (sound-starting c.args.tasks.items c.args.next);
  counted = counted-starting c.loop-ids.seats.items c.loop-ids.yielded c.args.next c.new-3.result c.new-3.ensures c.loop-ids.invariant.seats
      (let all = ap length c.loop-ids.invariant.all in
      let parts = length-append c.loop-ids.yielded (into_iter_items c.loop-ids.ids-iterator) in
      omega (arith, c.if-len-gt-MOST_TASKS.false, c.len.ensures, c.args.tasks.ok.0));
  spare = tt;
}
