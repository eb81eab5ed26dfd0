use Rattle.std.proofs.Common.{List, ap, arith, length, ◌∙◌, sym, subst}
use Rattle.std.proofs.lemmas.Result.{err_from_is_err_and}
use Rattle.std.proofs.lemmas.List.{length-map}
use Rattle.hurd_machine.proofs.Common.{PortState, Task}
use Rattle.hurd_ports.specs.Seats.{seat_task}
use Rattle.hurd_world.specs.BootPort.{ids_in}
use Rattle.hurd_world.proofs.BootLaws.{Begun, room_first, room_second, begun_next, begun_first, begun_all}
use Rattle.hurd_world.proofs.boot.add_boot_ports.Goals as goal

pub loop-task-init : goal.loop-task-init
loop-task-init c = record {
  count = sym (length-map c.seats-count.result.now seat_task) ∙ (ap (λ (xs : List Task). length xs) c.seats-count.ensures.all ∙ sym (length-map c.args.ports.now.state.tasks (λ (x : Task). x.ids)));
  begun = subst (λ (h : PortState). Begun (ids_in c.args.ports.now.state) 0 h) (sym c.requires) (begun_first (ids_in c.args.ports.now.state));
}

pub add_boot_port-requires : goal.add_boot_port-requires
add_boot_port-requires c = room_first (ids_in c.args.ports.now.state) c.loop-task.task c.loop-task.ports.state (omega arith) c.loop-task.invariant.begun

pub add_boot_port-requires-in-loop-task : goal.add_boot_port-requires-in-loop-task
add_boot_port-requires-in-loop-task c = rw c.in_ok-add_boot_port.ensures.ok (room_second (ids_in c.args.ports.now.state) c.loop-task.task c.loop-task.ports.state (omega arith) c.loop-task.invariant.begun)

pub loop-task-preserved : goal.loop-task-preserved
loop-task-preserved c = record {
  count = c.loop-task.invariant.count;
  begun = rw (c.in_ok-add_boot_port-2.ensures.ok, c.in_ok-add_boot_port.ensures.ok) (begun_next (ids_in c.args.ports.now.state) c.loop-task.task c.loop-task.ports.state (omega arith) c.loop-task.invariant.begun);
}

pub returns-clause-ok : goal.returns-clause-ok
returns-clause-ok c = begun_all (ids_in c.args.ports.now.state) c.loop-task.task c.loop-task.ports.state (omega arith) c.loop-task.invariant.begun
