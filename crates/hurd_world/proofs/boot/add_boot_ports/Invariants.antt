use Rattle.std.proofs.Common.{◌≡◌, length}
use Rattle.hurd_world.specs.BootPort.{ids_in}
use Rattle.hurd_world.proofs.BootLaws.{Begun}
use Rattle.hurd_world.proofs.boot.add_boot_ports.Given as goal

-- the tasks before this one have their ports
abbrev pub invariant-loop-task : goal.invariant-loop-task
invariant-loop-task l = record {
  count : l.task-end ≡ length (ids_in l.fn.ports.state);
  begun : Begun (ids_in l.fn.ports.state) l.task l.ports.state;
}
