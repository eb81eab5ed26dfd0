use Rattle.std.proofs.Common.{◌≡◌, ◌≤◌, length, take, vec_len, vec_capacity}
use Rattle.hurd_ports.proofs.compare.ports_copied.Given as goal

-- the ports so far are copied, and there is room for the others
abbrev pub invariant-loop-port : goal.invariant-loop-port
invariant-loop-port l = record {
  copied : l.copied.items ≡ take l.port-index l.ports;
  count : vec_len l.copied ≡ l.port-index;
  room : length l.ports ≤ vec_capacity l.copied;
}
