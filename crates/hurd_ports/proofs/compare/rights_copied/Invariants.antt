use Rattle.std.proofs.Common.{◌≡◌, ◌≤◌, length, take, vec_len, vec_capacity}
use Rattle.hurd_ports.proofs.compare.rights_copied.Given as goal

-- the rights so far are copied, and there is room for the others
abbrev pub invariant-loop-right : goal.invariant-loop-right
invariant-loop-right l = record {
  copied : l.copied.items ≡ take l.right-index l.rights;
  count : vec_len l.copied ≡ l.right-index;
  room : length l.rights ≤ vec_capacity l.copied;
}
