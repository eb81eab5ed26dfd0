use Rattle.std.proofs.Common.{◌≡◌, false, take}
use Rattle.hurd_trans_iface.specs.Nodes.{is_listed}
use Rattle.hurd_tmpfs.proofs.nameless.place_on.Given as goal

-- the node isn't among those seen
abbrev pub invariant-loop-i : goal.invariant-loop-i
invariant-loop-i l = is_listed l.node (take l.i l.names) ≡ false
