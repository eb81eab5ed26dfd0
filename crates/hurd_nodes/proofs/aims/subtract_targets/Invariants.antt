use Rattle.std.proofs.Common.{◌≡◌, ◌≤◌, ◌+◌, drop}
use Rattle.indexmap.specs.IndexMap.{spare}
use Rattle.hurd_creds.specs.declared.name.Name.{Name}
use Rattle.hurd_creds.specs.Counts.{counted}
use Rattle.hurd_nodes.specs.Aims.{listings}
use Rattle.hurd_nodes.proofs.aims.subtract_targets.Given as goal

-- the targets that are left are to be taken off yet, and no room was taken
abbrev pub invariant-loop-target : goal.invariant-loop-target
invariant-loop-target l = record {
  less : (n : Name) → counted l.aims.entries n + listings n l.targets ≡ counted l.fn.aims.entries n + listings n (drop l.target-index l.targets);
  room : spare l.fn.aims ≤ spare l.aims;
}
