use Rattle.std.proofs.Common.{◌≡◌, ◌≤◌, ◌+◌, drop, length}
use Rattle.indexmap.specs.IndexMap.{spare}
use Rattle.hurd_creds.specs.declared.name.Name.{Name}
use Rattle.hurd_creds.specs.Counts.{counted}
use Rattle.hurd_nodes.specs.Aims.{listings}
use Rattle.hurd_nodes.proofs.aims.add_targets.Given as goal

-- the targets that are left are to be counted yet, and there is room for them
abbrev pub invariant-loop-target : goal.invariant-loop-target
invariant-loop-target l = record {
  more : (n : Name) → counted l.aims.entries n + listings n (drop l.target-index l.targets) ≡ counted l.fn.aims.entries n + listings n l.targets;
  room : length l.targets ≤ spare l.aims + l.target-index;
}
