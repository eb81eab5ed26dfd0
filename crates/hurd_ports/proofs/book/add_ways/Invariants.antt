use Rattle.std.proofs.Common.{◌≡◌, ◌≤◌, ◌+◌, drop, length}
use Rattle.indexmap.specs.IndexMap.{spare}
use Rattle.hurd_creds.specs.Names.{same_name}
use Rattle.hurd_creds.specs.declared.name.Name.{Name}
use Rattle.hurd_creds.specs.Weights.{count_list}
use Rattle.hurd_ports.specs.Tables.{ways_of}
use Rattle.hurd_creds.specs.Counts.{counted}
use Rattle.hurd_ports.proofs.book.add_ways.Given as goal

-- the ways that are left are to be counted yet, and there is room for them
abbrev pub invariant-loop-way : goal.invariant-loop-way
invariant-loop-way l = record {
  more : (n : Name) → counted l.nodes.entries n + count_list (same_name n) (ways_of (drop l.way-index l.ways)) ≡ counted l.fn.nodes.entries n + count_list (same_name n) (ways_of l.ways);
  room : length l.ways + length l.ways ≤ spare l.nodes + (l.way-index + l.way-index);
}
