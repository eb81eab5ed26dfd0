use Rattle.std.proofs.Common.{◌≡◌, ◌+◌, drop}
use Rattle.hurd_creds.specs.Names.{same_name}
use Rattle.hurd_creds.specs.declared.name.Name.{Name}
use Rattle.hurd_creds.specs.Weights.{count_list}
use Rattle.hurd_ports.specs.Tables.{ways_of}
use Rattle.hurd_creds.specs.Counts.{counted}
use Rattle.hurd_ports.proofs.book.subtract_ways.Given as goal

-- the ways that are left are to be taken off yet
abbrev pub invariant-loop-way : goal.invariant-loop-way
invariant-loop-way l = record {
  less : (n : Name) → counted l.nodes.entries n + count_list (same_name n) (ways_of l.ways) ≡ counted l.fn.nodes.entries n + count_list (same_name n) (ways_of (drop l.way-index l.ways));
}
