use Rattle.std.proofs.Common.{◌≡◌, ◌++◌, drop}
use Rattle.hurd_lessons.specs.Seen.{node_places}
use Rattle.hurd_lessons.proofs.seen_parts.push_places.Given as goal

abbrev pub invariant-loop-node : goal.invariant-loop-node
invariant-loop-node l = l.words.items ++ node_places l.view (drop l.node-index l.nodes) ≡ l.fn.words.items ++ node_places l.view l.nodes
