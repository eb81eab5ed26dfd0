use Rattle.hurd_tmpfs.proofs.Beginning.{begins_tree}
use Rattle.hurd_kinds.specs.Boxes.{box_meaning}
use Rattle.hurd_trials.proofs.counts.script.root.Goals as goal

pub returns-in_ok-empty_tree-in-Tree : goal.returns-in_ok-empty_tree-in-Tree
unfolding box_meaning
returns-in_ok-empty_tree-in-Tree c = begins_tree _ c.in_ok-empty_tree-in-Tree.ensures
