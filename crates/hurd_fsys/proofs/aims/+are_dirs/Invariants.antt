-- What is left to look at.
use Rattle.std.proofs.Common.{length}
use Rattle.hurd_fsys.proofs.aims.+are_dirs.Given as goal

abbrev pub decreases-are_dirs : goal.decreases-are_dirs
decreases-are_dirs g l = length l.nodes.now
