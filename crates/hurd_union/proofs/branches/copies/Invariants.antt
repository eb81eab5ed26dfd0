use Rattle.std.proofs.Common.{◌≡◌, take}
use Rattle.hurd_union.proofs.branches.copies.Given as goal

-- the paths so far are copied
abbrev pub invariant-loop-path : goal.invariant-loop-path
invariant-loop-path l = l.copies ≡ take l.path-index l.paths
