use Rattle.std.proofs.Common.{◌≡◌, drop}
use Rattle.hurd_core.specs.Core.{world_of}
use Rattle.hurd_lookup.specs.Lookup.{branch_in}
use Rattle.hurd_lookup.proofs.walk.branch_in.Given as goal

-- none so far
abbrev pub invariant-loop-branch : goal.invariant-loop-branch
invariant-loop-branch g l =
    let w = world_of g.S.Server.meaning l.core in
    branch_in w l.ids l.name (drop l.branch-index l.branches) ≡ branch_in w l.ids l.name l.branches
