use Rattle.std.proofs.Common.{◌≡◌, drop}
use Rattle.hurd_core.specs.Core.{world_of}
use Rattle.hurd_files.specs.Listing.{all_names}
use Rattle.hurd_files.proofs.listing.all_names.Given as goal

-- with the branches that are left the names so far come to what is wanted
abbrev pub invariant-loop-branch : goal.invariant-loop-branch
invariant-loop-branch g l =
    let w = world_of g.S.Server.meaning l.core in
    all_names w l.ids (drop l.branch-index l.branches) l.all ≡ all_names w l.ids l.branches l.fn.own
