use Rattle.std.proofs.Common.{◌≡◌, ◌≤◌, take}
use Rattle.smallvec.specs.SmallVec.{small_vec_len}
use Rattle.hurd_creds.specs.Access.{most_ids, HasEachOnce}
use Rattle.hurd_creds.proofs.ids.each_once.Given as goal

-- the ids so far, each once
abbrev pub invariant-loop-id : goal.invariant-loop-id
invariant-loop-id l =
    HasEachOnce (take l.id-index l.ids) l.found.items × (small_vec_len l.found ≤ most_ids) × (l.found.capacity ≡ most_ids)
