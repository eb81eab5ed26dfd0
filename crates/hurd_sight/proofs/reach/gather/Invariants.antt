use Rattle.std.proofs.Common.{◌≡◌, ℕ, ◌||◌, take}
use Rattle.hurd_creds.specs.Access.{is_among}
use Rattle.hurd_sight.proofs.reach.gather.Given as goal

-- what was there, and the ids so far
abbrev pub invariant-loop-id : goal.invariant-loop-id
invariant-loop-id l = (id : ℕ) → is_among l.held.keys id ≡ (is_among l.initial.held.keys id || is_among (take l.id-index l.ids) id)
