use Rattle.std.proofs.Common.{◌≡◌, ◌≤◌, drop}
use Rattle.hurd_sight.specs.Reach.{among}
use Rattle.hurd_pairs.specs.Pairs.{own_from}
use Rattle.hurd_pairs.proofs.matching.next_own.Given as goal

-- no command of theirs was passed
abbrev pub invariant-loop-at : goal.invariant-loop-at
invariant-loop-at l =
    (l.from ≤ l.at) × (own_from (among l.fn.learners.tasks.items) l.from (drop l.from l.commands) ≡ own_from (among l.fn.learners.tasks.items) l.at (drop l.at l.commands))
