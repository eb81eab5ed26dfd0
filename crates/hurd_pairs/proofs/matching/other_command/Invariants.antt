use Rattle.std.proofs.Common.{◌-◌, length}
use Rattle.hurd_sight.specs.Reach.{among}
use Rattle.hurd_pairs.proofs.PairLaws.{Matching}
use Rattle.hurd_pairs.proofs.matching.other_command.Given as goal

-- all commands of theirs so far are the same
abbrev pub invariant-commands : goal.invariant-commands
invariant-commands l = Matching (among l.fn.learners.tasks.items) l.one l.two l.first l.second

abbrev pub decreases-commands : goal.decreases-commands
decreases-commands l = length l.one - l.first
