use Rattle.std.proofs.Common.{◌≡◌, ◌≤◌, length, take}
use Rattle.hurd_script.specs.Places.{without_slashes}
use Rattle.hurd_script.proofs.places.without_slashes.Given as goal

abbrev pub invariant-loop-end : goal.invariant-loop-end
invariant-loop-end l = record { within : l.end ≤ length l.path; same_rest : without_slashes (take l.end l.path) ≡ without_slashes l.path }

abbrev pub decreases-loop-end : goal.decreases-loop-end
decreases-loop-end l = l.end
