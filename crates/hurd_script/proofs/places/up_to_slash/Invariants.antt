use Rattle.std.proofs.Common.{◌≡◌, ◌≤◌, length, take}
use Rattle.hurd_script.specs.Places.{up_to_slash}
use Rattle.hurd_script.proofs.places.up_to_slash.Given as goal

abbrev pub invariant-loop-end : goal.invariant-loop-end
invariant-loop-end l = record { within : l.end ≤ length l.path; same_front : up_to_slash (take l.end l.path) ≡ up_to_slash l.path }

abbrev pub decreases-loop-end : goal.decreases-loop-end
decreases-loop-end l = l.end
