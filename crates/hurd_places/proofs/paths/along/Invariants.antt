use Rattle.std.proofs.Common.{◌≡◌, ◌++◌, List, vec_len}
use Rattle.hurd_creds.specs.declared.name.Name.{Name}
use Rattle.hurd_places.specs.Places.{level_along, path_along}
use Rattle.hurd_places.proofs.paths.along.Given as goal

abbrev pub decreases-loop-node : goal.decreases-loop-node
decreases-loop-node l = vec_len l.way

abbrev pub invariant-loop-node : goal.invariant-loop-node
invariant-loop-node l =
    (behind : List Name) × (l.way.items ++ behind ≡ l.fn.way.items) × (l.path.items ≡ path_along l.view behind) × (l.level ≡ level_along l.view behind)
