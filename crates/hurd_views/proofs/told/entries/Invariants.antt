use Rattle.std.proofs.Common.{◌≡◌, take}
use Rattle.hurd_machine.proofs.Common.{body_of, shown}
use Rattle.hurd_views.specs.Views.{rows_in}
use Rattle.hurd_views.proofs.told.entries.Given as goal

-- the entries of the names so far
abbrev pub invariant-loop-name : goal.invariant-loop-name
invariant-loop-name g l = l.rows.items ≡ rows_in (body_of (shown g.S.Server.meaning l.nodes).nodes l.dir) (take l.name-index l.names)
