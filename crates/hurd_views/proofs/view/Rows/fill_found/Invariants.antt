use Rattle.std.proofs.Common.{take}
use Rattle.hurd_core.specs.Core.{world_of}
use Rattle.hurd_views.specs.Views.{Fills, names_found}
use Rattle.hurd_views.proofs.view.Rows.fill_found.Given as goal

-- the names so far
abbrev pub invariant-loop-i : goal.invariant-loop-i
invariant-loop-i g l = Fills (world_of g.S.Server.meaning l.core) l.sight (names_found (take l.i l.sight.found)) l.initial.self l.self
