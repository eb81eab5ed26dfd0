use Rattle.std.proofs.Common.{take}
use Rattle.hurd_core.specs.Core.{world_of}
use Rattle.hurd_views.specs.Views.{Fills}
use Rattle.hurd_views.proofs.view.Rows.fill.Given as goal

-- the names so far
abbrev pub invariant-loop-i : goal.invariant-loop-i
invariant-loop-i g l = Fills (world_of g.S.Server.meaning l.core) l.sight (take l.i l.names) l.initial.self l.self
