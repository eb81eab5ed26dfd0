use Rattle.std.proofs.Common.{◌≡◌}
use Rattle.hurd_nodes.specs.Held.{seats_of}
use Rattle.hurd_nodes.specs.Quiet.{AreCalm}
use Rattle.hurd_nodes.specs.Tables.{AreTables}
use Rattle.hurd_nodes.proofs.quieting.quieten.Given as goal

-- the seats are those that were there, and those after the first are quiet and calm
abbrev pub invariant-loop-turn : goal.invariant-loop-turn
invariant-loop-turn g l =
    (seats_of l.seats.entries ≡ seats_of l.fn.seats.entries) × AreTables l.sites.entries l.seats.entries l.left × AreCalm g.S.Server.meaning l.seats.entries l.left
