use Rattle.std.proofs.Common.{take}
use Rattle.hurd_machine.specs.World.{world_from}
use Rattle.hurd_nodes.specs.Shown.{shown}
use Rattle.hurd_can.specs.Noting.{AddsTwos}
use Rattle.hurd_can.proofs.looking.try_twos.Given as goal

-- those before this one were tried
abbrev pub invariant-loop-pair : goal.invariant-loop-pair
invariant-loop-pair g l = AddsTwos (world_from (shown g.S.Server.meaning l.nodes) l.ports.state) l.who (take l.pair-index l.pairs) l.fn.all.items l.all.items
