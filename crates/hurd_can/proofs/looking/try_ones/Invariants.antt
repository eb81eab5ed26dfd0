use Rattle.std.proofs.Common.{take}
use Rattle.hurd_machine.specs.World.{world_from}
use Rattle.hurd_nodes.specs.Shown.{shown}
use Rattle.hurd_can.specs.Noting.{AddsOnes}
use Rattle.hurd_can.proofs.looking.try_ones.Given as goal

-- those before this one were tried
abbrev pub invariant-loop-one : goal.invariant-loop-one
invariant-loop-one g l = AddsOnes (world_from (shown g.S.Server.meaning l.nodes) l.ports.state) l.who (take l.one-index l.others) l.fn.all.items l.all.items
