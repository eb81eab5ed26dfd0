use Rattle.std.proofs.Common.{◌≡◌, ◌++◌, drop, map, take}
use Rattle.hurd_nodes.specs.Shown.{shown}
use Rattle.hurd_sight.specs.Looks.{sees_with}
use Rattle.hurd_can.specs.Noting.{noted_one}
use Rattle.hurd_can.proofs.noting.note_ones.Given as goal

-- those before this one are noted
abbrev pub invariant-loop-helped : goal.invariant-loop-helped
invariant-loop-helped g l =
    l.helped-items ≡ map (noted_one (sees_with (shown g.S.Server.meaning l.nodes) l.sight) l.one) (take l.helped-index l.fn.all.items) ++ drop l.helped-index l.fn.all.items
