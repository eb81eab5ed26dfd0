use Rattle.hurd_kinds.specs.Boxes.{box_meaning}
use Rattle.hurd_kinds.specs.declared.server_box.ServerBox.{ServerBox}
use Rattle.hurd_world.specs.Held.{AllBegun}
use Rattle.hurd_trials.specs.declared.counts.counted.Counted.{Counted}
use Rattle.hurd_trials.proofs.counts.at_once.all_ready.Given as goal

-- so far words begin each server that a call brings
abbrev pub invariant-loop-listed : goal.invariant-loop-listed
invariant-loop-listed l =
    (goal.iterator-loop-listed).can_next l.listed-iterator
    × (goal.iterator-loop-listed).is_finite l.listed-iterator
    × AllBegun (λ (c : Counted ServerBox). box_meaning c.server) l.ready.calls.items
