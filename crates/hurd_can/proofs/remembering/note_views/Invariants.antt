use Rattle.std.proofs.Common.{◌≡◌, ◌++◌, List, drop, take}
use Rattle.hurd_can.specs.Help.{Help}
use Rattle.hurd_can.specs.Recalling.{NotesIf}
use Rattle.hurd_can.specs.Remembered.{Each, SawAs}
use Rattle.hurd_can.proofs.remembering.note_views.Given as goal

-- those before this one are noted
abbrev pub invariant-loop-helped : goal.invariant-loop-helped
invariant-loop-helped l =
    (done : List Help) × Each (λ (old new : Help). NotesIf (SawAs l.view l.last old.part) l.task old new) (take l.helped-index l.fn.all.items) done
    × (l.helped-items ≡ done ++ drop l.helped-index l.fn.all.items)
