use Rattle.std.proofs.Common.{[], arith, refl}
use Rattle.hurd_can.specs.Help.{Help}
use Rattle.hurd_can.specs.Recalling.{NotesIf}
use Rattle.hurd_can.specs.Remembered.{SawAs}
use Rattle.hurd_can.proofs.EachLaws.{each_more}
use Rattle.hurd_can.proofs.remembering.note_views.Goals as goal

pub loop-helped-init : goal.loop-helped-init
loop-helped-init c = ([], refl, c.deref_mut-helped-items.ensures.value)

pub loop-helped-preserved : goal.loop-helped-preserved
loop-helped-preserved c =
    each_more (λ (old new : Help). NotesIf (SawAs c.args.view.now c.args.last.now old.part) c.args.task old new) c.args.all.now.items c.loop-helped.helped-items c.loop-helped.helped-index c.helped-item.result c.note_view.new.helped
    c.loop-helped.invariant (omega arith) c.in_ok-note_view.ensures
