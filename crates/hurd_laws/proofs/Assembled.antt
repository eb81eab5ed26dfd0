-- The laws of one step, from what is proved of each call.
use Rattle.std.proofs.Common.{sym}
use Rattle.hurd_machine.proofs.Common.{Part, TaskOf, World}
use Rattle.hurd_machine.proofs.Frame.{IsUnnamed, gone_kept}
use Rattle.hurd_machine.proofs.CallLaws as call
use Rattle.hurd_laws.specs.Step.{after}
use Rattle.hurd_laws.specs.Laws.{IsOld, ChangesTouched, GoneUnseen, OthersUnseen, OwnFromView, StaysSound, NeverWantsMemory}
use Rattle.hurd_laws.specs.Untold.{NamesUntold}
use Rattle.hurd_laws.specs.After.{AfterRenamed}
use Rattle.hurd_laws.proofs.Rows.{call_laws}

-- what has a name that was given is not new
pub old_named : (w : World) (p : Part) → IsOld w p → IsUnnamed w p → ⊥
old_named w (TaskOf t) old new = new
old_named w p old new = new old

pub changes_touched : ChangesTouched
changes_touched w t c p s old out other = call.changes_touched t _ _ (call_laws t c).laws w p s (old_named w p old) out other

pub others_unseen : OthersUnseen
others_unseen S w t c s out quiet = call.others_unseen t _ _ (call_laws t c).laws S w s out quiet

pub gone_unseen : GoneUnseen
gone_unseen S w t c p s out quiet sees gone = gone_kept (after w t c) w p (sym ((others_unseen S w t c s out quiet).parts p sees)) gone

pub own_from_view : OwnFromView
own_from_view S v w t c sv sw ours view = call.own_from_view t _ _ (call_laws t c).laws S v w sv sw ours view

pub stays_sound : StaysSound
stays_sound w t c s = call.stays_sound t _ _ (call_laws t c).laws w s

pub never_wants_memory : NeverWantsMemory
never_wants_memory w t c = (call_laws t c).laws.plain w

pub names_untold : NamesUntold
names_untold f w t c none = (call_laws t c).told f w none

pub after_renamed : AfterRenamed
after_renamed f w t c keeps = ((call_laws t c).left f w keeps).same w
