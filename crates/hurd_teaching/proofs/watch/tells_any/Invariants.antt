use Rattle.std.proofs.Common.{◌≡◌, false, take}
use Rattle.std.specs.List.{list_any}
use Rattle.hurd_views.specs.Views.{tells_in}
use Rattle.hurd_teaching.proofs.watch.tells_any.Given as goal

-- none so far
abbrev pub invariant-loop-part : goal.invariant-loop-part
invariant-loop-part l = list_any (tells_in l.view) (take l.part-index l.parts) ≡ false
