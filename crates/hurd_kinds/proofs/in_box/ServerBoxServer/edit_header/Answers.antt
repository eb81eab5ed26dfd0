use Rattle.std.proofs.Common.{◌∙◌, ap, sym}
use Rattle.hurd_tmpfs.specs.Tree.{tree}
use Rattle.hurd_small.specs.Fixed.{fixed_meaning}
use Rattle.hurd_union.specs.Union.{union_meaning}
use Rattle.hurd_small.specs.Kept.{kept_meaning}
use Rattle.hurd_kinds.specs.Boxes.{box_meaning}
use Rattle.hurd_kinds.proofs.BoxLaws.{edited_as}
use Rattle.hurd_kinds.proofs.in_box.ServerBoxServer.edit_header.Goals as goal

pub returns-in-Tmpfs : goal.returns-in-Tmpfs
unfolding box_meaning
returns-in-Tmpfs c = edited_as _ _ (ap box_meaning c.in-Tmpfs.is ∙ ap tree (sym c.deref_mut.ensures.value)) c.edit_header.ensures

pub returns-in-Fixed : goal.returns-in-Fixed
unfolding box_meaning
returns-in-Fixed c = edited_as _ _ (ap box_meaning c.in-Fixed.is ∙ ap fixed_meaning (sym c.deref_mut-in-Fixed.ensures.value)) c.edit_header-in-Fixed.ensures

pub returns-in-Union : goal.returns-in-Union
unfolding box_meaning
returns-in-Union c = edited_as _ _ (ap box_meaning c.in-Union.is ∙ ap union_meaning (sym c.deref_mut-in-Union.ensures.value)) c.edit_header-in-Union.ensures

pub returns-in-Kept : goal.returns-in-Kept
unfolding box_meaning
returns-in-Kept c = edited_as _ _ (ap box_meaning c.in-Kept.is ∙ ap kept_meaning (sym c.deref_mut-in-Kept.ensures.value)) c.edit_header-in-Kept.ensures
