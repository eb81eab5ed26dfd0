use Rattle.std.proofs.Common.{◌∙◌, ap, sym}
use Rattle.hurd_trans_iface.specs.Meaning.{link_step}
use Rattle.hurd_small.specs.Kept.{kept_meaning}
use Rattle.hurd_tmpfs.specs.Tree.{tree}
use Rattle.hurd_kinds.specs.Boxes.{box_meaning}
use Rattle.hurd_kinds.proofs.BoxLaws.{stepped_as}
use Rattle.hurd_kinds.proofs.in_box.ServerBoxServer.link.Goals as goal

pub returns-in-Kept : goal.returns-in-Kept
unfolding box_meaning
returns-in-Kept c =
    stepped_as (link_step c.args.dir c.args.name.now c.args.node) (ap box_meaning c.in-Kept.is ∙ ap kept_meaning (sym c.deref_mut-in-Kept.ensures.value)) c.link-in-Kept.ensures

pub returns-in-Tmpfs : goal.returns-in-Tmpfs
unfolding box_meaning
returns-in-Tmpfs c = stepped_as (link_step c.args.dir c.args.name.now c.args.node) (ap box_meaning c.in-Tmpfs.is ∙ ap tree (sym c.deref_mut.ensures.value)) c.link.ensures
