use Rattle.std.proofs.Common.{◌≡◌, ◌∙◌, ap, sym}
use Rattle.hurd_trans_iface.specs.Behaviour.{resizing}
use Rattle.hurd_trans_iface.specs.Nodes.{Reaches, body_of}
use Rattle.hurd_trans_iface.specs.Meaning.{Meaning, step_of}
use Rattle.hurd_tmpfs.specs.Tree.{tree}
use Rattle.hurd_kinds.specs.Boxes.{box_meaning}
use Rattle.hurd_kinds.proofs.BoxLaws.{known_as, stepped_as}
use Rattle.hurd_kinds.proofs.in_box.ServerBoxServer.set_size.Goals as goal

pub returns-in-Tmpfs-clause-steps : goal.returns-in-Tmpfs-clause-steps
unfolding box_meaning
returns-in-Tmpfs-clause-steps c = stepped_as (step_of (resizing c.args.size) c.args.node) (ap box_meaning c.in-Tmpfs.is ∙ ap tree (sym c.deref_mut.ensures.value)) c.set_size.ensures.steps

pub returns-in-Tmpfs-clause-cut : goal.returns-in-Tmpfs-clause-cut
unfolding box_meaning
returns-in-Tmpfs-clause-cut c = known_as (λ (m : Meaning). Reaches (body_of m.nodes c.args.node) c.args.size → c.set_size.result ≡ (step_of (resizing c.args.size) c.args.node m).0) (ap box_meaning c.in-Tmpfs.is ∙ ap tree (sym c.deref_mut.ensures.value)) c.set_size.ensures.cut
