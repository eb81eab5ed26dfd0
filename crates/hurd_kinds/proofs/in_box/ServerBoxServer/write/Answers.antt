use Rattle.std.proofs.Common.{◌≡◌, ◌∙◌, ◌+◌, [], length, ap, sym}
use Rattle.hurd_trans_iface.specs.Behaviour.{writing}
use Rattle.hurd_trans_iface.specs.Nodes.{Reaches, body_of}
use Rattle.hurd_trans_iface.specs.Meaning.{Meaning, step_of}
use Rattle.hurd_small.specs.Fixed.{fixed_meaning}
use Rattle.hurd_small.specs.Kept.{kept_meaning}
use Rattle.hurd_tmpfs.specs.Tree.{tree}
use Rattle.hurd_kinds.specs.Boxes.{box_meaning}
use Rattle.hurd_kinds.proofs.BoxLaws.{known_as, stepped_as}
use Rattle.hurd_kinds.proofs.in_box.ServerBoxServer.write.Goals as goal

pub returns-in-Fixed-clause-steps : goal.returns-in-Fixed-clause-steps
unfolding box_meaning
returns-in-Fixed-clause-steps c =
    stepped_as (step_of (writing c.args.at c.args.bytes.now c.args.readers) c.args.node) (ap box_meaning c.in-Fixed.is ∙ ap fixed_meaning (sym c.deref_mut-in-Fixed.ensures.value)) c.write-in-Fixed.ensures.steps

pub returns-in-Kept-clause-steps : goal.returns-in-Kept-clause-steps
unfolding box_meaning
returns-in-Kept-clause-steps c =
    stepped_as (step_of (writing c.args.at c.args.bytes.now c.args.readers) c.args.node) (ap box_meaning c.in-Kept.is ∙ ap kept_meaning (sym c.deref_mut-in-Kept.ensures.value)) c.write-in-Kept.ensures.steps

pub returns-in-Tmpfs-clause-steps : goal.returns-in-Tmpfs-clause-steps
unfolding box_meaning
returns-in-Tmpfs-clause-steps c = stepped_as (step_of (writing c.args.at c.args.bytes.now c.args.readers) c.args.node) (ap box_meaning c.in-Tmpfs.is ∙ ap tree (sym c.deref_mut.ensures.value)) c.write.ensures.steps

pub returns-in-Tmpfs-clause-within : goal.returns-in-Tmpfs-clause-within
unfolding box_meaning
returns-in-Tmpfs-clause-within c = known_as (λ (m : Meaning). Reaches (body_of m.nodes c.args.node) (c.args.at + length c.args.bytes.now) → c.write.result ≡ (step_of (writing c.args.at c.args.bytes.now c.args.readers) c.args.node m).0) (ap box_meaning c.in-Tmpfs.is ∙ ap tree (sym c.deref_mut.ensures.value)) c.write.ensures.within

pub returns-in-Tmpfs-clause-nothing : goal.returns-in-Tmpfs-clause-nothing
unfolding box_meaning
returns-in-Tmpfs-clause-nothing c = known_as (λ (m : Meaning). c.args.bytes.now ≡ [] → c.write.result ≡ (step_of (writing c.args.at c.args.bytes.now c.args.readers) c.args.node m).0) (ap box_meaning c.in-Tmpfs.is ∙ ap tree (sym c.deref_mut.ensures.value)) c.write.ensures.nothing
