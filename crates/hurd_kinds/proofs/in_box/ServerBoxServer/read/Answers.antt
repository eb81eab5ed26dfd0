use Rattle.std.proofs.Common.{◌≡◌, ◌∙◌, [], ap, sym}
use Rattle.std.specs.Prelude.{Ok}
use Rattle.hurd_trans_iface.specs.Behaviour.{reading}
use Rattle.hurd_trans_iface.specs.Meaning.{Meaning, step_of}
use Rattle.hurd_small.specs.Fixed.{fixed_meaning}
use Rattle.hurd_tmpfs.specs.Tree.{tree}
use Rattle.hurd_kinds.specs.Boxes.{box_meaning}
use Rattle.hurd_kinds.proofs.BoxLaws.{known_as, stepped_as}
use Rattle.hurd_kinds.proofs.in_box.ServerBoxServer.read.Goals as goal

pub returns-in-Fixed-clause-steps : goal.returns-in-Fixed-clause-steps
unfolding box_meaning
returns-in-Fixed-clause-steps c =
    stepped_as (step_of (reading c.args.at c.args.amount c.args.writers) c.args.node) (ap box_meaning c.in-Fixed.is ∙ ap fixed_meaning (sym c.deref_mut-in-Fixed.ensures.value)) c.read-in-Fixed.ensures.steps

pub returns-in-Tmpfs-clause-steps : goal.returns-in-Tmpfs-clause-steps
unfolding box_meaning
returns-in-Tmpfs-clause-steps c = stepped_as (step_of (reading c.args.at c.args.amount c.args.writers) c.args.node) (ap box_meaning c.in-Tmpfs.is ∙ ap tree (sym c.deref_mut.ensures.value)) c.read.ensures.steps

pub returns-in-Tmpfs-clause-nothing : goal.returns-in-Tmpfs-clause-nothing
unfolding box_meaning
returns-in-Tmpfs-clause-nothing c = known_as (λ (m : Meaning). (step_of (reading c.args.at c.args.amount c.args.writers) c.args.node m).0 ≡ Ok [] → c.read.result ≡ Ok []) (ap box_meaning c.in-Tmpfs.is ∙ ap tree (sym c.deref_mut.ensures.value)) c.read.ensures.nothing
