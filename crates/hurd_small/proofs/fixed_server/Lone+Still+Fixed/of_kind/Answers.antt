use Rattle.std.proofs.Common.{ap, ◌∙◌}
use Rattle.hurd_trans_iface.specs.Meaning.{new_server}
use Rattle.hurd_small.specs.FixedKinds.{kind_of}
use Rattle.hurd_small.proofs.fixed_server.Lone+Still+Fixed.of_kind.Goals as goal

pub returns : goal.returns
returns c = c.unnamed.ensures (λ f. kind_of f.kind) (λ f. f.text) ∙ ap (new_server (kind_of c.args.kind)) c.in_ok-copied.ensures
