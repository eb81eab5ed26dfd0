use Rattle.std.proofs.Common.{◌∙◌, ap}
use Rattle.hurd_sight.specs.Found.{why_of}
use Rattle.hurd_sight.proofs.FoundLaws.{Entries, why_got}
use Rattle.hurd_sight.proofs.found.Found.why.Goals as goal

pub returns : goal.returns
returns c = c.copied.ensures ∙ (c.get.ensures.value ∙ (why_got c.args.node c.self.inside.nodes.entries ∙ ap (λ (es : Entries). why_of c.args.node es) c.self.view_is))
