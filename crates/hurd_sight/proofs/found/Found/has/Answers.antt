use Rattle.std.proofs.Common.{◌∙◌, ap}
use Rattle.hurd_sight.specs.Found.{is_found}
use Rattle.hurd_sight.proofs.FoundLaws.{Entries, is_looked_up}
use Rattle.hurd_sight.proofs.found.Found.has.Goals as goal

pub returns : goal.returns
returns c = c.contains_key.ensures ∙ (is_looked_up c.args.node c.self.inside.nodes.entries ∙ ap (λ (es : Entries). is_found c.args.node es) c.self.view_is)
