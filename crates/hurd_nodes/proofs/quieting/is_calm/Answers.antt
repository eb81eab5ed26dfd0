use Rattle.std.proofs.Common.{sym, ◌∙◌}
use Rattle.hurd_nodes.proofs.CalmLaws.{all-listed}
use Rattle.hurd_nodes.proofs.quieting.is_calm.Goals as goal

pub returns-in-Some : goal.returns-in-Some
returns-in-Some g c = λ yes n bare. all-listed c.args.root n c.in-Some.names.now (sym c.are_all.ensures ∙ yes) (c.in-Some.ensures n bare)
