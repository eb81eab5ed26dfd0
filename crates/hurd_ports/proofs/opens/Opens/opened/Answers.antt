use Rattle.std.proofs.Common.{sym, ◌∙◌}
use Rattle.hurd_ports.proofs.OpenLaws.{open-got}
use Rattle.hurd_ports.proofs.opens.Opens.opened.Goals as goal

pub returns : goal.returns
returns c = rw (← c.self.view_is) (c.copied.ensures ∙ c.get.ensures.value ∙ sym (open-got c.self.inside.table.entries c.args.name))
