use Rattle.hurd_nodes.proofs.AskedLaws.{given-asked, given-none}
use Rattle.hurd_nodes.proofs.asked.ask_given.Goals as goal

pub returns-in-Some-clause-less : goal.returns-in-Some-clause-less
returns-in-Some-clause-less g c = given-asked _ c.in-Some.server _ _ _ _ c.in-Some.is c.ask.ensures.less

pub returns-in-None-clause-less : goal.returns-in-None-clause-less
returns-in-None-clause-less g c = given-none _ _ _ c.in-None.is
