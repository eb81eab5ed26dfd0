use Rattle.hurd_refusals.proofs.Named.{refused_by_name}
use Rattle.hurd_refusals.proofs.Links.{links_are_short}
use Rattle.hurd_refusals.proofs.calls_are_refused_by_name.Goals as goal

pub returns-clause-named : goal.returns-clause-named
returns-clause-named c = refused_by_name

pub returns-clause-short : goal.returns-clause-short
returns-clause-short c = links_are_short
