-- A sound world is sound with other names, if what is in it was made by those too.
use Rattle.hurd_laws.specs.Untold.{RenamedSound}
use Rattle.hurd_laws.proofs.HousedRenamed.{housed-renamed, kinds-renamed, seated-renamed}
use Rattle.hurd_laws.proofs.RestRenamed.{at_rest-renamed, filled-renamed}
use Rattle.hurd_laws.proofs.TablesRenamed.{tables-renamed}
use Rattle.hurd_laws.proofs.TreeRenamed.{linked-renamed, tree-renamed}

pub renamed_sound : RenamedSound
renamed_sound f w given s = record {
  coherent = record {
    given = given;
    housing = housed-renamed f w s.coherent.housing;
    seating = seated-renamed f w s.coherent.seating;
    tree = tree-renamed f w s.coherent.tree;
    kinds = kinds-renamed f w s.coherent.kinds;
    tables = tables-renamed f w s.coherent.tables;
  };
  linked = linked-renamed f w s.linked;
  filled = filled-renamed f w s.filled;
  settled = at_rest-renamed f w s.settled;
}
