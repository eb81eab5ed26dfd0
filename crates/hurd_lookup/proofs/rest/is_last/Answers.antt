-- No name is left where nothing follows the slashes.
use Rattle.hurd_lookup.proofs.PathLaws.{last_in}
use Rattle.hurd_lookup.proofs.rest.is_last.Goals as goal

pub returns : goal.returns
returns c = last_in c.args.path.now c.is_empty.result (rw c.from_name.ensures at c.is_empty.ensures)
