use Rattle.hurd_client.proofs.OpeningLaws.{first}
use Rattle.hurd_client.proofs.opening.Opening.at.Goals as goal

pub returns : goal.returns
returns c = first _ _ _ _ _ c.new.ensures.items (rw c.as_slice.ensures at c.start_at-port.ensures)
