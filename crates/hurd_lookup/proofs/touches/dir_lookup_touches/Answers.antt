-- What is found along the path is what is touched, and where that is refused nothing is.
use Rattle.hurd_core.specs.Core.{world_of}
use Rattle.hurd_lookup.specs.Ends.{authority_of}
use Rattle.hurd_lookup.proofs.TouchingLaws.{touched_found, touched_nothing}
use Rattle.hurd_lookup.proofs.touches.dir_lookup_touches.Goals as goal

pub returns-in-Ok : goal.returns-in-Ok
returns-in-Ok g c p on =
    let w = world_of g.S.Server.meaning c.args.core.now in
    let found = rw c.new-request.ensures at c.in-Ok.ensures in
    c.by_outcome.ensures w (authority_of c.in-Ok.found.authority) p found.1 (touched_found w c.args.task.0 c.args.dir c.args.path.now c.args.flags c.args.mode _ found.0 p on)

pub returns-in-Err : goal.returns-in-Err
returns-in-Err g c p on =
    let w = world_of g.S.Server.meaning c.args.core.now in
    let found = rw c.new-request.ensures at c.in-Err.ensures in
    absurd (touched_nothing w c.args.task.0 c.args.dir c.args.path.now c.args.flags c.args.mode c.in-Err.field-0 found p on)
