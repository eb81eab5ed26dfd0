-- What is left fits where the whole does.
use Rattle.std.proofs.Common.{◌∙◌, length, refl}
use Rattle.hurd_lookup.proofs.RestLaws.{fits-whole}
use Rattle.hurd_lookup.proofs.rest.fits.Goals as goal

pub returns-then-length-room : goal.returns-then-length-room
returns-then-length-room c =
    let ends = rw c.is_last.ensures at c.ending.ensures in
    let room = rw ends at c.if-length-room.true in
    let fit = rw ends at c.fit_behind.ensures in
    fit ∙ fits-whole c.args.text.now c.args.rest.now c.args.slash (length c.args.text.now) refl room
