use Rattle.hurd_union.proofs.ThereLaws.{notes-inserted}
use Rattle.hurd_union.proofs.merge.note.Goals as goal

pub returns : goal.returns
returns c = notes-inserted c.args.there.now.keys c.insert.new.self.keys c.in_ok-from_slice.field-0 c.args.name.now c.in_ok-from_slice.ensures.items c.in_ok-insert.ensures.keys
