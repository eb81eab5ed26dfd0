use Rattle.hurd_pictures.proofs.IdLaws.{ids_tested}
use Rattle.hurd_pictures.proofs.tasks.same_ids.Goals as goal

pub returns : goal.returns
returns c = ids_tested c.args.ids.now c.args.other.now _ c.is_same.ensures
