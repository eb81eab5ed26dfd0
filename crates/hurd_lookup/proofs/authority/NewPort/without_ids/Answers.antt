-- No ids are never too many.
use Rattle.std.proofs.Common.{◌∙◌, inr, refl}
use Rattle.std.proofs.lemmas.Result.{err_from_is_err_and}
use Rattle.hurd_lookup.proofs.RoomLaws.{ids_short}
use Rattle.hurd_lookup.proofs.authority.NewPort.without_ids.Goals as goal

pub returns-in_err-new : goal.returns-in_err-new
returns-in_err-new c =
    let p = err_from_is_err_and c.from_residual.result c.from_residual.ensures.1 in
    rw p.1 (inr (p.2 ∙ ids_short _ c.in_err-new.ensures.sets, refl))
