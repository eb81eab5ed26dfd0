use Rattle.hurd_creds.proofs.IdLaws.{least-answer}
use Rattle.hurd_creds.proofs.ids.Ids.least_uid.Goals as goal

pub returns : goal.returns
returns c =
    rw (← c.self.view_is, ← c.as_slice.ensures)
    (least-answer c.as_slice.result.now c.least.result c.least.ensures.none.0 c.least.ensures.some)
