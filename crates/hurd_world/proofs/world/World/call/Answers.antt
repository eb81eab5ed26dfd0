use Rattle.hurd_laws.proofs.Refusals.{called_refused}
use Rattle.hurd_laws.proofs.Served.{called_integrity, called_sound}
use Rattle.hurd_world.proofs.NotingLaws.{called_notes}
use Rattle.hurd_world.proofs.world.World.call.Goals as goal

pub returns-clause-refused : goal.returns-clause-refused
returns-clause-refused g c = rw (← c.self.view_is) (called_refused _ _ _ _ _ c.dispatch-reply.ensures.0)

pub returns-clause-sound : goal.returns-clause-sound
returns-clause-sound g c = rw (← c.self.view_is) (called_sound _ _ _ _ _ c.dispatch-reply.ensures.0)

pub returns-clause-integrity : goal.returns-clause-integrity
returns-clause-integrity g c = rw (← c.self.view_is) (called_integrity _ _ _ _ _ c.dispatch-reply.ensures.0)

pub returns-clause-noted : goal.returns-clause-noted
returns-clause-noted g c = rw (← c.self.view_is) (called_notes _ _ _ _ _ c.self.inside.noted _ c.dispatch-reply.ensures.0 c.note.ensures)
