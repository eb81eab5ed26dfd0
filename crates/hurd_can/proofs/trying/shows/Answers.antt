use Rattle.hurd_can.proofs.TriedLaws.{begun_shows, unbegun_shows}
use Rattle.hurd_can.proofs.trying.shows.Goals as goal

pub returns-in-Ok : goal.returns-in-Ok
returns-in-Ok g c =
    begun_shows g.T.Telling.sort c.args.who.now c.args.part c.args.text.now (g.T.Telling.way c.deref_mut.result.now) (rw (← c.deref_mut.ensures.value) at c.in-Ok.ensures.ok) c.shows_at_end.result
    c.shows_at_end.ensures

pub returns-in-Err : goal.returns-in-Err
returns-in-Err g c = unbegun_shows g.T.Telling.sort c.args.who.now c.args.part c.args.text.now c.in-Err.fault c.in-Err.ensures.err c.nothing_shown.result c.nothing_shown.ensures
