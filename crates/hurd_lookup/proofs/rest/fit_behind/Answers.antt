-- A name that has room leaves so much less.
use Rattle.std.proofs.Common.{◌∙◌, sym}
use Rattle.hurd_lookup.proofs.RestLaws.{at-end, shorter, too-long}
use Rattle.hurd_lookup.proofs.rest.fit_behind.Goals as goal

pub returns-then-length-room : goal.returns-then-length-room
returns-then-length-room c =
    sym (too-long c.loop-name.rest.now c.in-Some.name.now c.in-Some.after.now c.in-Some.ensures.0 c.loop-name.room c.if-length-room.true) ∙ c.loop-name.invariant

pub loop-name-preserved : goal.loop-name-preserved
loop-name-preserved c =
    shorter c.loop-name.rest.now c.in-Some.name.now c.in-Some.after.now c.in-Some.ensures.0 c.loop-name.room c.if-length-room.false ∙ c.loop-name.invariant

pub returns : goal.returns
returns c = sym (at-end c.loop-name.rest.now c.loop-name.room c.in_default.ensures) ∙ c.loop-name.invariant
