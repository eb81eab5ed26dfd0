-- A part that is there, or one after the others.
use Rattle.hurd_touches.proofs.AddsLaws.{adds_had, adds_last}
use Rattle.hurd_touches.proofs.noted.Noted.add.Goals.{then-has-via-then-has, then-has-via-else-has+then-push}
use Rattle.hurd_touches.proofs.noted.Noted.add.Goals as goal

pub returns-then-has : goal.returns-then-has
returns-then-has c = elim c.then-has.branch [
  | then-has-via-then-has b ↦ rw (c.in-These.is, b.self-is) (adds_had c.args.part c.in-These.parts (c.has.ensures b.if-has.true))
  | then-has-via-else-has+then-push b ↦ rw (c.in-These.is, b.self-is, b.push.ensures b.if-push.true) (adds_last c.args.part c.in-These.parts)
]
