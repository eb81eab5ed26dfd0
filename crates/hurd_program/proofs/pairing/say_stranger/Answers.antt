use Rattle.std.proofs.Common.{Err, inl, inr, refl}
use Rattle.hurd_terminal.specs.declared.fault.Fault.TheVariants.{Memory, Unknown}
use Rattle.hurd_program.proofs.pairing.say_stranger.Goals as goal

pub returns-in-Ok : goal.returns-in-Ok
returns-in-Ok g c = (Err Unknown, inl refl, (λ complaint. rw (c.as_slice.ensures.value, c.in-Ok.ensures, c.stranger.ensures) at c.finish.ensures.line), c.finish.ensures.status)

pub returns-in-Err : goal.returns-in-Err
returns-in-Err g c = (Err Memory, inr refl, (λ complaint. c.finish-in-Err.ensures.line), c.finish-in-Err.ensures.status)
