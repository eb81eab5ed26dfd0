use Rattle.std.proofs.Common.{Err, inl, inr, refl}
use Rattle.hurd_terminal.specs.declared.fault.Fault.TheVariants.{Memory}
use Rattle.hurd_pairs.specs.declared.difference.PairFault.TheVariants.{First, NoPair}
use Rattle.hurd_program.proofs.pairing.say_mismatch.Goals as goal

pub returns-in-Ok : goal.returns-in-Ok
returns-in-Ok g c = (Err (NoPair c.args.why), inl refl, (λ word. rw (c.as_slice.ensures.value, c.in-Ok.ensures) at c.finish.ensures.line), c.finish.ensures.status)

pub returns-in-Err : goal.returns-in-Err
returns-in-Err g c = (Err (First Memory), inr refl, (λ word. c.finish-in-Err.ensures.line), c.finish-in-Err.ensures.status)
