-- One uid is never too many, and needs no memory.
use Rattle.std.proofs.Common.{[], ◌∷◌, arith}
use Rattle.std.specs.Prelude.{Err}
use Rattle.hurd_lookup.proofs.LentLaws.{few_are_held}
use Rattle.hurd_fsys.proofs.setting.seat.Goals as goal

pub returns-in-Err-clause-does : goal.returns-in-Err-clause-does
returns-in-Err-clause-does g c =
    let never = few_are_held (c.args.place.owner ∷ []) (omega arith) (Err c.in-Err.errno) c.in-Err.ensures.sets (c.in-Err.ensures.inline (omega arith) (omega arith)) in
    absurd (cc (never))
