-- A call that could not be read.
use Rattle.std.proofs.Common.{inl, inr, ℕ, List, refl}
use Rattle.std.specs.Prelude.{Option, Some, None}
use Rattle.hurd_lists.specs.Lists.{Listed}
use Rattle.hurd_sitting.specs.declared.sitting.Sitting.{Sitting}
use Rattle.hurd_c.specs.Calls.{CalledIn, unanswered}

-- memory was refused for it: nothing changed, whether there is such a call or not
pub unread : (o : Option Listed) (s : Sitting) (out : List ℕ) → CalledIn o s (unanswered 3) s out out
unread None s out = record { is = inr refl; same = refl; sitting = refl }
unread (Some c) s out = inr (record { is = refl; same = refl; world = inl refl })
