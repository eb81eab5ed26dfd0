-- A call that may find no memory also where it would be refused.
use Rattle.std.proofs.Common.{inl, inr}
use Rattle.std.specs.Prelude.{Result, Ok, Err}
use Rattle.hurd_machine.proofs.Common.{Errno, Plan, Planned, Reply, World}
use Rattle.hurd_lookup.specs.Lacking.{PlannedOr}

-- what is as planned is so where memory may be wanting too
pub weaker : {T : Type 0} (Lacks : Type 0) (w : World) (P : Plan) (f : T → Reply) (r : Result T Errno) (y : World) → Planned w P f r y → PlannedOr Lacks w P f r y
weaker Lacks w P f (Ok a) y h = h
weaker Lacks w P f (Err e) y h = (
  h.0,
  elim h.1 [
    | inl refused ↦ inl refused
    | inr lacks ↦ inr (lacks.0, inl lacks.1)
  ],
)
