-- One name of a walk, at the beginning of the path that is left.
use Rattle.std.proofs.Common.{◌≡◌, List, ap, sym, ℕ}
use Rattle.std.specs.Prelude.{Result, Ok}
use Rattle.hurd_machine.proofs.Common.{Errno, Name, World, first}
use Rattle.hurd_lookup.specs.declared.request.Request.{Request}
use Rattle.hurd_lookup.specs.declared.walk.Next.{Next}
use Rattle.hurd_lookup.specs.Lookup.{Authority, Outcome, step_asks, stepped}

-- where it leads
pub step_is : (w : World) (q : Authority) (r : Request) (here : Name) (name : List ℕ) (names : List (List ℕ)) (s : Next) → Ok s ≡ step_asks w q here name → (onward : Name → Result Outcome Errno)
    → first (step_asks w q here name) (stepped w q r here name names onward) ≡ stepped w q r here name names onward s
unfolding first
step_is w q r here name names s asked onward = ap (λ (x : Result Next Errno). first x (stepped w q r here name names onward)) (sym asked)
