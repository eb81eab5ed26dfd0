-- In place of a translator that waits, the one that is to be started first.
use Rattle.std.proofs.Common.{◌≡◌, ◌∙◌, ℕ, sym, ap}
use Rattle.std.specs.Prelude.{Result, Ok, Err}
use Rattle.hurd_machine.proofs.Common.{Errno, IdSets, Name, PendingStart, World, first, ids_at, task_at}
use Rattle.hurd_lookup.specs.Lookup.{Outcome, Starts}
use Rattle.hurd_lookup.specs.Nested.{first_unstarted}
use Rattle.hurd_lookup.specs.Seeking.{sooner, start_at}
use Rattle.hurd_lookup.proofs.RoomLaws.{ids_had}

module _ (w : World) (t : ℕ) (s : PendingStart) where
  abbrev starts : IdSets → Result Outcome Errno
  starts ids = first (first_unstarted w ids s.node) (λ n. Ok (Starts (start_at w n)))

  module _ (ids : IdSets) (had : Ok ids ≡ ids_at (task_at w t)) where
    pub sooner_not : (e : Errno) → first_unstarted w ids s.node ≡ Err e → sooner w t (Starts s) ≡ Err e
    unfolding first
    sooner_not e is = sym (ids_had starts (task_at w t) ids had) ∙ ap (λ (r : Result Name Errno). first r (λ n. Ok (Starts (start_at w n)))) is

    pub sooner_is : (n : Name) → first_unstarted w ids s.node ≡ Ok n → sooner w t (Starts s) ≡ Ok (Starts (start_at w n))
    unfolding first
    sooner_is n is = sym (ids_had starts (task_at w t) ids had) ∙ ap (λ (r : Result Name Errno). first r (λ n. Ok (Starts (start_at w n)))) is
