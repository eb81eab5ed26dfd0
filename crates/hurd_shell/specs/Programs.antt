-- Where programs come to by their calls.
use Rattle.std.specs.Prelude.{ℕ}
use Rattle.hurd_machine.specs.World.{World}
use Rattle.hurd_laws.specs.Step.{reply_of, after}
use Rattle.hurd_client.specs.Programs.{Prog, gives, calls, asks}

-- where a program of task t comes to by its calls alone: its end, or the next server that it asks for
pub record Pause (A : Type 0) : Type 0 where
  pub world : World
  pub rest : Prog A

unfoldable pub go : {A : Type 0} → ℕ → Prog A → World → Pause A
go t (gives r) w = record { world = w; rest = gives r }
go t (calls c k) w = go t (k (reply_of w t c)) (after w t c)
go t (asks words k) w = record { world = w; rest = asks words k }
