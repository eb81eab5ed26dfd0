-- Ports that control servers.
use Rattle.std.specs.Prelude.{ℕ, Result, Ok}
use Rattle.hurd_creds.specs.declared.name.Name.{Name}
use Rattle.hurd_creds.specs.declared.errno.Errno.{Errno}
use Rattle.hurd_creds.specs.declared.errno.Errno.TheVariants.{EDIED}
use Rattle.hurd_nodes.specs.Shown.{ServerInfo}
use Rattle.hurd_machine.specs.World.{World, ports_of, server_at}
use Rattle.hurd_machine.specs.Plan.{on, first}
use Rattle.hurd_core.specs.Control.{control_of}

-- a server that a port controls, with what is known of it
pub record Controlled : Type 0 where
  pub server : Name
  pub info : ServerInfo

-- a port that controls a server that is there: EBADF, EDIED
abbrev pub control_asks : World → ℕ → ℕ → Result Controlled Errno
control_asks w t c =
    first (control_of (ports_of w) t c) (λ s.
    on EDIED (server_at w s) (λ i. Ok (record { server = s; info = i })))
