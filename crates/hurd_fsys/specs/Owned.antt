-- Ports on nodes that their ids own.
use Rattle.std.specs.Prelude.{ℕ, Result, Ok}
use Rattle.hurd_creds.specs.declared.errno.Errno.{Errno}
use Rattle.hurd_creds.specs.declared.errno.Errno.TheVariants.{EPERM}
use Rattle.hurd_creds.specs.Access.{owns}
use Rattle.hurd_machine.specs.World.{World}
use Rattle.hurd_machine.specs.Plan.{given, first}
use Rattle.hurd_machine.specs.Handle.{Named, port_asks}
use Rattle.hurd_machine.specs.Sight.{bare}

-- a port on a node that its ids own: EBADF, EDIED, EPERM
abbrev pub owned_asks : World → ℕ → ℕ → Result Named Errno
owned_asks w t p =
    first (port_asks w t p) (λ n.
    given EPERM (owns n.right.ids (bare n.header)) (Ok n))
