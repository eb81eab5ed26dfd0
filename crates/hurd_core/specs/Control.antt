-- The server that a port controls, and what it makes of options.
use Rattle.std.specs.Prelude.{ℕ, List, Option, Some, None, Result, Ok, Err}
use Rattle.hurd_creds.specs.declared.name.Name.{Name}
use Rattle.hurd_creds.specs.declared.errno.Errno.{Errno}
use Rattle.hurd_creds.specs.declared.errno.Errno.TheVariants.{EBADF}
use Rattle.hurd_nodes.specs.Shown.{takes_options}
use Rattle.hurd_ports.specs.declared.table.Right.{Right}
use Rattle.hurd_ports.specs.declared.table.Right.TheVariants.{Io, Control, Start}
use Rattle.hurd_ports.specs.Tables.{PortState, or_refuse, right_of}
use Rattle.hurd_machine.specs.declared.call.Reply.TheVariants.{Done}
use Rattle.hurd_machine.specs.World.{World, server_at}
use Rattle.hurd_machine.specs.Change.{retexting}
use Rattle.hurd_machine.specs.Plan.{Plan, answered}

-- the server that a right controls
abbrev pub server_in : Right → Option Name
server_in (Io r) = None
server_in (Control s) = Some s
server_in (Start n) = None

abbrev pub control_in : Result Right Errno → Result Name Errno
control_in (Err e) = Err e
control_in (Ok r) = or_refuse EBADF (server_in r)

-- the server that a task controls by the right under a number: EBADF also where the port is one to use a node
abbrev pub control_of : PortState → ℕ → ℕ → Result Name Errno
control_of h t p = control_in (right_of h t p)

-- a server gets the text that options give it, if any: EDIED, EINVAL
abbrev pub plan_options : World → Name → List (List ℕ) → Plan
plan_options w s words = answered (takes_options words (server_at w s)) (λ a. record { reply = Done; changes = retexting w s a.0 a.1 })
