-- Making files that no entry names.
use Rattle.std.specs.Prelude.{◌≡◌, ℕ, None, Result, Ok, Err}
use Rattle.hurd_creds.specs.declared.mode.Mode.{Mode}
use Rattle.hurd_creds.specs.declared.open_flags.OpenFlags.{OpenFlags}
use Rattle.hurd_creds.specs.declared.errno.Errno.{Errno}
use Rattle.hurd_creds.specs.declared.errno.Errno.TheVariants.{EACCES}
use Rattle.hurd_creds.specs.Access.{least_uid}
use Rattle.hurd_creds.specs.Bits.{known_mode, open_modes}
use Rattle.hurd_creds.specs.declared.name.Name.{Name}
use Rattle.hurd_ports.specs.Tables.{Task}
use Rattle.hurd_machine.specs.declared.call.Reply.TheVariants.{Port}
use Rattle.hurd_machine.specs.World.{World}
use Rattle.hurd_machine.specs.Plan.{Plan, on, first, answered}
use Rattle.hurd_machine.specs.Handle.{Named, port_asks}
use Rattle.hurd_machine.specs.Sight.{Part, UsersOf}
use Rattle.hurd_machine.specs.Touched.{asked_parts}
use Rattle.hurd_core.specs.Core.{NewNodeAt, making_asks, making_open}
use Rattle.hurd_core.specs.ToMake.{new_node_of}
use Rattle.hurd_core.specs.PortNode.{named_of}
use Rattle.hurd_dirs.specs.declared.file.FileToMake.{FileToMake}
use Rattle.hurd_dirs.specs.Entry.{dir_asks}

-- a file made by a port: it belongs to the least uid of the port, and to the directory's group
abbrev pub file_by : Named → ℕ → Mode → NewNodeAt
file_by a owner mode = record { dir = a.right.node; entry = None; owner = owner; group = a.header.group; mode = known_mode mode }

-- which file is to be made, and by which port
abbrev pub mkfile_asks : World → ℕ → ℕ → Mode → Result (Named × NewNodeAt) Errno
mkfile_asks w t p mode =
    first (port_asks w t p) (λ a.
    first (dir_asks w a) (λ u.
    on EACCES (least_uid a.right.ids) (λ owner. Ok (a, file_by a owner mode))))

-- it is made by a task, of a server, and opened with the port's ids and without a test
abbrev pub making_file : ℕ → OpenFlags → Named × NewNodeAt → Task × Name → Plan
making_file t flags a m = record { reply = Port m.0.next; changes = making_open t a.1 a.0.right.ids a.0.right.parents (open_modes flags) m }

abbrev pub mkfile : World → ℕ → OpenFlags → Named × NewNodeAt → Plan
mkfile w t flags a = answered (making_asks w t a.1) (λ m. making_file t flags a m)

-- dir_mkfile: a file of the directory's server that no entry names
abbrev pub plan_mkfile : World → ℕ → ℕ → OpenFlags → Mode → Plan
plan_mkfile w t p flags mode = answered (mkfile_asks w t p mode) (λ a. mkfile w t flags a)

-- the users of that server
abbrev pub touches_mkfile : World → ℕ → ℕ → OpenFlags → Mode → Part → Type 0
touches_mkfile w t p flags mode = asked_parts (mkfile_asks w t p mode) (λ a. asked_parts (making_asks w t a.1) (λ m q. q ≡ UsersOf m.1))

-- what the code is to make is what is asked for
abbrev pub by_named : Result FileToMake Errno → Result (Named × NewNodeAt) Errno
by_named (Ok a) = Ok (named_of a.above, new_node_of a.file)
by_named (Err e) = Err e
