-- Making directories.
use Rattle.std.specs.Prelude.{◌≡◌, ◌⊎◌, ℕ, List, is_none, Some, Result, Ok, Err}
use Rattle.hurd_creds.specs.declared.mode.Mode.{Mode}
use Rattle.hurd_creds.specs.declared.errno.Errno.{Errno}
use Rattle.hurd_creds.specs.declared.errno.Errno.TheVariants.{EACCES, EEXIST}
use Rattle.hurd_creds.specs.Access.{least_uid}
use Rattle.hurd_creds.specs.Bits.{known_mode}
use Rattle.hurd_trans_iface.specs.Answers.{entry_of}
use Rattle.hurd_machine.specs.declared.call.Reply.TheVariants.{Done}
use Rattle.hurd_machine.specs.World.{World, body_at}
use Rattle.hurd_machine.specs.Plan.{Plan, on, given, first, answered}
use Rattle.hurd_machine.specs.Handle.{Named}
use Rattle.hurd_machine.specs.Sight.{Part, EmptyOf, BodyOf}
use Rattle.hurd_machine.specs.Touched.{asked_parts}
use Rattle.hurd_core.specs.Core.{NewNodeAt, making_dir_asks, making_dir}
use Rattle.hurd_core.specs.ToMake.{new_node_of}
use Rattle.hurd_core.specs.declared.to_make.NodeToMake.{NodeToMake}
use Rattle.hurd_dirs.specs.Entry.{entry_asks}

-- a node made by a port: it belongs to the least uid of the port, and to the directory's group
abbrev pub node_by : Named → List ℕ → ℕ → Mode → NewNodeAt
node_by a name owner mode = record { dir = a.right.node; entry = Some name; owner = owner; group = a.header.group; mode = known_mode mode }

-- which directory is to be made
abbrev pub mkdir_asks : World → ℕ → ℕ → List ℕ → Mode → Result NewNodeAt Errno
mkdir_asks w t p name mode =
    first (entry_asks w t p name) (λ a.
    on EACCES (least_uid a.right.ids) (λ owner.
    given EEXIST (is_none (entry_of name (body_at w a.right.node))) (
    Ok (node_by a name owner mode))))

-- it is made, with its entry
abbrev pub mkdir : World → ℕ → NewNodeAt → Plan
mkdir w t f = answered (making_dir_asks w t f) (λ m. record { reply = Done; changes = making_dir t f m })

-- dir_mkdir: a directory in the port's directory
abbrev pub plan_mkdir : World → ℕ → ℕ → List ℕ → Mode → Plan
plan_mkdir w t p name mode = answered (mkdir_asks w t p name mode) (λ f. mkdir w t f)

-- the entries of the directory above, and that it isn't empty
abbrev pub touches_mkdir : World → ℕ → ℕ → List ℕ → Mode → Part → Type 0
touches_mkdir w t p name mode =
    asked_parts (mkdir_asks w t p name mode) (λ f. asked_parts (making_dir_asks w t f) (λ m q. (q ≡ BodyOf f.dir) ⊎ (q ≡ EmptyOf f.dir)))

-- what the code is to make is what is asked for
abbrev pub to_make : Result NodeToMake Errno → Result NewNodeAt Errno
to_make (Ok f) = Ok (new_node_of f)
to_make (Err e) = Err e
