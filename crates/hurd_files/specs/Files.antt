-- Files and directories.
use Rattle.std.specs.Prelude.{ℕ, List, ◌∷◌, codes, Result, Ok, IfOk}
use Rattle.hurd_creds.specs.declared.name.Name.{Name}
use Rattle.hurd_creds.specs.declared.errno.Errno.{Errno}
use Rattle.hurd_creds.specs.declared.errno.Errno.TheVariants.{ENOTDIR}
use Rattle.hurd_creds.specs.Bits.{READ, WRITE}
use Rattle.hurd_trans_iface.specs.Nodes.{is_dir}
use Rattle.hurd_trans_iface.specs.Answers.{names_of}
use Rattle.hurd_trans_iface.specs.Behaviour.{edits_of, resizing}
use Rattle.hurd_nodes.specs.Needs.{FreeSize}
use Rattle.hurd_ports.specs.Tables.{io_right_of}
use Rattle.hurd_machine.specs.declared.call.Reply.TheVariants.{Done, Names}
use Rattle.hurd_machine.specs.World.{World, asked_at, body_at, nodes_of, ports_of}
use Rattle.hurd_machine.specs.Change.{changes_of}
use Rattle.hurd_machine.specs.Plan.{Plan, given, first, answered, looks}
use Rattle.hurd_machine.specs.Handle.{handle_asks}
use Rattle.hurd_machine.specs.Sight.{Part}
use Rattle.hurd_machine.specs.Touched.{asked_parts, Nothing, OnDid}
use Rattle.hurd_core.specs.Branches.{branches_at}
use Rattle.hurd_files.specs.Listing.{all_names}

-- the node of a port that is open to write
abbrev pub set_size_asks : World → ℕ → ℕ → Result Name Errno
set_size_asks w t p = first (handle_asks w t p WRITE) (λ a. Ok a.node)

-- file_set_size: cut, or grown by zero bytes
abbrev pub plan_set_size : World → ℕ → ℕ → ℕ → Plan
plan_set_size w t p size =
    answered (set_size_asks w t p) (λ n. answered (asked_at (resizing size) n w) (λ d. record { reply = Done; changes = changes_of (edits_of n (Ok d)) }))

abbrev pub touches_set_size : World → ℕ → ℕ → ℕ → Part → Type 0
touches_set_size w t p size = asked_parts (set_size_asks w t p) (λ n. asked_parts (asked_at (resizing size) n w) (λ d. OnDid w n d))

-- a size that needs no memory: it is refused before the server is asked, or is a cut, or of a stream
abbrev pub free_set_size : World → ℕ → ℕ → ℕ → Type 0
free_set_size w t p size = IfOk (set_size_asks w t p) (λ n. FreeSize size n (nodes_of w))

-- all that reading a directory asks, with its refusals in order
abbrev pub readdir_asks : World → ℕ → ℕ → Result (List (List ℕ)) Errno
readdir_asks w t p =
    first (handle_asks w t p READ) (λ a.
    given ENOTDIR (is_dir a.kind) (
    first (io_right_of (ports_of w) t p) (λ q.
    first (names_of (body_at w a.node)) (λ own.
    Ok (all_names w q.ids (branches_at w a.node) own)))))

-- dir_readdir: `.`, `..`, and the names of the entries in order; of a union, its own and after these those of its branches
abbrev pub plan_readdir : World → ℕ → ℕ → Plan
plan_readdir w t p = looks (readdir_asks w t p) (λ names. Names (codes "." ∷ codes ".." ∷ names))

abbrev pub touches_readdir : World → ℕ → ℕ → Part → Type 0
touches_readdir w t p = Nothing
