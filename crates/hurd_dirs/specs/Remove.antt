-- Taking entries out of directories.
use Rattle.std.specs.Prelude.{◌≡◌, ◌⊎◌, ℕ, not, Bool, false, List, Option, Some, None, is_some, Result, Ok, Err}
use Rattle.hurd_creds.specs.declared.name.Name.{Name}
use Rattle.hurd_creds.specs.declared.errno.Errno.{Errno}
use Rattle.hurd_creds.specs.declared.errno.Errno.TheVariants.{EACCES, EBUSY, EDIED, EISDIR, ENOENT, ENOTDIR, ENOTEMPTY}
use Rattle.hurd_trans_iface.specs.Nodes.{Header, Body, is_dir, is_empty_dir}
use Rattle.hurd_trans_iface.specs.Answers.{entry_of, unlink_edits}
use Rattle.hurd_nodes.specs.Shown.{are_kin}
use Rattle.hurd_machine.specs.declared.call.Reply.TheVariants.{Done}
use Rattle.hurd_machine.specs.World.{World, header_at, body_at, words_at, home_at, active_at}
use Rattle.hurd_machine.specs.Plan.{Plan, on, given, first, answered}
use Rattle.hurd_machine.specs.Sight.{Part, AttrOf, EmptyOf, BodyOf}
use Rattle.hurd_machine.specs.Touched.{OnLinks, asked_parts}
use Rattle.hurd_core.specs.Core.{settled_edits}
use Rattle.hurd_core.specs.PortNode.{header_with}
use Rattle.hurd_dirs.specs.declared.remove.EntryNode.{EntryNode}
use Rattle.hurd_dirs.specs.Entry.{entry_asks, may_take}

-- an entry: its directory, and the node that it names, with that one's header
pub record Entered : Type 0 where
  pub dir : Name
  pub node : Name
  pub header : Header

-- the same as the code has it, with the words that are stored with the node in a world
abbrev pub entered_of : World → EntryNode → Entered
entered_of w x = record { dir = x.dir; node = x.node; header = header_with (words_at w x.node) x.attrs }

abbrev pub entered : World → Result EntryNode Errno → Result Entered Errno
entered w (Ok x) = Ok (entered_of w x)
entered w (Err e) = Err e

-- whether this is a directory without entries
abbrev pub is_empty_at : Option Body → Bool
is_empty_at None = false
is_empty_at (Some b) = is_empty_dir b

-- the first entry of a name, which names a node of the directory's server
abbrev pub found_asks : World → Name → List ℕ → Result Entered Errno
found_asks w d name =
    on ENOENT (entry_of name (body_at w d)) (λ n.
    on EDIED (header_at w n) (λ h.
    given EDIED (are_kin (home_at w d) (home_at w n)) (Ok (record { dir = d; node = n; header = h }))))

-- an entry that a port's ids may take out of its directory
abbrev pub taking_asks : World → ℕ → ℕ → List ℕ → Result Entered Errno
taking_asks w t p name =
    first (entry_asks w t p name) (λ a.
    first (found_asks w a.right.node name) (λ x.
    given EACCES (may_take a.right.ids a.header x.header) (Ok x)))

-- the entry goes; what it named has one link less, or no parent; and what nothing names then goes
abbrev pub removing : List ℕ → Entered → Plan
removing name x = record { reply = Done; changes = settled_edits (unlink_edits x.dir name (Some x.node)) }

-- the entries of the directory, whether it is empty, the links or the parent of what is removed, and where it is a file's last, the total
abbrev pub OnEntry : World → Entered → Part → Type 0
OnEntry w x q = (q ≡ BodyOf x.dir) ⊎ ((q ≡ EmptyOf x.dir) ⊎ ((q ≡ AttrOf x.node) ⊎ OnLinks w x.node 1 q))

-- dir_unlink: an entry of anything but a directory
abbrev pub unlink_asks : World → ℕ → ℕ → List ℕ → Result Entered Errno
unlink_asks w t p name = first (taking_asks w t p name) (λ x. given EISDIR (not (is_dir x.header.kind)) (Ok x))

abbrev pub plan_unlink : World → ℕ → ℕ → List ℕ → Plan
plan_unlink w t p name = answered (unlink_asks w t p name) (removing name)

abbrev pub touches_unlink : World → ℕ → ℕ → List ℕ → Part → Type 0
touches_unlink w t p name = asked_parts (unlink_asks w t p name) (OnEntry w)

-- dir_rmdir: an entry of a directory on which no server is active, and that has no entries itself
abbrev pub rmdir_asks : World → ℕ → ℕ → List ℕ → Result Entered Errno
rmdir_asks w t p name =
    first (taking_asks w t p name) (λ x.
    given ENOTDIR (is_dir x.header.kind) (
    given EBUSY (not (is_some (active_at w x.node))) (
    given ENOTEMPTY (is_empty_at (body_at w x.node)) (Ok x))))

abbrev pub plan_rmdir : World → ℕ → ℕ → List ℕ → Plan
plan_rmdir w t p name = answered (rmdir_asks w t p name) (removing name)

abbrev pub touches_rmdir : World → ℕ → ℕ → List ℕ → Part → Type 0
touches_rmdir w t p name = asked_parts (rmdir_asks w t p name) (OnEntry w)
