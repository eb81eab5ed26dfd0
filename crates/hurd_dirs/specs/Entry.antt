-- Names in directories: which bytes are a name, and who may change which entries.
use Rattle.std.specs.Prelude.{ℕ, ◌==◌, ◌&&◌, ◌||◌, not, Bool, List, [], codes, length, nat_le, Result, Ok}
use Rattle.std.specs.List.{list_any}
use Rattle.std.specs.Str.{bytes_eq}
use Rattle.hurd_creds.specs.declared.attrs.Want.TheVariants.{Write, Exec}
use Rattle.hurd_creds.specs.declared.errno.Errno.{Errno}
use Rattle.hurd_creds.specs.declared.errno.Errno.TheVariants.{EACCES, EINVAL, ENAMETOOLONG, ENOENT, ENOTDIR, EROFS}
use Rattle.hurd_creds.specs.Access.{IdSets, may, is_root, holds_uid}
use Rattle.hurd_creds.specs.Bits.{has_bits}
use Rattle.hurd_creds.specs.Limits.{most_name}
use Rattle.hurd_trans_iface.specs.Nodes.{Header, is_dir}
use Rattle.hurd_nodes.specs.Shown.{tree_by}
use Rattle.hurd_machine.specs.World.{World, info_at, is_removed}
use Rattle.hurd_machine.specs.Plan.{given, first}
use Rattle.hurd_machine.specs.Handle.{Named, port_asks}
use Rattle.hurd_machine.specs.Sight.{bare}

-- some bytes, none of them a slash, and neither `.` nor `..`
abbrev pub is_name : List ℕ → Bool
is_name name = not (bytes_eq name []) && (not (bytes_eq name (codes ".")) && (not (bytes_eq name (codes "..")) && not (list_any (λ b. b == 47) name)))

-- a name that an entry may have: else EINVAL, or ENAMETOOLONG
abbrev pub name_asks : List ℕ → Result (Unit {0}) Errno
name_asks name = given EINVAL (is_name name) (given ENAMETOOLONG (nat_le (length name) most_name) (Ok tt))

-- a directory of a tree
abbrev pub tree_asks : World → Named → Result (Unit {0}) Errno
tree_asks w a = given ENOTDIR (is_dir a.header.kind) (given EROFS (tree_by (info_at w a.right.node)) (Ok tt))

-- whose entries the port's ids may search and change
abbrev pub may_change : Named → Bool
may_change a = may a.right.ids (bare a.header) Exec && may a.right.ids (bare a.header) Write

-- and that isn't removed
abbrev pub change_asks : World → Named → Result (Unit {0}) Errno
change_asks w a = given EACCES (may_change a) (given ENOENT (not (is_removed w a.right.node a.header)) (Ok tt))

-- a directory in which entries may be made, changed and taken away
abbrev pub dir_asks : World → Named → Result (Unit {0}) Errno
dir_asks w a = first (tree_asks w a) (λ u. change_asks w a)

-- a port on such a directory, and a name in it
abbrev pub entry_asks : World → ℕ → ℕ → List ℕ → Result Named Errno
entry_asks w t p name =
    first (port_asks w t p) (λ a.
    first (name_asks name) (λ u.
    first (dir_asks w a) (λ v. Ok a)))

-- the bit of a sticky directory's mode
abbrev pub STICKY : ℕ
STICKY = 512

-- the sticky rule: in a sticky directory an entry is taken away by root, the directory's owner, or its own owner alone
abbrev pub may_take : IdSets → Header → Header → Bool
may_take ids dir entry = not (has_bits dir.mode.0 STICKY) || (is_root ids || (holds_uid ids dir.owner || holds_uid ids entry.owner))
