-- An entry that goes to another directory, or gets another name.
use Rattle.std.specs.Prelude.{◌≡◌, ◌⊎◌, ℕ, zero, suc, ◌&&◌, ◌||◌, not, Bool, true, false, List, [], Option, Some, None, is_some, if◌then◌else◌, Result, Ok, Err}
use Rattle.hurd_creds.specs.declared.name.Name.{Name}
use Rattle.hurd_creds.specs.declared.attrs.Attrs.{Attrs}
use Rattle.hurd_creds.specs.declared.errno.Errno.{Errno}
use Rattle.hurd_creds.specs.declared.errno.Errno.TheVariants.{EACCES, EBUSY, EDIED, EINVAL, EISDIR, ENOENT, ENOTDIR, ENOTEMPTY, EROFS, EXDEV}
use Rattle.hurd_creds.specs.Names.{is_one, same_name}
use Rattle.hurd_trans_iface.specs.Nodes.{Header, is_dir}
use Rattle.hurd_trans_iface.specs.Answers.{entry_of, move_edits}
use Rattle.hurd_nodes.specs.Shown.{are_kin, tree_by}
use Rattle.hurd_machine.specs.declared.call.Reply.TheVariants.{Done}
use Rattle.hurd_machine.specs.World.{World, header_at, body_at, words_at, home_at, active_at, info_at, is_removed}
use Rattle.hurd_machine.specs.Change.{Change}
use Rattle.hurd_machine.specs.Plan.{Plan, on, given, first, answered}
use Rattle.hurd_machine.specs.Handle.{Named, both_asks}
use Rattle.hurd_machine.specs.Sight.{Part, AttrOf, EmptyOf, BodyOf}
use Rattle.hurd_machine.specs.Touched.{OnLinks, asked_parts}
use Rattle.hurd_core.specs.Core.{settled_edits}
use Rattle.hurd_core.specs.PortNode.{header_with}
use Rattle.hurd_dirs.specs.declared.rename.Renaming.{Renaming}
use Rattle.hurd_dirs.specs.Entry.{name_asks, may_change, may_take}
use Rattle.hurd_dirs.specs.Remove.{is_empty_at}

-- what a header says is above
abbrev pub parent_in : Option Header → Option Name
parent_in None = None
parent_in (Some h) = h.parent

-- a test of what is above, where anything is
abbrev pub above : (Name → Bool) → Option Name → Bool
above test None = false
above test (Some p) = test p

-- whether the node n is met on the way up from d, from parent to parent, in so many steps; where none is left it is
unfoldable pub met_within : ℕ → World → Name → Name → Bool
met_within zero w n d = true
met_within (suc k) w n d = same_name d n || above (met_within k w n) (parent_in (header_at w d))

-- whether the directory d is n, or below it: no tree is so deep that this many steps don't lead out of it
unfoldable pub is_inside : World → Name → Name → Bool
is_inside w n d = met_within 18446744073709551615 w n d

-- two directories of one tree, whose entries both ports' ids may search and change
abbrev pub trees_ask : World → Named → Named → Result (Unit {0}) Errno
trees_ask w a b =
    given ENOTDIR (is_dir a.header.kind && is_dir b.header.kind) (
    given EROFS (tree_by (info_at w a.right.node) && tree_by (info_at w b.right.node)) (
    given EXDEV (are_kin (home_at w a.right.node) (home_at w b.right.node)) (
    given EACCES (may_change a && may_change b) (Ok tt))))

-- what goes: the node of the old name, of the directory's server, with its header; the directory that it goes to stands, and isn't below it
abbrev pub leaves_asks : World → List ℕ → Named → Named → Result (Name × Header) Errno
leaves_asks w name a b =
    given ENOENT (not (is_removed w b.right.node b.header)) (
    on ENOENT (entry_of name (body_at w a.right.node)) (λ n.
    on EDIED (header_at w n) (λ k.
    given EDIED (are_kin (home_at w a.right.node) (home_at w n)) (
    given EACCES (may_take a.right.ids a.header k) (
    given EINVAL (not (is_dir k.kind && is_inside w n b.right.node)) (Ok (n, k)))))))

-- what is under the new name may give way to a node with the header k: no directory to none, an empty directory on which no
-- server is active to one
abbrev pub gives_way : World → Named → Header → Name → Result (Unit {0}) Errno
gives_way w b k m =
    on EDIED (header_at w m) (λ j.
    given EDIED (are_kin (home_at w b.right.node) (home_at w m)) (
    given EACCES (may_take b.right.ids b.header j) (
    given ENOTDIR (not (is_dir k.kind) || is_dir j.kind) (
    given EISDIR (is_dir k.kind || not (is_dir j.kind)) (
    given EBUSY (not (is_dir j.kind && is_some (active_at w m))) (
    given ENOTEMPTY (not (is_dir j.kind) || is_empty_at (body_at w m)) (Ok tt)))))))

-- nothing need give way to the node n where nothing is there, or n itself does
abbrev pub old_asks : World → Named → Name × Header → Option Name → Result (Unit {0}) Errno
old_asks w b l None = Ok tt
old_asks w b l (Some m) = if same_name l.0 m then Ok tt else gives_way w b l.1 m

-- what goes, as the code has it, with the words that are stored with the node in a world
abbrev pub leaving_of : World → Name × Attrs → Name × Header
leaving_of w x = (x.0, header_with (words_at w x.0) x.1)

abbrev pub leaving : World → Result (Name × Attrs) Errno → Result (Name × Header) Errno
leaving w (Ok x) = Ok (leaving_of w x)
leaving w (Err e) = Err e

-- what goes where, with all refusals in order
abbrev pub rename_asks : World → ℕ → ℕ → List ℕ → ℕ → List ℕ → Result Renaming Errno
rename_asks w t p name q new =
    first (both_asks w t p q) (λ a.
    first (name_asks name) (λ u.
    first (name_asks new) (λ v.
    first (trees_ask w a.0 a.1) (λ d.
    first (leaves_asks w name a.0 a.1) (λ l.
    let old : Option Name = entry_of new (body_at w a.1.right.node) in
    first (old_asks w a.1 l old) (λ o.
    Ok (record { from = a.0.right.node; to = a.1.right.node; node = l.0; old = old })))))))

-- what is under the new name is unlinked, the old entry goes, a directory gets its new parent, and the new entry comes last
abbrev pub moves : List ℕ → List ℕ → Renaming → Option Name → List Change
moves name new r old = settled_edits (move_edits r.from name r.to new r.node old)

-- where the node itself is there, nothing changes
abbrev pub renames : List ℕ → List ℕ → Renaming → Option Name → List Change
renames name new r old = if is_one r.node old then [] else moves name new r old

-- dir_rename: an entry goes to another name, in this directory or another
abbrev pub plan_rename : World → ℕ → ℕ → List ℕ → ℕ → List ℕ → Plan
plan_rename w t p name q new = answered (rename_asks w t p name q new) (λ r. record { reply = Done; changes = renames name new r r.old })

-- the entries of both directories, and whether they are empty; the attributes of the node, and of one that it replaces
abbrev pub touches_rename : World → ℕ → ℕ → List ℕ → ℕ → List ℕ → Part → Type 0
touches_rename w t p name q new =
    asked_parts (rename_asks w t p name q new) (λ r a.
    ((a ≡ BodyOf r.from) ⊎ (a ≡ EmptyOf r.from)) ⊎ (((a ≡ BodyOf r.to) ⊎ (a ≡ EmptyOf r.to)) ⊎ ((a ≡ AttrOf r.node) ⊎ ((m : Name) × (r.old ≡ Some m) × ((a ≡ AttrOf m) ⊎ OnLinks w m 1 a)))))
