-- Which parts of a world a set of tasks sees, by what was gathered when it was looked at.
use Rattle.std.specs.Prelude.{◌≡◌, ◌↔◌, ℕ, [], ◌||◌, ◌&&◌, not, is_some, Bool, true, false, Option, Some, None}
use Rattle.std.specs.FinMap as fin
use Rattle.hurd_creds.specs.declared.name.Name.{Name}
use Rattle.hurd_creds.specs.declared.attrs.Want.TheVariants.{Read, Write, Exec}
use Rattle.hurd_creds.specs.Access.{IdSets}
use Rattle.hurd_creds.specs.Bits.{READ, WRITE}
use Rattle.hurd_creds.specs.Names.{is_one, same_name}
use Rattle.hurd_trans_iface.specs.Nodes.{Header, header_of, is_dir}
use Rattle.hurd_trans_iface.specs.declared.root.Root.{Root}
use Rattle.hurd_nodes.specs.Shown.{NodeState, ServerInfo, boot_name, limit_by, server_of, tree_by}
use Rattle.hurd_nodes.specs.Held.{home_in}
use Rattle.std.specs.Option.{option_map}
use Rattle.hurd_nodes.specs.Needs.{counts_by}
use Rattle.hurd_ports.specs.declared.table.Right.TheVariants.{Control}
use Rattle.hurd_machine.specs.World.{World, nodes_of, shape_at}
use Rattle.hurd_trans_iface.specs.Texts.{reads_text}
use Rattle.hurd_machine.specs.Sight.{Holds, Sees, bare}
use Rattle.hurd_sight.specs.Reach.{Reaches, among, could_with}
use Rattle.hurd_sight.specs.Found.{FoundAll, IsSight, is_found}
use Rattle.hurd_sight.specs.Parts.{AreThose, HasFor, HasOpen, KnownByNode, SentByNode, is_in, known_at, named, no_names, of_found, part_of, rights_held, with_rights}
use Rattle.hurd_sight.specs.declared.looks.Sight.{Sight}
use Rattle.hurd_sight.specs.declared.parts.SeenPart.{SeenPart}
use Rattle.hurd_sight.specs.declared.parts.SeenPart.TheVariants as seen

-- all that is wanted to say which parts of a world S sees
pub record Looks (S : ℕ → Bool) (w : World) (v : Sight) : Type 0 where
  pub tasks : (t : ℕ) → among v.tasks.items t ≡ S t
  pub reach : Reaches S w v.reach
  pub found : IsSight S w v.found
  pub opens : AreThose v.rights.opens (HasOpen S w)
  pub readable : AreThose v.rights.readable (HasFor READ S w)
  pub writable : AreThose v.rights.writable (HasFor WRITE S w)
  pub controlled : AreThose v.rights.controlled (λ s. Holds S w (Control s))
  pub known : AreThose v.known (KnownByNode S w)
  pub sendable : AreThose v.sendable (SentByNode S w)

-- how that was gathered: in the order of the tasks, and of what each of them has
pub record Gathered (w : World) (v : Sight) : Type 0 where
  pub found : FoundAll (nodes_of w) w.tasks v.reach v.tasks.items v.found
  pub rights : v.rights ≡ with_rights w.opens (rights_held w.tasks v.tasks.items) no_names
  pub known : v.known ≡ named (of_found (known_at (nodes_of w)) v.found) []

-- whether a node of this header could be written, or is open to write
abbrev pub puts_with : Sight → Name → Header → Bool
puts_with v n x = could_with v.reach (bare x) Write || is_in n v.rights.writable

-- whether it is told what is in a node of this header: it could be read, or searched if it is a directory, or is open to read;
-- or its server is told who reads and who writes, and it could be written or is open to write
abbrev pub reads_with : NodeState → Sight → Name → Option Header → Bool
reads_with h v n None = false
reads_with h v n (Some x) =
    could_with v.reach (bare x) Read
    || ((is_dir x.kind && could_with v.reach (bare x) Exec) || (is_in n v.rights.readable || (counts_by (server_of h n) && puts_with v n x)))

-- whether a node of this header could be written
abbrev pub could_write : IdSets → Option Header → Bool
could_write ids None = false
could_write ids (Some a) = could_with ids (bare a) Write

-- whether a node could be written, if there is one
abbrev pub writes_at : NodeState → IdSets → Option Name → Bool
writes_at h ids None = false
writes_at h ids (Some p) = could_write ids (header_of h.nodes p)

-- whether it is told if a directory of this header is empty
abbrev pub tells_empty : NodeState → Sight → Name → Option Header → Bool
tells_empty h v n None = false
tells_empty h v n (Some x) = is_dir x.kind && (reads_with h v n (Some x) || writes_at h v.reach x.parent)

-- whether reading a root gives a text, if there is a root
abbrev pub tells_text : Option Root → Bool
tells_text None = false
tells_text (Some r) = reads_text r

-- whether it is seen what is in a node of a server, and reading that gives the text
abbrev pub shows_root : NodeState → Sight → Name → Name → Bool
shows_root h v s root = is_one s (home_in h.sites root) && (tells_text (shape_at h root) && (is_found root v.found && reads_with h v root (header_of h.nodes root)))

-- whether the text of a server is seen, by its root, if it is there: it may be sent away, or reading the root gives it
abbrev pub shows_text : NodeState → Sight → Name → Option Name → Bool
shows_text h v s None = false
shows_text h v s (Some root) = (is_in s v.sendable || is_in s v.rights.controlled) || shows_root h v s root

-- whether a server keeps a tree that has a limit, or that may be given one by what is seen of it
abbrev pub shows_total : NodeState → Sight → Name → Bool
shows_total h v s = tree_by (fin.get h.servers s) && (is_some (limit_by (fin.get h.servers s)) || (is_in s v.sendable || is_in s v.rights.controlled))

-- whether a part is seen
abbrev pub sees_with : NodeState → Sight → SeenPart → Bool
sees_with h v (seen.Attributes n) = is_found n v.found
sees_with h v (seen.Empty n) = is_found n v.found && tells_empty h v n (header_of h.nodes n)
sees_with h v (seen.Body n) = is_found n v.found && reads_with h v n (header_of h.nodes n)
sees_with h v (seen.Ends n) = counts_by (server_of h n) && (is_found n v.found && reads_with h v n (header_of h.nodes n))
sees_with h v (seen.Open o) = is_in o v.rights.opens
sees_with h v (seen.Options s) = is_in s v.known || is_in s v.rights.controlled
sees_with h v (seen.Text s) = shows_text h v s (option_map (λ (i : ServerInfo). i.root) (fin.get h.servers s))
sees_with h v (seen.Users s) = not (same_name s boot_name) && (is_some (fin.get h.servers s) && (is_in s v.sendable || is_in s v.rights.controlled))
sees_with h v (seen.Total s) = (is_in s v.known || is_in s v.rights.controlled) && shows_total h v s
sees_with h v (seen.Task t) = among v.tasks.items t.0

-- a part is told exactly where S sees it, of the nodes that were looked at
abbrev pub PartsAreSeen : Type 0
PartsAreSeen = (S : ℕ → Bool) (w : World) (v : Sight) (p : SeenPart) → Looks S w v → (sees_with (nodes_of w) v p ≡ true) ↔ Sees S w (part_of p)
