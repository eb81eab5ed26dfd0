-- The world as a value, and what is read of it.
use Rattle.std.specs.Prelude.{◌≡◌, ◌⊎◌, ◌&&◌, not, is_some, if◌then◌else◌, ℕ, Bool, true, false, List, [], ◌∷◌, Option, Some, None, Result, slice_get}
use Rattle.std.specs.List.{list_any}
use Rattle.std.specs.Option.{option_map}
use Rattle.std.specs.FinMap.{get}
use Rattle.hurd_creds.specs.declared.name.Name.{Name}
use Rattle.hurd_creds.specs.declared.attrs.Kind.{Kind}
use Rattle.hurd_creds.specs.declared.attrs.Kind.TheVariants.{File, Link}
use Rattle.hurd_creds.specs.declared.errno.Errno.{Errno}
use Rattle.hurd_creds.specs.NameMaps.{NameMap}
use Rattle.hurd_creds.specs.Names.{same_name}
use Rattle.hurd_trans_iface.specs.Nodes.{NodeMap, Node, Entry, Header, Body, Content, Listing}
use Rattle.hurd_trans_iface.specs.declared.root.Root.{Root}
use Rattle.hurd_trans_iface.specs.Answers.{leads_away}
use Rattle.hurd_trans_iface.specs.Behaviour.{Question, Effect}
use Rattle.hurd_trans_iface.specs.Meaning.{root_of}
use Rattle.hurd_nodes.specs.declared.seat.Site.{Site}
use Rattle.hurd_nodes.specs.Held.{active_in, home_in}
use Rattle.hurd_nodes.specs.Needs.{counts_by, streams_by}
use Rattle.hurd_nodes.specs.Shown.{NodeState, ServerInfo, boot_name, is_root, server_of, space_at as space_of, effect_at, readable_at as readable_of, can_make, can_link, can_unlink, can_rename, can_set_attrs}
use Rattle.hurd_nodes.specs.Totals.{total_of}
use Rattle.hurd_ports.specs.declared.table.Opened.{Opened}
use Rattle.hurd_ports.specs.declared.table.Ends.{Ends}
use Rattle.hurd_ports.specs.Tables.{PortState, OpenMap, Task, ends_of}

-- nodes by name; of each node its site: its server, and the one that is active on it; servers, opens, and the tasks in order
pub record World : Type 0 where
  pub nodes : NodeMap
  pub sites : NameMap Site
  pub servers : NameMap ServerInfo
  pub opens : OpenMap
  pub tasks : List Task

-- the world that nodes and ports make together
abbrev pub world_from : NodeState → PortState → World
world_from n p = record { nodes = n.nodes; sites = n.sites; servers = n.servers; opens = p.opens; tasks = p.tasks }

abbrev pub nodes_of : World → NodeState
nodes_of w = record { nodes = w.nodes; sites = w.sites; servers = w.servers }

abbrev pub ports_of : World → PortState
ports_of w = record { opens = w.opens; tasks = w.tasks }

-- the root of the tree
abbrev pub boot_root : Name
boot_root = boot_name

abbrev pub task_at : World → ℕ → Option Task
task_at w t = slice_get w.tasks t

abbrev pub open_at : World → Name → Option Opened
open_at w o = get w.opens o

abbrev pub node_at : World → Name → Option Node
node_at w n = get w.nodes n

abbrev pub header_at : World → Name → Option Header
header_at w n = option_map (λ x. x.header) (get w.nodes n)

abbrev pub body_at : World → Name → Option Body
body_at w n = option_map (λ x. x.body) (get w.nodes n)

-- the words of a passive translator that are stored with a node; none where it is gone

abbrev pub words_in : Option Node → List (List ℕ)
words_in None = []
words_in (Some x) = x.header.passive

abbrev pub words_at : World → Name → List (List ℕ)
words_at w n = words_in (get w.nodes n)

-- the site of a node
abbrev pub site_at : World → Name → Option Site
site_at w n = get w.sites n

-- the server of a node
abbrev pub home_at : World → Name → Option Name
home_at w n = home_in w.sites n

-- the server that is active on a node
abbrev pub active_at : World → Name → Option Name
active_at w n = active_in w.sites n

abbrev pub server_at : World → Name → Option ServerInfo
server_at w s = get w.servers s

-- what is known of the server of a node
abbrev pub info_at : World → Name → Option ServerInfo
info_at w n = server_of (nodes_of w) n

-- the nodes that the server of a node aims at
abbrev pub targets_in : Option ServerInfo → List Name
targets_in None = []
targets_in (Some i) = i.targets

abbrev pub targets_at : World → Name → List Name
targets_at w n = targets_in (info_at w n)

-- what the root of a server is by its kind and text, if the server is there

abbrev pub shape_by : Option ServerInfo → Option Root
shape_by None = None
shape_by (Some i) = Some (root_of i.kind i.text)

-- the same of the server of a node
abbrev pub shape_at : NodeState → Name → Option Root
shape_at h n = shape_by (server_of h n)

-- whether a server leads whoever comes to its root to the one node that it aims at

abbrev pub leads_on : Option Root → Bool
leads_on None = false
leads_on (Some r) = leads_away r.crossing

-- whether a server only gives its text: its root is a file or a link

abbrev pub is_text : Kind → Bool
is_text File = true
is_text Link = true
is_text _ = false

abbrev pub gives_text : Option Root → Bool
gives_text None = false
gives_text (Some r) = is_text r.kind

abbrev pub only_reads : Option ServerInfo → Bool
only_reads o = gives_text (shape_by o)

-- whether a node is the root of its server
abbrev pub is_server_root : World → Name → Bool
is_server_root w n = is_root (nodes_of w) n

-- a directory that is removed has no parent, and is no server's root
abbrev pub is_removed : World → Name → Header → Bool
is_removed w d h = not (is_server_root w d) && not (is_some h.parent)

-- what the files of a server that entries name have in all, if it is there and keeps a tree
abbrev pub total_at : World → Name → Option ℕ
total_at w s = total_of (nodes_of w) s

-- how much more the files of a node's server may have in all, if that is limited
abbrev pub space_at : World → Name → Option ℕ
space_at w n = space_of (nodes_of w) n

-- what a node's server answers of it, and does to it
abbrev pub asked_at : {T : Type 0} → Question T → Name → World → Effect T
asked_at q n w = effect_at q n (nodes_of w)

-- how many bytes these are
abbrev pub count_in : Option ℕ → ℕ
count_in None = 0
count_in (Some k) = k

-- how many bytes there are to read in a node at a place; none where it is gone
abbrev pub readable_at : World → Name → ℕ → ℕ
readable_at w n at = count_in (readable_of n at (nodes_of w))

-- whether a node's server is there, and a stream
abbrev pub stream_at : World → Name → Bool
stream_at w n = streams_by (info_at w n)

-- whether a node's server is there, and is told how many opens read and write the node
abbrev pub counts_at : World → Name → Bool
counts_at w n = counts_by (info_at w n)

-- how many opens read a node, and how many write it, where its server is told
abbrev pub ends_at : World → Name → Option Ends
ends_at w n = if counts_at w n then Some (ends_of w.opens n) else None

-- what a server is told of them when its node is read, and when it is written: it isn't told of any, and there are none

abbrev pub writers_in : Option Ends → ℕ
writers_in None = 0
writers_in (Some e) = e.writers

abbrev pub readers_in : Option Ends → ℕ
readers_in None = 0
readers_in (Some e) = e.readers

abbrev pub writers_at : World → Name → ℕ
writers_at w n = writers_in (ends_at w n)

abbrev pub readers_at : World → Name → ℕ
readers_at w n = readers_in (ends_at w n)

-- whether a node of a kind may be made in a directory, under a name or without an entry
abbrev pub makes_at : World → Name → Option (List ℕ) → Kind → Result (Unit {0}) Errno
makes_at w d entry kind = can_make d entry kind (nodes_of w)

-- whether a file may get another name in a directory
abbrev pub links_at : World → Name → List ℕ → Name → Result (Unit {0}) Errno
links_at w d name n = can_link d name n (nodes_of w)

-- whether the entry of a name may be taken out of a directory
abbrev pub unlinks_at : World → Name → List ℕ → Result (Unit {0}) Errno
unlinks_at w d name = can_unlink d name (nodes_of w)

-- whether the entry of a name may go from a directory to another
abbrev pub renames_at : World → Name → List ℕ → Name → Result (Unit {0}) Errno
renames_at w d name e = can_rename d name e (nodes_of w)

-- whether owner, group and mode of a node may be set
abbrev pub sets_attrs_at : World → Name → Result (Unit {0}) Errno
sets_attrs_at w n = can_set_attrs n (nodes_of w)

-- whether a body has an entry for a node

abbrev pub is_of : Name → Entry → Bool
is_of n e = same_name e.node n

abbrev pub lists : Name → Body → Bool
lists n (Content bs) = false
lists n (Listing es) = list_any (is_of n) es

abbrev pub lists_at : Name → Option Body → Bool
lists_at n None = false
lists_at n (Some b) = lists n b

-- x is one of a list
abbrev pub IsAmong : {X : Type 0} → X → List X → Type 0
IsAmong x [] = ⊥
IsAmong x (y ∷ ys) = (y ≡ x) ⊎ IsAmong x ys
