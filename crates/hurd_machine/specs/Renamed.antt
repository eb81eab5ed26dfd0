-- Worlds with other names of things.
use Rattle.std.specs.Prelude.{◌≡◌, ◌+◌, ℕ, suc, List, [], ◌∷◌, map}
use Rattle.std.specs.Option.{option_map}
use Rattle.std.specs.FinMap as fin
use Rattle.hurd_creds.specs.declared.name.Name.{Name}
use Rattle.hurd_creds.specs.NameMaps.{NameMap, keyed}
pub use Rattle.hurd_trans_iface.specs.Renamed.{header_renamed, entry_renamed, body_renamed, node_renamed}
use Rattle.hurd_nodes.specs.declared.seat.Site.{Site}
use Rattle.hurd_nodes.specs.Shown.{ServerInfo, boot_name}
use Rattle.hurd_ports.specs.declared.parents.Parent.{Parent}
use Rattle.hurd_ports.specs.declared.table.IoRight.{IoRight}
use Rattle.hurd_ports.specs.declared.table.Opened.{Opened}
use Rattle.hurd_ports.specs.declared.table.Right.{Right}
use Rattle.hurd_ports.specs.declared.table.Right.TheVariants.{Io, Control, Start}
use Rattle.hurd_ports.specs.declared.table.PendingStart.{PendingStart}
use Rattle.hurd_ports.specs.declared.table.Port.{Port}
use Rattle.hurd_ports.specs.Tables.{Task}
use Rattle.hurd_machine.specs.World.{World}

-- other names of things
pub record OtherNames : Type 0 where
  pub to : Name → Name
  -- different things have different ones
  pub apart : (n m : Name) → to n ≡ to m → n ≡ m
  -- the boot server and its root, which have one name, keep it
  pub boot : to boot_name ≡ boot_name
  -- how many more things each task has made
  pub more : ℕ → ℕ

-- the map with other names, and a function at each value
unfoldable pub map_renamed : {X Y : Type 0} → (Name → Name) → (X → Y) → NameMap X → NameMap Y
map_renamed f g m = keyed (λ e. f e.0) (λ e. g e.1) (fin.entries m)

module _ (f : Name → Name) where
  -- a site names its node's server, and the one that is active there
  abbrev pub site_renamed : Site → Site
  site_renamed r = record { home = f r.home; active = option_map f r.active }

  -- a server names its root and its targets
  abbrev pub info_renamed : ServerInfo → ServerInfo
  info_renamed i = record i { root = f i.root; targets = map f i.targets }

  -- an open names its node
  abbrev pub open_renamed : Opened → Opened
  open_renamed o = record o { node = f o.node }

  -- a way names two nodes
  abbrev pub way_renamed : Parent → Parent
  way_renamed p = record { at = f p.at; parent = f p.parent }

  -- a right to use a node names that, its open, and its ways
  abbrev pub io_renamed : IoRight → IoRight
  io_renamed r = record r { node = f r.node; open_name = f r.open_name; parents = map way_renamed r.parents }

  -- a right of any sort
  abbrev pub right_renamed : Right → Right
  right_renamed (Io r) = Io (io_renamed r)
  right_renamed (Control s) = Control (f s)
  right_renamed (Start n) = Start (f n)

  -- a port has a right
  abbrev pub port_renamed : Port → Port
  port_renamed p = record p { right = right_renamed p.right }

  -- a pending start names a node
  abbrev pub start_renamed : PendingStart → PendingStart
  start_renamed s = record s { node = f s.node }

  -- a task, which has made so many more things
  abbrev pub task_renamed : ℕ → Task → Task
  task_renamed more x = record x {
    ports = map port_renamed x.ports;
    inbox = map right_renamed x.inbox;
    made = x.made + more;
    pending = option_map start_renamed x.pending;
  }

  -- tasks, each of which has made so many more
  abbrev pub tasks_renamed : (ℕ → ℕ) → List Task → List Task
  tasks_renamed more [] = []
  tasks_renamed more (x ∷ xs) = task_renamed (more 0) x ∷ tasks_renamed (λ t. more (suc t)) xs

-- the world with other names of things
abbrev pub renamed : OtherNames → World → World
renamed f w = record {
  nodes = map_renamed f.to (node_renamed f.to) w.nodes;
  sites = map_renamed f.to (site_renamed f.to) w.sites;
  servers = map_renamed f.to (info_renamed f.to) w.servers;
  opens = map_renamed f.to (open_renamed f.to) w.opens;
  tasks = tasks_renamed f.to f.more w.tasks;
}
