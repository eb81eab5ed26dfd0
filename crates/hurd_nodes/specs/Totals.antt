-- What the files of a server that entries name have in all.
use Rattle.std.specs.Prelude.{ℕ, Bool, true, false, Option, Some, None}
use Rattle.std.specs.FinMap.{get}
use Rattle.hurd_creds.specs.declared.name.Name.{Name}
use Rattle.hurd_trans_iface.specs.Totals.{total_in}
pub use Rattle.hurd_nodes.specs.Shown.{nodes_in}
use Rattle.hurd_nodes.specs.Shown.{NodeState, tree_by}

-- the total of a server, if it is there and keeps a tree

abbrev pub total_if : Bool → ℕ → Option ℕ
total_if true k = Some k
total_if false k = None

abbrev pub total_of : NodeState → Name → Option ℕ
total_of h s = total_if (tree_by (get h.servers s)) (total_in (nodes_in h.nodes h.sites s))
