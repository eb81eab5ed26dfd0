-- What the nodes of a tree count for.
use Rattle.std.specs.Prelude.{◌≡◌, ◌≢◌, ◌<◌, ◌+◌, ◌^◌, ℕ, Option, Some, None}
use Rattle.std.specs.FinMap as fin
use Rattle.hurd_creds.specs.declared.name.Name.{Name}
use Rattle.hurd_trans_iface.specs.Nodes.{Node, NodeMap}
use Rattle.hurd_trans_iface.specs.Totals.{counts_for, total_in}

-- what a node counts for that may not be there
abbrev pub counted_at : Option Node → ℕ
counted_at None = 0
counted_at (Some x) = counts_for x.header

-- each node counts for less than 2 ^ 64
abbrev pub AreSmall : NodeMap → Type 0
AreSmall m = (n : Name) → counted_at (fin.get m n) < 2 ^ 64

-- the sum, of nodes that each count for less than 2 ^ 64
abbrev pub IsTotal : NodeMap → ℕ → Type 0
IsTotal m total = (total ≡ total_in m) × AreSmall m

-- the sum as it was while one node counted for so much, whatever that one counts for now
abbrev pub WasTotal : NodeMap → Name → ℕ → ℕ → Type 0
WasTotal m n before total =
    (total + counted_at (fin.get m n) ≡ total_in m + before) × ((q : Name) → q ≢ n → counted_at (fin.get m q) < 2 ^ 64)
