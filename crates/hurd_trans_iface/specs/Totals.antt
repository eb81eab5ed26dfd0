-- What the files of a tree that entries name have in all, and how far that is from a limit.
use Rattle.std.specs.Prelude.{ℕ, ◌-◌, Bool, false, nat_lt, if◌then◌else◌, Option, Some, None}
use Rattle.std.specs.List.{sum_by}
use Rattle.std.specs.FinMap.{values}
use Rattle.hurd_trans_iface.specs.Nodes.{NodeMap, Node, Header, is_dir}

-- what a node counts for: a file that an entry names has its size
abbrev pub counts_for : Header → ℕ
counts_for h = if is_dir h.kind then 0 else if nat_lt 0 h.links then h.size else 0

-- what nodes count for in all
unfoldable pub total_in : NodeMap → ℕ
total_in m = sum_by (λ (x : Node). counts_for x.header) (values m)

-- how much more there may be, where there is a limit and there is so much; past a limit that was lowered, nothing more
abbrev pub space_with : Option ℕ → ℕ → Option ℕ
space_with None k = None
space_with (Some most) k = Some (most - k)

-- whether what counted for so much comes to count for more than there is space for: only growth is refused
abbrev pub overfills : Option ℕ → ℕ → ℕ → Bool
overfills None before after = false
overfills (Some space) before after = nat_lt space (after - before)
