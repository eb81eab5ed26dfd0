-- How often servers aim at each node.
use Rattle.std.specs.Prelude.{◌≡◌, ℕ, List}
use Rattle.std.specs.FinMap as fin
use Rattle.hurd_creds.specs.declared.name.Name.{Name}
use Rattle.hurd_creds.specs.Names.{same_name}
use Rattle.hurd_creds.specs.NameMaps.{NameMap}
use Rattle.hurd_creds.specs.Weights.{count_list, weigh_list}
use Rattle.hurd_creds.specs.Counts.{counted}
use Rattle.hurd_nodes.specs.Held.{Seated}

-- how often a list names a node
abbrev pub listings : Name → List Name → ℕ
listings n ns = count_list (same_name n) ns

-- how often servers aim at a node
unfoldable pub aimed : {S : Type 0} → NameMap (Seated S) → Name → ℕ
aimed seats n = weigh_list (λ e. listings n e.1.targets) (fin.entries seats)

-- the counts are those of the targets of all servers
abbrev pub AreAims : {S : Type 0} → List (Name × ℕ) → NameMap (Seated S) → Type 0
AreAims es seats = (n : Name) → counted es n ≡ aimed seats n
