-- What rights name, and how often it is counted.
use Rattle.std.specs.Prelude.{◌≡◌, ℕ, ◌*◌, ◌-◌, ◌≤◌, Bool, if◌then◌else◌, List, [], ◌∷◌, Option, Some, None, length, nat_lt}
use Rattle.indexmap.specs.IndexMap.{spare}
use Rattle.hurd_creds.specs.declared.name.Name.{Name}
use Rattle.hurd_creds.specs.Names.{same_name}
use Rattle.hurd_creds.specs.Limits.{most_tasks}
use Rattle.hurd_ports.specs.Limits.{most_parents}
use Rattle.hurd_creds.specs.Weights.{count_list}
use Rattle.hurd_creds.specs.Counts.{counted}
use Rattle.hurd_ports.specs.Tables.{Task, ways_of, weigh_rights}
use Rattle.hurd_ports.specs.declared.table.Right.{Right}
use Rattle.hurd_ports.specs.declared.table.Right.TheVariants.{Io, Control, Start}
use Rattle.hurd_ports.specs.declared.book.Book.{Book}

-- what can be named: an open; a node, as that which a right is to use, or besides: both of each way, and that on which a translator is to
-- start; a server
pub data Sort : Type 0 where
  Opens : Sort
  Uses : Sort
  Besides : Sort
  Servers : Sort

-- the names of a sort that a right has
abbrev pub names_of : Sort → Right → List Name
names_of Opens (Io r) = r.open_name ∷ []
names_of Opens (Control s) = []
names_of Opens (Start n) = []
names_of Uses (Io r) = r.node ∷ []
names_of Uses (Control s) = []
names_of Uses (Start n) = []
names_of Besides (Io r) = ways_of r.parents
names_of Besides (Control s) = []
names_of Besides (Start n) = n ∷ []
names_of Servers (Io r) = []
names_of Servers (Control s) = s ∷ []
names_of Servers (Start n) = []

-- how often a right names something
abbrev pub naming : Sort → Name → Right → ℕ
naming k n r = count_list (same_name n) (names_of k r)

-- how many ways a right has beyond those that it can have
abbrev pub excess : Right → ℕ
excess (Io r) = length r.parents - most_parents
excess (Control s) = 0
excess (Start n) = 0

-- the counts of a sort
abbrev pub entries_of : Sort → Book → List (Name × ℕ)
entries_of Opens b = b.opens.entries
entries_of Uses b = b.uses.entries
entries_of Besides b = b.besides.entries
entries_of Servers b = b.servers.entries

-- how often something is counted
abbrev pub count_of : Sort → Name → Book → ℕ
count_of k n b = counted (entries_of k b) n

-- whether it is counted at all
abbrev pub is_counted : Sort → Book → Name → Bool
is_counted k b n = nat_lt 0 (count_of k n b)

-- the open that a right may have had, unless it is held
abbrev pub unheld : (Name → Bool) → Option Name → Option Name
unheld held None = None
unheld held (Some o) = if held o then None else Some o

-- for how many names more of a sort there is room in memory
abbrev pub room_in : Sort → Book → ℕ
room_in Opens b = spare b.opens
room_in Uses b = spare b.uses
room_in Besides b = spare b.besides
room_in Servers b = spare b.servers

-- how many names of a sort a right can have: of nodes besides its own two for each way
abbrev pub room_for : Sort → ℕ
room_for Opens = 1
room_for Uses = 1
room_for Besides = 2 * most_parents
room_for Servers = 1

-- there is room for what one right names
abbrev pub HasRoom : Book → Type 0
HasRoom b = (k : Sort) → room_for k ≤ room_in k b

-- 2^100. Nothing is counted so often: there are 64 tasks at most, each has fewer than 2^64 rights, and a right names a thing 129 times
-- at most
abbrev pub most_counted : ℕ
most_counted = 1267650600228229401496703205376

-- the counts are those of the rights of all tasks; tasks are few and ways are short, so that a count fits
pub record AreCounted (b : Book) (ts : List Task) : Type 0 where
  pub all : (k : Sort) (n : Name) → count_of k n b ≡ weigh_rights (naming k n) ts
  pub few : length ts ≤ most_tasks
  pub short : weigh_rights excess ts ≡ 0
