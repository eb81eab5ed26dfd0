-- Users of servers, as they are counted.
use Rattle.std.specs.Prelude.{◌≡◌, ℕ, ◌-◌, if◌then◌else◌, List, Option, None, Result, Ok, Err}
use Rattle.hurd_creds.specs.declared.name.Name.{Name}
use Rattle.hurd_creds.specs.declared.errno.Errno.{Errno}
use Rattle.hurd_creds.specs.NameMaps.{NameMap}
use Rattle.hurd_creds.specs.Names.{is_one, same_name}
use Rattle.hurd_nodes.specs.declared.seat.Site.{Site}
use Rattle.hurd_nodes.specs.Held.{home_in}
use Rattle.hurd_ports.specs.declared.table.Right.{Right}
use Rattle.hurd_ports.specs.declared.table.Right.TheVariants.{Io, Control, Start}
use Rattle.hurd_creds.specs.Counts.{counted}
use Rattle.hurd_creds.specs.Weights.{if_so}
use Rattle.hurd_ports.specs.Tables.{Task, count_rights}
use Rattle.hurd_machine.specs.Sight.{uses_server}

-- the server of the node that a right is to use, if it is to use one that is there
abbrev pub home_used : NameMap Site → Right → Option Name
home_used sites (Io r) = home_in sites r.node
home_used sites (Control s) = None
home_used sites (Start n) = None

-- the same of a right that may not be there
abbrev pub home_of : NameMap Site → Result Right Errno → Option Name
home_of sites (Ok r) = home_used sites r
home_of sites (Err e) = None

-- the counts are those of the rights on nodes of each server
abbrev pub AreUsers : List (Name × ℕ) → NameMap Site → List Task → Type 0
AreUsers es sites ts = (s : Name) → counted es s ≡ count_rights (uses_server sites s) ts

-- how many users server s has, which had k, once server p has come: p has those of its root, the one that left for it has none, and the one that
-- had the root before, if any, has those of the root no more
abbrev pub reseated : Option Name → ℕ → Option Name → Name → Name → ℕ → ℕ
reseated old uses instead p s k = if same_name s p then uses else if is_one s instead then 0 else k - if_so (is_one s old) uses
