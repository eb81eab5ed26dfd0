-- What lookups find, with other names.
use Rattle.std.specs.Prelude.{List, map, None}
use Rattle.std.specs.Option.{option_map}
use Rattle.hurd_creds.specs.declared.name.Name.{Name}
use Rattle.hurd_creds.specs.declared.errno.Errno.TheVariants.{EDIED}
use Rattle.hurd_ports.specs.declared.parents.Parent.{Parent}
use Rattle.hurd_machine.specs.Renamed.{start_renamed, way_renamed}
use Rattle.hurd_core.specs.Core.{NewNodeAt}
use Rattle.hurd_lookup.specs.Getroot.{Entrance}
use Rattle.hurd_lookup.specs.Lookup.{Authority, NewPort, Crossed, Active, Waiting, Outcome, Opens, Makes, Retries, Starts, entry_or}
use Rattle.hurd_laws.proofs.KeptTypes.{Comes, Takes}
use Rattle.hurd_lookup.specs.Resolve.{Leg, awake, leg_request}

-- where one name leads
abbrev pub Stepped : Type 0
Stepped = Comes (entry_or None)

-- where a path ends
abbrev pub Landed : Type 0
Landed = Takes (awake EDIED)

-- how what a lookup finds is to be opened, or made
abbrev pub Asked : Type 0
Asked = Comes leg_request

module _ (f : Name → Name) where
  -- each way of a port names two nodes
  abbrev pub ways_renamed : List Parent → List Parent
  ways_renamed ways = map (way_renamed f) ways

  -- by what a lookup goes: its ways have names
  abbrev pub authority_renamed : Authority → Authority
  authority_renamed q = record q { ways = ways_renamed q.ways }

  -- a port that is to be made names its node, and has ways
  abbrev pub new_port_renamed : NewPort → NewPort
  new_port_renamed e = record e { node = f e.node; parents = ways_renamed e.parents }

  -- what is crossed names the root of a server, if it is one
  abbrev pub crossed_renamed : Crossed → Crossed
  crossed_renamed (Active root) = Active (f root)
  crossed_renamed (Waiting words) = Waiting words

  -- a node that is to be made names its directory
  abbrev pub new_node_renamed : NewNodeAt → NewNodeAt
  new_node_renamed m = record m { dir = f m.dir }

  -- what a lookup is to do
  abbrev pub outcome_renamed : Outcome → Outcome
  outcome_renamed (Opens e) = Opens (new_port_renamed e)
  outcome_renamed (Makes s m ids ways) = Makes (f s) (new_node_renamed m) ids (ways_renamed ways)
  outcome_renamed (Retries kind name at) = Retries kind name (option_map new_port_renamed at)
  outcome_renamed (Starts s) = Starts (start_renamed f s)

  -- from where a path goes on names a node, and has ways
  abbrev pub leg_renamed : Leg → Leg
  leg_renamed l = record l { node = f l.node; ways = ways_renamed l.ways }

  -- the root of a server, and from where it is entered
  abbrev pub entrance_renamed : Entrance → Entrance
  entrance_renamed e = record { root = f e.root; start = f e.start; authority = authority_renamed e.authority }
