-- The directories that a union shows as one.
use Rattle.std.specs.Prelude.{List, [], Option, Some, None}
use Rattle.hurd_creds.specs.declared.name.Name.{Name}
use Rattle.hurd_trans_iface.specs.Meaning.{root_of}
use Rattle.hurd_trans_iface.specs.declared.root.Crossing.{Crossing}
use Rattle.hurd_trans_iface.specs.declared.root.Crossing.TheVariants.{Union}
use Rattle.hurd_nodes.specs.Shown.{ServerInfo}
use Rattle.hurd_machine.specs.World.{World, info_at}

-- the branches of a server whose root is crossed like this: a union's targets
abbrev pub branches : Crossing → List Name → List Name
branches Union targets = targets
branches _ targets = []

abbrev pub branches_by : Option ServerInfo → List Name
branches_by None = []
branches_by (Some i) = branches (root_of i.kind i.text).crossing i.targets

-- the directories that a node shows as one, in order: the branches of its server, of which a union's root is the only node
abbrev pub branches_at : World → Name → List Name
branches_at w n = branches_by (info_at w n)
