-- Nodes that are to be made, as the code has them.
use Rattle.std.specs.Prelude.{option_copied}
use Rattle.hurd_core.specs.declared.to_make.NodeToMake.{NodeToMake}
use Rattle.hurd_core.specs.Core.{NewNodeAt}

abbrev pub new_node_of : NodeToMake → NewNodeAt
new_node_of f = record { dir = f.dir; entry = option_copied f.entry; owner = f.owner; group = f.group; mode = f.mode }
