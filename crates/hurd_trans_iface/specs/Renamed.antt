-- Nodes with other names of things.
use Rattle.std.specs.Prelude.{map}
use Rattle.std.specs.Option.{option_map}
use Rattle.hurd_creds.specs.declared.name.Name.{Name}
use Rattle.hurd_trans_iface.specs.Nodes.{Node, Header, Body, Content, Listing, Entry}

module _ (f : Name → Name) where
  -- a header names a parent
  abbrev pub header_renamed : Header → Header
  header_renamed h = record h { parent = option_map f h.parent }

  -- an entry names a node
  abbrev pub entry_renamed : Entry → Entry
  entry_renamed e = record e { node = f e.node }

  -- a directory names what its entries do
  abbrev pub body_renamed : Body → Body
  body_renamed (Content bs) = Content bs
  body_renamed (Listing es) = Listing (map entry_renamed es)

  -- a node, whose header and body have names
  abbrev pub node_renamed : Node → Node
  node_renamed x = record { header = header_renamed x.header; body = body_renamed x.body }
