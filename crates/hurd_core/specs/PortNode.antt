-- The node of a port, as the code has it.
use Rattle.std.specs.Prelude.{◌≡◌, ℕ, List, [], Option, Some, None, Result, Ok, Err, option_copied}
use Rattle.hurd_creds.specs.declared.errno.Errno.{Errno}
use Rattle.hurd_creds.specs.declared.attrs.Attrs.{Attrs}
use Rattle.hurd_trans_iface.specs.Nodes.{Header, attrs_with, with_passive}
use Rattle.hurd_nodes.specs.Shown.{header_in}
use Rattle.hurd_machine.specs.Handle.{Named}
use Rattle.hurd_core.specs.declared.port_node.PortNode.{PortNode}

-- the header that attributes tell, and the words of a passive translator
abbrev pub header_with : List (List ℕ) → Attrs → Header
header_with words a = with_passive words (header_in a)

-- words, if there are any
abbrev pub or_no_words : Option (List (List ℕ)) → List (List ℕ)
or_no_words None = []
or_no_words (Some words) = words

-- the header of a port's node
abbrev pub header_of : PortNode → Header
header_of p = header_with (or_no_words (option_copied p.words)) p.attrs

-- a port's right, with the header of its node
abbrev pub named_of : PortNode → Named
named_of p = record { right = p.right.now; header = header_of p }

abbrev pub named : Result PortNode Errno → Result Named Errno
named (Ok p) = Ok (named_of p)
named (Err e) = Err e

-- the code's two ports
abbrev pub both_named : Result (PortNode × PortNode) Errno → Result (Named × Named) Errno
both_named (Ok p) = Ok (named_of p.0, named_of p.1)
both_named (Err e) = Err e

-- the attributes are those of the header, and whether it is an empty directory
abbrev pub IsTold : PortNode → Type 0
IsTold p = p.attrs ≡ attrs_with (header_of p) p.attrs.empty
