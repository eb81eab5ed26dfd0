-- Servers of one node, which is a directory without entries or no directory.
use Rattle.std.specs.Prelude.{◌≡◌, ℕ, if◌then◌else◌, List, length, nat_lt, Option, Some, None, Result, Ok, Err}
use Rattle.std.specs.FinMap as fin
use Rattle.hurd_creds.specs.Memory.{Meets}
use Rattle.hurd_creds.specs.declared.name.Name.{Name}
use Rattle.hurd_creds.specs.declared.errno.Errno.{Errno}
use Rattle.hurd_creds.specs.declared.errno.Errno.TheVariants.{EDIED, EFBIG, ENOTDIR, EROFS}
use Rattle.hurd_creds.specs.Limits.{most_size}
use Rattle.hurd_trans_iface.specs.Nodes.{Body, Node, NodeMap, is_dir, with_size}
use Rattle.hurd_trans_iface.specs.Behaviour.{Effect, only, told_of}
use Rattle.hurd_trans_iface.specs.Meaning.{Meaning, behaviour_of, new_root, root_body, root_of}
use Rattle.hurd_trans_iface.specs.declared.begun.ServerKind.{ServerKind}
use Rattle.hurd_small.specs.declared.presence.LoneNode.{LoneNode}
use Rattle.hurd_small.specs.declared.presence.Presence.{Presence}
use Rattle.hurd_small.specs.declared.presence.Presence.TheVariants.{Nameless, There, Forgotten}

-- what is in the node of a server of this kind and text that holds these bytes
abbrev pub body_with : ServerKind → List ℕ → List ℕ → Body
body_with kind text held = root_body (is_dir (root_of kind text).kind) held

-- the node of a server of this kind and text that holds these bytes
abbrev pub node_of : ServerKind → List ℕ → List ℕ → LoneNode → Node
node_of kind text held n = record {
  header = with_size ((behaviour_of kind).size text (body_with kind text held)) (new_root (behaviour_of kind) text n.owner n.group n.mode).header;
  body = body_with kind text held;
}

-- the one node, where it is there
abbrev pub nodes_of : ServerKind → List ℕ → List ℕ → Presence → NodeMap
nodes_of kind text held Nameless = fin.empty
nodes_of kind text held (There n) = fin.insert fin.empty n.name (node_of kind text held n)
nodes_of kind text held (Forgotten name) = fin.empty

-- the node's name, which it keeps when it is forgotten
abbrev pub root_name : Presence → Option Name
root_name Nameless = None
root_name (There n) = Some n.name
root_name (Forgotten name) = Some name

-- what a server of one node means
abbrev pub lone_meaning : ServerKind → List ℕ → List ℕ → Presence → Meaning
lone_meaning kind text held p = record { kind = kind; text = text; root = root_name p; nodes = nodes_of kind text held p }

-- the answer to options, and the text that they leave
abbrev pub text_taken : Result (Option (List ℕ)) Errno → List ℕ → Result (Unit {0}) Errno × List ℕ
text_taken (Ok None) text = (Ok tt, text)
text_taken (Ok (Some new)) text = (Ok tt, new)
text_taken (Err e) text = (Err e, text)

-- why nothing changes in a directory, which may not be there, where its server keeps no tree
abbrev pub barred_by : Option Node → Errno
barred_by None = EDIED
barred_by (Some x) = if is_dir x.header.kind then EROFS else ENOTDIR

-- the effect that changes nothing and answers so
abbrev pub still : {T : Type 0} → Result T Errno → Effect T
still (Ok t) = only t
still (Err e) = Err e

-- an effect changes nothing, and this is its answer, or ENOMEM
abbrev pub IsGiven : {T : Type 0} → Effect T → Result T Errno → Type 0
IsGiven e got = (e ≡ still (told_of e)) × Meets (told_of e) got

-- so many bytes where they are taken
abbrev pub count_if : Result (Unit {0}) Errno → List ℕ → Result ℕ Errno
count_if (Ok u) bs = Ok (length bs)
count_if (Err e) bs = Err e

-- an effect changes nothing, and takes all bytes or refuses them
abbrev pub IsPut : Effect ℕ → List ℕ → Result (Unit {0}) Errno → Type 0
IsPut e bs taken = e ≡ still (count_if taken bs)

-- an effect changes nothing, and takes a size up to the greatest or refuses it
abbrev pub IsCut : Effect (Unit {0}) → ℕ → Result (Unit {0}) Errno → Type 0
IsCut e size taken = e ≡ (if nat_lt most_size size then Err EFBIG else still taken)
