-- What a kind of server does: of each call that asks about a node, what it answers and what it makes of that node.
use Rattle.std.specs.Prelude.{ℕ, Bool, false, if◌then◌else◌, List, [], ◌∷◌, Option, Some, None, Result, Ok, Err}
use Rattle.hurd_creds.specs.declared.name.Name.{Name}
use Rattle.hurd_creds.specs.declared.errno.Errno.{Errno}
use Rattle.hurd_creds.specs.declared.errno.Errno.TheVariants.{EDIED, ENOSPC}
use Rattle.hurd_creds.specs.declared.attrs.Kind.{Kind}
use Rattle.hurd_trans_iface.specs.declared.root.Root.{Root}
use Rattle.hurd_trans_iface.specs.declared.root.Crossing.TheVariants.{Plain}
use Rattle.hurd_trans_iface.specs.Nodes.{Header, Body, Node, Edit, OnHeader, OnBody, on_bytes, with_size}
use Rattle.hurd_trans_iface.specs.Totals.{counts_for, overfills}

-- a root of this kind that is no stream, and at which a lookup goes on
abbrev pub plain_root : Kind → Root
plain_root kind = record { kind = kind; is_stream = false; crossing = Plain }

-- an answer, and what becomes of the node's bytes and of its size, where they change
pub record Did (T : Type 0) : Type 0 where
  pub told : T
  pub bytes : Option (List ℕ → List ℕ)
  pub size : Option ℕ

-- such an answer, or a refusal, which changes nothing
abbrev pub Effect : Type 0 → Type 0
Effect T = Result (Did T) Errno

-- an answer that changes nothing
abbrev pub only : {T : Type 0} → T → Effect T
only t = Ok (record { told = t; bytes = None; size = None })

-- what a kind is, and what it answers by its server's text and the node that is asked about
pub record Behaviour : Type 0 where
  -- the name of its program
  pub program : List ℕ
  -- the text of the server that these words after the program's name make, if any
  pub begins : List (List ℕ) → Option (List ℕ)
  -- the program and its words, as they would be given to make a server of this text
  pub options : List ℕ → List (List ℕ)
  -- the text that these options give it in place of its own, if any
  pub set_options : List (List ℕ) → Result (Option (List ℕ)) Errno
  -- whether a text is such a one as words say
  pub fits : List ℕ → Bool
  -- whether it aims at nodes
  pub aims : Bool
  -- the paths of the nodes that it aims at, by the text
  pub targets : List ℕ → List (List ℕ)
  -- what its root is, by the text
  pub root : List ℕ → Root
  -- whether it keeps a tree: nodes can be made in its directories
  pub tree : Bool
  -- whether it is told how many opens read its root, and how many write it: to whom it then tells of each other
  pub counts : Bool
  -- the most that the files of its server that entries name may have in all, by the text, if that is limited
  pub limit : List ℕ → Option ℕ
  -- the bytes that are in its root at first, by the text, where that is no directory
  pub first : List ℕ → List ℕ
  -- whether this may be in its nodes
  pub holds : Body → Bool
  -- the size of a node, by the text and what is in the node
  pub size : List ℕ → Body → ℕ
  -- so many bytes from a place on, where so many opens write the node
  pub read : List ℕ → Node → ℕ → ℕ → ℕ → Effect (List ℕ)
  -- bytes, put at a place, where so many opens read the node: how many are taken
  pub write : List ℕ → Node → ℕ → List ℕ → ℕ → Effect ℕ
  -- the node's bytes cut to a size, or grown to it
  pub set_size : List ℕ → Node → ℕ → Effect (Unit {0})
  -- how many bytes there are to read at a place
  pub readable : List ℕ → Node → ℕ → ℕ

-- a call about a node, without the node
abbrev pub Question : Type 0 → Type 0
Question T = Behaviour → List ℕ → Node → Effect T

abbrev pub reading : ℕ → ℕ → ℕ → Question (List ℕ)
reading at amount writers b text x = b.read text x at amount writers

abbrev pub writing : ℕ → List ℕ → ℕ → Question ℕ
writing at bs readers b text x = b.write text x at bs readers

abbrev pub resizing : ℕ → Question (Unit {0})
resizing size b text x = b.set_size text x size

-- the answer alone
abbrev pub told_of : {T : Type 0} → Effect T → Result T Errno
told_of (Ok d) = Ok d.told
told_of (Err e) = Err e

-- what it does, as edits of the node

abbrev pub edit_bytes : Name → Option (List ℕ → List ℕ) → List Edit → List Edit
edit_bytes n None es = es
edit_bytes n (Some f) es = OnBody n (on_bytes f) ∷ es

abbrev pub edit_size : Name → Option ℕ → List Edit
edit_size n None = []
edit_size n (Some k) = OnHeader n (with_size k) ∷ []

abbrev pub edits_of : {T : Type 0} → Name → Effect T → List Edit
edits_of n (Ok d) = edit_bytes n d.bytes (edit_size n d.size)
edits_of n (Err e) = []

-- the node that it leaves

abbrev pub bytes_left : Option (List ℕ → List ℕ) → Body → Body
bytes_left None b = b
bytes_left (Some f) b = on_bytes f b

abbrev pub size_left : Option ℕ → Header → Header
size_left None h = h
size_left (Some k) h = with_size k h

abbrev pub node_left : {T : Type 0} → Did T → Node → Node
node_left d x = record { header = size_left d.size x.header; body = bytes_left d.bytes x.body }

abbrev pub left_by : {T : Type 0} → Effect T → Node → Node
left_by (Ok d) x = node_left d x
left_by (Err e) x = x

-- the answer of a call about one node, and the node that it leaves
abbrev pub served : {T : Type 0} → Effect T → Node → Result T Errno × Node
served e x = (told_of e, left_by e x)

-- an effect on a node of this header, except for one by which what it counts for grows past the space that there is
abbrev pub fitting_in : {T : Type 0} → ℕ → Header → Effect T → Effect T
fitting_in space h (Err e) = Err e
fitting_in space h (Ok d) = if overfills (Some space) (counts_for h) (counts_for (size_left d.size h)) then Err ENOSPC else Ok d

-- the same, where there may be no limit
abbrev pub fitting : {T : Type 0} → Option ℕ → Header → Effect T → Effect T
fitting None h e = e
fitting (Some space) h e = fitting_in space h e

-- the effect on a node that may not be there, of a server with so much space
abbrev pub effect_on : {T : Type 0} → Question T → Behaviour → List ℕ → Option ℕ → Option Node → Effect T
effect_on q b text space None = Err EDIED
effect_on q b text space (Some x) = fitting space x.header (q b text x)
