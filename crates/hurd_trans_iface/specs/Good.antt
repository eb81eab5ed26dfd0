-- What the laws need of a kind of server.
use Rattle.std.specs.Prelude.{◌≡◌, ℕ, true, false, List, [], ◌∷◌, take, Option, Some, None, Ok, Err}
use Rattle.hurd_creds.specs.declared.name.Name.{Name}
use Rattle.hurd_creds.specs.declared.errno.Errno.{Errno}
use Rattle.hurd_creds.specs.Memory.{is_no_memory}
use Rattle.hurd_trans_iface.specs.declared.new_node.NewNode.{NewNode}
use Rattle.hurd_trans_iface.specs.Nodes.{Header, Body, Content, Node, IsShaped, with_entry, without_entry}
use Rattle.hurd_trans_iface.specs.Answers.{is_tree, made_node}
use Rattle.hurd_trans_iface.specs.Texts.{is_link, reads_text, told_text}
use Rattle.hurd_trans_iface.specs.Behaviour.{Did, Behaviour, Question, reading, writing, resizing, node_left}

-- a node has the size that its kind of server says
abbrev pub IsSized : Behaviour → List ℕ → Node → Type 0
IsSized b text x = x.header.size ≡ b.size text x.body

-- sizes stay right
abbrev pub KeepsSizes : {T : Type 0} → Behaviour → Question T → Type 0
KeepsSizes {T} b q =
    (text : List ℕ) (x : Node) (d : Did T) → IsShaped x.header x.body → IsSized b text x → q b text x ≡ Ok d → IsSized b text (node_left d x)

-- nothing is told of what is in a node of a server of this text, and what it makes of it doesn't depend on that
abbrev pub IsBlindAt : {T : Type 0} → Behaviour → List ℕ → Question T → Type 0
IsBlindAt b text q =
    (h : Header) (c e : Body)
    → let x : Node = record { header = h; body = c } in let y : Node = record { header = h; body = e } in q b text y ≡ q b text x

-- no refusal is ENOMEM: of memory a meaning knows nothing
abbrev pub IsPlain : {T : Type 0} → Behaviour → Question T → Type 0
IsPlain b q = (text : List ℕ) (x : Node) (e : Errno) → q b text x ≡ Err e → is_no_memory e ≡ false

-- the answer goes by no text but one that whoever knows the server is told
abbrev pub IsUntold : {T : Type 0} → Behaviour → Question T → Type 0
IsUntold b q = (old new : List ℕ) (x : Node) → told_text (b.root new) new ≡ told_text (b.root old) old → q b new x ≡ q b old x

-- what another text leaves as it is: the server's root stays what it is, and is no link, and it aims at what it aimed at; where it keeps no tree, its root gets the
-- size that the text says, and in a tree no size goes by the text
pub record KeepsRoot (b : Behaviour) (new : List ℕ) : Type 0 where
  pub rooted : (text : List ℕ) → b.root text ≡ b.root new
  pub no_link : is_link (b.root new).crossing ≡ false
  pub aimed : (text : List ℕ) → b.targets text ≡ b.targets new
  pub sized : b.tree ≡ false → (c : Body) → b.size new c ≡ b.size new (Content [])
  pub grown : b.tree ≡ true → (text : List ℕ) (c : Body) → b.size text c ≡ b.size new c

-- who is told the text: whoever knows the server where it is a link's, who reads the root where reading gives it, and nobody else
pub record GuardsText (b : Behaviour) : Type 0 where
  -- what its root is goes by no text but one that whoever knows the server is told
  pub rooted : (text : List ℕ) → b.root (told_text (b.root text) text) ≡ b.root text
  -- whether reading gives the text is the same of each text
  pub reads_alike : (old new : List ℕ) → reads_text (b.root new) ≡ reads_text (b.root old)
  -- where reading doesn't give it, no bytes go by it, nor how many there are
  pub read_untold : (text : List ℕ) → reads_text (b.root text) ≡ false → (at amount writers : ℕ) → IsUntold b (reading at amount writers)
  pub readable_untold : (text : List ℕ) → reads_text (b.root text) ≡ false → (old new : List ℕ) (x : Node) (at : ℕ)
      → told_text (b.root new) new ≡ told_text (b.root old) old → b.readable new x at ≡ b.readable old x at
  -- and no bytes are taken by it, and no size
  pub write_untold : (old new : List ℕ) (x : Node) (at : ℕ) (bs : List ℕ) (readers : ℕ) → b.write new x at bs readers ≡ b.write old x at bs readers
  pub set_size_untold : (old new : List ℕ) (x : Node) (size : ℕ) → b.set_size new x size ≡ b.set_size old x size

pub record GoodBehaviour (b : Behaviour) : Type 0 where
  -- the first of the words that would make it is the name of its program
  pub named : (text : List ℕ) → take 1 (b.options text) ≡ b.program ∷ []
  -- what its root is tells whether it keeps a tree
  pub rooted : (text : List ℕ) → is_tree (b.root text) ≡ b.tree
  -- where it keeps one, it is told of nobody
  pub uncounted : b.tree ≡ true → b.counts ≡ false
  pub read_sizes : (at amount writers : ℕ) → KeepsSizes b (reading at amount writers)
  pub write_sizes : (at : ℕ) (bs : List ℕ) (readers : ℕ) → KeepsSizes b (writing at bs readers)
  pub set_size_sizes : (size : ℕ) → KeepsSizes b (resizing size)
  -- an entry more or less changes no size, and what is made in a tree has its size
  pub entered : (text name : List ℕ) (n : Name) (c : Body) → b.size text (with_entry name n c) ≡ b.size text c
  pub removed : (text name : List ℕ) (c : Body) → b.size text (without_entry name c) ≡ b.size text c
  pub newborn : b.tree ≡ true → (text : List ℕ) (dir : Name) (entry : Option (List ℕ)) (new : NewNode) (x : Node) → made_node dir entry new ≡ Some x → IsSized b text x
  -- of what is no stream a read changes nothing
  pub read_keeps : (text : List ℕ) → (b.root text).is_stream ≡ false → (x : Node) (at amount writers : ℕ) (d : Did (List ℕ)) → b.read text x at amount writers ≡ Ok d → (d.bytes ≡ None) × (d.size ≡ None)
  pub guards : GuardsText b
  -- what a kind takes that is told who reads may depend on what is in the node, and of no other kind does it
  pub write_blind : b.counts ≡ false → (text : List ℕ) (at : ℕ) (bs : List ℕ) (readers : ℕ) → IsBlindAt b text (writing at bs readers)
  pub set_size_blind : (text : List ℕ) (size : ℕ) → IsBlindAt b text (resizing size)
  -- only a tree has a limit
  pub unlimited : b.tree ≡ false → (text : List ℕ) → b.limit text ≡ None
  -- options without words change nothing
  pub no_words : b.set_options [] ≡ Ok None
  pub options_root : (ws : List (List ℕ)) (new : List ℕ) → b.set_options ws ≡ Ok (Some new) → KeepsRoot b new
  pub options_plain : (ws : List (List ℕ)) (e : Errno) → b.set_options ws ≡ Err e → is_no_memory e ≡ false
  pub read_plain : (at amount writers : ℕ) → IsPlain b (reading at amount writers)
  pub write_plain : (at : ℕ) (bs : List ℕ) (readers : ℕ) → IsPlain b (writing at bs readers)
  pub set_size_plain : (size : ℕ) → IsPlain b (resizing size)
