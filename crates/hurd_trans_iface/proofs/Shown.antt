-- What is shown of a behaviour, and all laws that follow: of each call one proof, of all that is asked of its effect.
use Rattle.std.proofs.Common.{◌≡◌, ℕ, true, false, List, [], ◌∷◌, take, sym, ◌∙◌, true≢false}
use Rattle.std.specs.Prelude.{Option, Some, None, Ok, Err}
use Rattle.hurd_creds.specs.declared.name.Name.{Name}
use Rattle.hurd_trans_iface.specs.declared.new_node.NewNode.{NewNode}
use Rattle.hurd_trans_iface.specs.Nodes.{Body, Node, with_entry, without_entry}
use Rattle.hurd_trans_iface.specs.Answers.{is_tree, made_node}
use Rattle.hurd_trans_iface.specs.Behaviour.{Behaviour, Did, Effect, Question, reading, writing, resizing, bytes_left}
use Rattle.hurd_trans_iface.specs.Bodies.{Holds}
use Rattle.hurd_trans_iface.specs.Good.{GoodBehaviour, GuardsText, IsBlindAt, IsPlain, IsSized, KeepsSizes}
use Rattle.hurd_trans_iface.specs.Meaning.{first_body}
use Rattle.hurd_trans_iface.proofs.Goodness.{KeepsSize, IsFine, fine_done, fine_refused}
use Rattle.hurd_trans_iface.proofs.Owes.{Keeps, Laws, Nameless, OptionLaws, Said}

-- the size stays right, and only what may be is in the node
abbrev pub IsKept : {T : Type 0} → Behaviour → List ℕ → Node → Did T → Type 0
IsKept b text x d = KeepsSize b text x d × (Holds b x.body → Holds b (bytes_left d.bytes x.body))

abbrev pub KeptBy : {T : Type 0} → Behaviour → Question T → Type 0
KeptBy {T} b q = (text : List ℕ) (x : Node) → IsFine (IsKept b text x) (q b text x)

-- an answer that leaves the node as it is
abbrev pub Leaves : {T : Type 0} → Did T → Type 0
Leaves d = (d.bytes ≡ None) × (d.size ≡ None)

pub left_kept : {T : Type 0} (b : Behaviour) (text : List ℕ) (x : Node) (e : Effect T) → IsFine Leaves e → IsFine (IsKept b text x) e
left_kept b text x (Ok d) l = (λ shaped sized. rw (l.0, l.1) sized, λ holds. rw l.0 holds)
left_kept b text x (Err e) plain = plain

-- where a tree is kept, it is told of nobody, what is made in it has its size, and anything may be in it; where none is, there is no limit
pub record TreeLaws (b : Behaviour) : Type 0 where
  pub uncounted : b.tree ≡ true → b.counts ≡ false
  pub newborn : b.tree ≡ true → (text : List ℕ) (dir : Name) (entry : Option (List ℕ)) (new : NewNode) (x : Node) → made_node dir entry new ≡ Some x → IsSized b text x
  pub holds : b.tree ≡ true → (c : Body) → Holds b c
  pub unlimited : b.tree ≡ false → (text : List ℕ) → b.limit text ≡ None

pub treeless : (b : Behaviour) → b.tree ≡ false → ((text : List ℕ) → b.limit text ≡ None) → TreeLaws b
treeless b none unlimited = record {
  uncounted = λ tree. absurd (true≢false (sym tree ∙ none));
  newborn = λ tree text dir entry new x made. absurd (true≢false (sym tree ∙ none));
  holds = λ tree c. absurd (true≢false (sym tree ∙ none));
  unlimited = λ lone. unlimited;
}

pub record Shown (b : Behaviour) : Type 0 where
  pub named : (text : List ℕ) → take 1 (b.options text) ≡ b.program ∷ []
  pub rooted : (text : List ℕ) → is_tree (b.root text) ≡ b.tree
  pub tree : TreeLaws b
  pub begun : (text : List ℕ) → Holds b (first_body b text)
  pub read : (at amount writers : ℕ) → KeptBy b (reading at amount writers)
  pub write : (at : ℕ) (bs : List ℕ) (readers : ℕ) → KeptBy b (writing at bs readers)
  pub set_size : (size : ℕ) → KeptBy b (resizing size)
  pub entered : (text name : List ℕ) (n : Name) (c : Body) → b.size text (with_entry name n c) ≡ b.size text c
  pub removed : (text name : List ℕ) (c : Body) → b.size text (without_entry name c) ≡ b.size text c
  pub less : (name : List ℕ) (c : Body) → Holds b c → Holds b (without_entry name c)
  pub read_keeps : (text : List ℕ) → (b.root text).is_stream ≡ false → (x : Node) (at amount writers : ℕ) (d : Did (List ℕ)) → b.read text x at amount writers ≡ Ok d → Leaves d
  pub guards : GuardsText b
  pub write_blind : b.counts ≡ false → (text : List ℕ) (at : ℕ) (bs : List ℕ) (readers : ℕ) → IsBlindAt b text (writing at bs readers)
  pub set_size_blind : (text : List ℕ) (size : ℕ) → IsBlindAt b text (resizing size)
  pub nameless : Nameless b
  pub said : Said b
  pub options : OptionLaws b

module _ (b : Behaviour) where
  module _ {T : Type 0} (q : Question T) (fine : KeptBy b q) where
    sizes : KeepsSizes b q
    sizes text x d shaped sized is = (fine_done (IsKept b text x) (q b text x) d (fine text x) is).0 shaped sized

    holds : Keeps b q
    holds text x d may is = (fine_done (IsKept b text x) (q b text x) d (fine text x) is).1 may

    plain : IsPlain b q
    plain text x e is = fine_refused (IsKept b text x) (q b text x) e (fine text x) is

  good_by : Shown b → GoodBehaviour b
  good_by s = record {
    named = s.named;
    rooted = s.rooted;
    uncounted = s.tree.uncounted;
    read_sizes = λ at amount writers. sizes (reading at amount writers) (s.read at amount writers);
    write_sizes = λ at bs readers. sizes (writing at bs readers) (s.write at bs readers);
    set_size_sizes = λ size. sizes (resizing size) (s.set_size size);
    entered = s.entered;
    removed = s.removed;
    newborn = s.tree.newborn;
    unlimited = s.tree.unlimited;
    read_keeps = s.read_keeps;
    guards = s.guards;
    write_blind = s.write_blind;
    set_size_blind = s.set_size_blind;
    no_words = s.options.no_words;
    options_root = s.options.root;
    options_plain = s.options.plain;
    read_plain = λ at amount writers. plain (reading at amount writers) (s.read at amount writers);
    write_plain = λ at bs readers. plain (writing at bs readers) (s.write at bs readers);
    set_size_plain = λ size. plain (resizing size) (s.set_size size);
  }

  pub laws_by : Shown b → Laws b
  laws_by s = record {
    good = good_by s;
    nameless = s.nameless;
    said = s.said;
    begun_holds = s.begun;
    read_holds = λ at amount writers. holds (reading at amount writers) (s.read at amount writers);
    write_holds = λ at bs readers. holds (writing at bs readers) (s.write at bs readers);
    cut_holds = λ size. holds (resizing size) (s.set_size size);
    less_holds = s.less;
    tree_holds = s.tree.holds;
    set_again = s.options.again;
    set_within = s.options.within;
  }
