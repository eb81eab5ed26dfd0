-- Which nodes an entry names, before and after changes of the nodes, and what is on a list.
use Rattle.std.proofs.Common.{◌≡◌, ◌≢◌, inl, inr, ◌<◌, ◌-◌, min, not, filter, ℕ, Bool, true, false, true≢false, List, is_some, refl, ap, sym, ◌∙◌, if◌then◌else◌}
use Rattle.std.specs.Prelude.{Option, Some, None, IfSome, Result, Ok, Err, nat_lt, cond}
use Rattle.std.specs.Option.{option_map}
use Rattle.std.specs.Global.{Vec}
use Rattle.std.specs.FinMap as fin
use Rattle.std.proofs.lemmas.Map.Views.{any-filter_same}
use Rattle.slab.specs.Slab as slab
use Rattle.slab.specs.Slab.{slab_len, with_value}
use Rattle.indexmap.specs.IndexMap.{get, spare}
use Rattle.hurd_creds.specs.Memory.{Steps, lacks_memory}
use Rattle.hurd_creds.specs.Names.{name_cmp, same_name}
use Rattle.hurd_creds.specs.NameMaps.{edit}
use Rattle.hurd_creds.specs.declared.errno.Errno.{Errno}
use Rattle.hurd_creds.specs.declared.name.Name.{Name}
use Rattle.hurd_creds.proofs.NameLaws.{equal_if_same, same_name-apart, same_name-itself, same_or_apart, get_here, get_apart, remove_apart, edit_here, edit_apart}
use Rattle.hurd_trans_iface.specs.Nodes.{AllListed, Body, Header, Node, NodeMap, edit_all, is_dir, is_entered, is_entered_at, is_listed, linked, moved_to, unlinked, with_body, with_header}
use Rattle.hurd_trans_iface.specs.Behaviour.{Effect, left_by, served, size_left}
use Rattle.hurd_tmpfs.specs.declared.inode.Inode.{Inode}
use Rattle.hurd_tmpfs.specs.declared.inodes.Inodes.{Inodes}
use Rattle.hurd_tmpfs.specs.Nameless.{KeepsOthers, Relisted}
use Rattle.hurd_tmpfs.specs.Room.{room}
use Rattle.hurd_tmpfs.specs.Tree.{node_of, nodes_in, nodes_of}
use Rattle.hurd_tmpfs.proofs.AlikeLaws.{AlikeElse}
use Rattle.hurd_tmpfs.proofs.StoredLaws.{room-in, changed-in, found-in}

-- lists

-- all but one name
abbrev others_of : Name → List Name → List Name
others_of n ns = filter (λ (q : Name). not (same_name q n)) ns

pub listed-off : (n : Name) (ns : List Name) → is_listed n (others_of n ns) ≡ false
listed-off n ns = any-filter_same (same_name n) (λ (q : Name). not (same_name q n)) false (λ q same. let here : n ≡ q = equal_if_same n q same in rw here (ap not (same_name-itself q))) ns

pub listed-others : (n : Name) (ns : List Name) → KeepsOthers n ns (others_of n ns)
listed-others n ns q apart =
    any-filter_same (same_name q) (λ (m : Name). not (same_name m n)) true (λ m same. let here : q ≡ m = equal_if_same q m same in ap not (same_name-apart m n (λ e. apart (here ∙ e)))) ns

-- maps

-- what an entry names in one map is no nameless node in another
abbrev pub Keeps : NodeMap → NodeMap → Type 0
Keeps m k = (q : Name) → is_entered_at (fin.get m q) ≡ true → is_entered_at (fin.get k q) ≡ true

-- a node put in place of one that was there, and that an entry names if one did before
pub insert-keeps : (n : Name) (x y : Node) (m : NodeMap) → fin.get m n ≡ Some x → (is_entered x.header ≡ true → is_entered y.header ≡ true) → Keeps m (fin.insert m n y)
insert-keeps n x y m is keeps q h = elim (same_or_apart q n) [
  | inl e ↦ rw (e, get_here m n y) (keeps (rw (e, is) at h))
  | inr apart ↦ rw (get_apart m n y q apart) h
]

-- what is done to bytes and sizes
left-entered : {T : Type 0} (e : Effect T) (x : Node) → is_entered (left_by e x).header ≡ is_entered x.header
left-entered (Ok d) x = elim d.size as (λ s. is_entered (size_left s x.header) ≡ is_entered x.header) [ None ↦ refl | Some k ↦ refl ]
left-entered (Err e) x = refl

-- such a call
pub served-entered : {T : Type 0} (e : Effect T) (x y : Node) (got : Result T Errno) → Steps x (served e x) got y → is_entered x.header ≡ true → is_entered y.header ≡ true
served-entered e x y got steps h = ap (λ (z : Node). is_entered z.header) steps.left ∙ go (lacks_memory got)
  where
    go : (b : Bool) → is_entered (cond b x (left_by e x)).header ≡ true
    go true = h
    go false = left-entered e x ∙ h

-- the list

-- whether a list, if there is one, has each node that no entry names
abbrev pub IsListOf : NodeMap → Option (Vec Name) → Type 0
IsListOf m o = IfSome o (λ (ns : Vec Name). AllListed m ns.items)

before : (a b : Bool) → (a ≡ true → b ≡ true) → b ≡ false → a ≡ false
before true b keeps h = absurd (true≢false (sym (keeps refl) ∙ h))
before false b keeps h = refl

-- a list stays right where entered nodes stay entered
pub list-kept : (m k l : NodeMap) (o : Option (Vec Name)) → l ≡ k → Keeps m k → IsListOf m o → IsListOf l o
list-kept m k l None same keeps list = tt
list-kept m k l (Some ns) same keeps list = λ q nameless. list q (before (is_entered_at (fin.get m q)) (is_entered_at (fin.get k q)) (keeps q) (rw same at nameless))

-- and where one node was looked at, and the others stay entered
pub list-after : (n : Name) (m k l : NodeMap) (old new : Option (Vec Name)) → l ≡ k → AlikeElse n m k → IsListOf m old → Relisted l n old new → IsListOf l new
list-after n m k l old None same keeps list looked = tt
list-after n m k l None (Some ns) same keeps list looked = absurd looked
list-after n m k l (Some os) (Some ns) same keeps list looked = λ q nameless. elim (same_or_apart q n) [
  | inl e ↦ rw e (looked.1 ∙ ap not (rw e at nameless))
  | inr apart ↦ looked.0 q apart ∙ list q (before (is_entered_at (fin.get m q)) (is_entered_at (fin.get k q)) (keeps q apart).entered (rw same at nameless))
]

-- a tree of which a node changes in its slot
module _ (t : Inodes) (n : Name) (k : ℕ) (x : Inode) (at : Some k ≡ get same_name t.keys n) (is : slab.get t.slots k ≡ Some x) where
  -- there is as much room
  pub room-kept : (root : Option Name) → (root ≡ None → 0 < room t) → (y : Inode) → root ≡ None → 0 < min ((with_value t.slots k y).capacity - slab_len (with_value t.slots k y)) (spare t.keys)
  room-kept root free y none = rw (room-in t n k x at is y) (free none)

  -- and the list stays right where the node stays entered
  pub list-changed : (o : Option (Vec Name)) → IsListOf (nodes_of t) o → (y : Inode) → (is_entered (node_of x).header ≡ true → is_entered (node_of y).header ≡ true) → IsListOf (nodes_in (with_value t.slots k y) t.keys) o
  list-changed o list y keeps = list-kept (nodes_of t) _ _ o (changed-in t n k x at is y) (insert-keeps n (node_of x) (node_of y) (nodes_of t) (found-in t n k x at is) keeps) list

-- of no nodes
pub list-nothing : (m : NodeMap) (ns : List Name) → m ≡ fin.empty → AllListed m ns
list-nothing m ns none q nameless = absurd (true≢false (sym (ap is_entered_at (ap (λ (k : NodeMap). fin.get k q) none ∙ fin.get-empty {X = Node} name_cmp q)) ∙ nameless))
