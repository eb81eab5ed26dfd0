-- Changes after which nodes still have the sizes that their servers say, and in them and in their headers what may be there.
use Rattle.std.proofs.Common.{◌≡◌, ◌≢◌, ℕ, true, List, [], ◌∷◌, ◌++◌, Option, Some, None, sym, refl, ◌∙◌, ap, ap₂, subst, inl, inr}
use Rattle.std.specs.Prelude.{Ok}
use Rattle.std.specs.Option.{option_map}
use Rattle.hurd_machine.proofs.Common.{AreFilled, Body, Change, Coherent, Did, EditBody, EditHeader, EditOpen, EditTask, GoodBehaviour, Header, IsFilled, MakeNode, MakeOpen, Name, Node, Question, Send, ServerInfo, Settle, World, apply, apply_all, asked_at, asked_of, changes_of, edit, edit_bytes, edit_size, edits_of, get, info_at, info_in, new_site, on_bytes, server_at, stays, tree_by, with_body, with_entry, with_header, with_size, without_entry, LetGo, space_at}
use Rattle.hurd_nodes.proofs.Sites.{home-here, home-apart}
use Rattle.hurd_creds.proofs.NameLaws.{same_or_apart, edit_here, edit_apart}
use Rattle.hurd_trans_iface.specs.Behaviour.{bytes_left, size_left}
use Rattle.hurd_trans_iface.specs.Good.{KeepsSizes}
use Rattle.hurd_trans_iface.specs.Bodies.{MayHold, MayHave}
use Rattle.hurd_trans_iface.proofs.BodyLaws.{KeepsBody, have_as, less_holds, size_has, tree_holds, tree_has}
use Rattle.hurd_trans_iface.specs.Kinds.{behaviour_of}
use Rattle.hurd_trans_iface.specs.declared.begun.ServerKind.{ServerKind}
use Rattle.hurd_machine.specs.World.{nodes_of}
use Rattle.hurd_machine.proofs.Stays.{sweep, info_still}
use Rattle.hurd_machine.proofs.Sweeps.{settle_by}
use Rattle.hurd_machine.proofs.Nodes.{by_option, edited_from}
use Rattle.hurd_machine.proofs.Spaces.{effect_fits}
use Rattle.hurd_machine.proofs.Coherence.{was}
use Rattle.hurd_machine.proofs.Keeping.{apply_all-append}
use Rattle.hurd_creds.proofs.Retained.{was_retained}

-- a list of changes that keeps sizes right
abbrev pub KeepsFilled : World → List Change → Type 0
KeepsFilled w cs = AreFilled (nodes_of w) → AreFilled (nodes_of (apply_all cs w))

pub filled_append : (cs ds : List Change) (w : World) → KeepsFilled w cs → KeepsFilled (apply_all cs w) ds → KeepsFilled w (cs ++ ds)
filled_append cs ds w first then sized = subst (λ x. AreFilled (nodes_of x)) (sym (apply_all-append cs ds w)) (then (first sized))

-- a node is as its server says, where it has one
abbrev IsFit : Option ServerInfo → Node → Type 0
IsFit o x = (i : ServerInfo) → o ≡ Some i → IsFilled i x

-- changes of ports alone

abbrev pub IsOfPorts : Change → Type 0
IsOfPorts (EditOpen o f) = Unit {0}
IsOfPorts (MakeOpen o z) = Unit {0}
IsOfPorts (LetGo o) = Unit {0}
IsOfPorts (EditTask q f) = Unit {0}
IsOfPorts (Send r q) = Unit {0}
IsOfPorts c = ⊥

abbrev pub AreOfPorts : List Change → Type 0
AreOfPorts [] = Unit {0}
AreOfPorts (c ∷ cs) = IsOfPorts c × AreOfPorts cs

ports_one : (c : Change) (w : World) → IsOfPorts c → nodes_of (apply c w) ≡ nodes_of w
ports_one (EditOpen o f) w p = refl
ports_one (MakeOpen o z) w p = refl
ports_one (LetGo o) w p = refl
ports_one (EditTask q f) w p = refl
ports_one (Send r q) w p = refl
ports_one c w p = absurd p

-- they leave all that is known of nodes
pub nodes-ports : (cs : List Change) (w : World) → AreOfPorts cs → nodes_of (apply_all cs w) ≡ nodes_of w
nodes-ports [] w p = refl
nodes-ports (c ∷ cs) w p = nodes-ports cs (apply c w) p.1 ∙ ports_one c w p.0

pub filled_ports : (cs : List Change) (w : World) → AreOfPorts cs → KeepsFilled w cs
filled_ports cs w p sized = subst AreFilled (sym (nodes-ports cs w p)) sized

-- what is left once a world is settled is as it was
pub filled_settle : (w : World) → KeepsFilled w (Settle ∷ [])
filled_settle w sized = settle_by (λ x. AreFilled (nodes_of x)) each w sized
  where
    each : (x : World) → AreFilled (nodes_of x) → AreFilled (nodes_of (sweep x))
    each x s n y i e ei = let l = was_retained x.nodes (stays x) n y e in s n y i l.0 (sym (info_still x n l.1) ∙ ei)

-- where one node changes, to one that fits
filled_by : (w y : World) (n : Name) (f : Node → Node) → get y.nodes n ≡ option_map f (get w.nodes n) → ((m : Name) → m ≢ n → get y.nodes m ≡ get w.nodes m) → ((m : Name) → info_at y m ≡ info_at w m)
    → ((x : Node) → get w.nodes n ≡ Some x → IsFit (info_at w n) (f x)) → AreFilled (nodes_of w) → AreFilled (nodes_of y)
filled_by w y n f here apart info fit sized m z i e ei =
    let known : info_at w m ≡ Some i = sym (info m) ∙ ei in
    elim (same_or_apart m n) [
      | inl a ↦ let l = edited_from f (get w.nodes n) z (sym here ∙ rw a at e) in subst (IsFilled i) l.2 (fit l.0 l.1 i (rw a at known))
      | inr a ↦ sized m z i (sym (apart m a) ∙ e) known
    ]

-- what a server makes of a node

option_map-twice : (f g : Node → Node) (o : Option Node) → option_map g (option_map f o) ≡ option_map (λ x. g (f x)) o
option_map-twice f g = by_option _ _ refl (λ x. refl)

option_map-same : (o : Option Node) → option_map (λ (x : Node). let y : Node = record { header = x.header; body = x.body } in y) o ≡ o
option_map-same = by_option _ _ refl (λ x. refl)

-- the node with its bytes and its size left so
abbrev left_of : Option (List ℕ → List ℕ) → Option ℕ → Node → Node
left_of bytes size x = record { header = size_left size x.header; body = bytes_left bytes x.body }

-- the world with one node left so
abbrev left_world : Name → Option (List ℕ → List ℕ) → Option ℕ → World → World
left_world n bytes size w = apply_all (changes_of (edit_bytes n bytes (edit_size n size))) w

module _ (w : World) (n : Name) where
  left_here : (bytes : Option (List ℕ → List ℕ)) (size : Option ℕ) → get (left_world n bytes size w).nodes n ≡ option_map (left_of bytes size) (get w.nodes n)
  left_here None None = sym (option_map-same (get w.nodes n))
  left_here None (Some k) = edit_here w.nodes n (with_header (with_size k))
  left_here (Some f) None = edit_here w.nodes n (with_body (on_bytes f))
  left_here (Some f) (Some k) =
      edit_here (edit n (with_body (on_bytes f)) w.nodes) n (with_header (with_size k))
      ∙ ap (option_map (with_header (with_size k))) (edit_here w.nodes n (with_body (on_bytes f)))
      ∙ option_map-twice (with_body (on_bytes f)) (with_header (with_size k)) (get w.nodes n)

  left_apart : (bytes : Option (List ℕ → List ℕ)) (size : Option ℕ) (m : Name) → m ≢ n → get (left_world n bytes size w).nodes m ≡ get w.nodes m
  left_apart None None m a = refl
  left_apart None (Some k) m a = edit_apart w.nodes n (with_header (with_size k)) m a
  left_apart (Some f) None m a = edit_apart w.nodes n (with_body (on_bytes f)) m a
  left_apart (Some f) (Some k) m a = edit_apart (edit n (with_body (on_bytes f)) w.nodes) n (with_header (with_size k)) m a ∙ edit_apart w.nodes n (with_body (on_bytes f)) m a

  left_info : (bytes : Option (List ℕ → List ℕ)) (size : Option ℕ) (m : Name) → info_at (left_world n bytes size w) m ≡ info_at w m
  left_info None None m = refl
  left_info (Some f) None m = refl
  left_info bytes size m = refl

  filled_left : (bytes : Option (List ℕ → List ℕ)) (size : Option ℕ) → ((x : Node) → get w.nodes n ≡ Some x → IsFit (info_at w n) (left_of bytes size x)) → AreFilled (nodes_of w) → AreFilled (nodes_of (left_world n bytes size w))
  filled_left bytes size = filled_by w (left_world n bytes size w) n (left_of bytes size) (left_here bytes size) (left_apart bytes size) (left_info bytes size)

-- a question that keeps sizes, and what may be in a node
abbrev pub KeepsNodes : {R : Type 0} → Question R → Type 0
KeepsNodes q = (k : ServerKind) → KeepsSizes (behaviour_of k) q × KeepsBody k q

-- the answer to such a question
pub did_filled : {R : Type 0} (q : Question R) → KeepsNodes q → (w : World) → Coherent w → (n : Name) (d : Did R) → asked_at q n w ≡ Ok d → KeepsFilled w (changes_of (edits_of n (Ok d)))
did_filled q keeps w c n d told sized = filled_left w n d.bytes d.size fit sized
  where
    fit : (x : Node) → get w.nodes n ≡ Some x → IsFit (info_at w n) (left_of d.bytes d.size x)
    fit x is i known =
        let old = sized n x i is known in
        let said = effect_fits (space_at w n) x.header _ d (sym (ap₂ (λ i o. asked_of q i (space_at w n) o) known is) ∙ told) in
        ((keeps i.kind).0 i.text x d (c.tree.shapes n x is) old.0 said, (keeps i.kind).1 i.text x d old.1 said, size_has d.size i.kind x.header old.2)

-- a change of a header that leaves in it what may be there
abbrev pub KeepsHeader : World → Name → (Header → Header) → Type 0
KeepsHeader w n f = (i : ServerInfo) (h : Header) → info_at w n ≡ Some i → MayHave i.kind h → MayHave i.kind (f h)

-- which it does if it sets no links and no words; or in a tree

pub keeps_header : (w : World) (n : Name) (f : Header → Header) → ((h : Header) → ((f h).links ≡ h.links) × ((f h).passive ≡ h.passive)) → KeepsHeader w n f
keeps_header w n f same i h known = have_as i.kind h (f h) (λ none. same h)

pub tree_header : (w : World) (n : Name) (f : Header → Header) → tree_by (info_at w n) ≡ true → KeepsHeader w n f
tree_header w n f tree i h known may = tree_has i.kind (f h) (sym (ap tree_by known) ∙ tree)

-- a header changed so, but not its size
pub filled_header : (w : World) (n : Name) (f : Header → Header) → ((h : Header) → (f h).size ≡ h.size) → KeepsHeader w n f → KeepsFilled w (EditHeader n f ∷ [])
filled_header w n f keeps has sized =
    filled_by w (apply (EditHeader n f) w) n (with_header f) (edit_here w.nodes n (with_header f)) (edit_apart w.nodes n (with_header f)) (λ m. refl)
    (λ x is i known. let old = sized n x i is known in (keeps x.header ∙ old.0, old.1, has i x.header known old.2)) sized

-- a node made, and an entry for it

pub filled_made : (w : World) (n s : Name) (node : Node) → IsFit (server_at w s) node → KeepsFilled w (MakeNode n s node ∷ [])
filled_made w n s node fit sized m z i e ei = elim (was w.nodes n m node z e) [
  | inl k ↦
      let here : info_at (apply (MakeNode n s node) w) m ≡ server_at w s = rw (k.0) (ap (info_in w.servers) (home-here w.sites n (new_site s))) in
      subst (IsFilled i) k.1 (fit i (sym here ∙ ei))
  | inr k ↦ sized m z i k.1 (sym (ap (info_in w.servers) (home-apart w.sites n (new_site s) m k.0)) ∙ ei)
]

-- a body changed, but not its size, to one that may be there
filled_body : (w : World) (d : Name) (g : Body → Body) → ((k : ServerKind) (text : List ℕ) (b : Body) → (behaviour_of k).size text (g b) ≡ (behaviour_of k).size text b)
    → ((i : ServerInfo) (b : Body) → info_at w d ≡ Some i → MayHold i.kind b → MayHold i.kind (g b)) → KeepsFilled w (EditBody d g ∷ [])
filled_body w d g keeps holds sized =
    filled_by w (apply (EditBody d g) w) d (with_body g) (edit_here w.nodes d (with_body g)) (edit_apart w.nodes d (with_body g)) (λ m. refl)
    (λ x is i known. let old = sized d x i is known in (old.0 ∙ sym (keeps i.kind i.text x.body), holds i x.body known old.1, old.2)) sized

-- an entry comes into a directory of a tree
pub filled_entry : ((k : ServerKind) → GoodBehaviour (behaviour_of k)) → (w : World) (d : Name) (name : List ℕ) (n : Name) → tree_by (info_at w d) ≡ true → KeepsFilled w (EditBody d (with_entry name n) ∷ [])
filled_entry good w d name n tree = filled_body w d (with_entry name n) (λ k text b. (good k).entered text name n b) (λ i b known h. tree_holds i.kind (with_entry name n b) (sym (ap tree_by known) ∙ tree))

pub filled_removed : ((k : ServerKind) → GoodBehaviour (behaviour_of k)) → (w : World) (d : Name) (name : List ℕ) → KeepsFilled w (EditBody d (without_entry name) ∷ [])
filled_removed good w d name = filled_body w d (without_entry name) (λ k text b. (good k).removed text name b) (λ i b known. less_holds name i.kind b)
