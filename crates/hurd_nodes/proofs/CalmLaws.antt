-- Those that need not be asked stay calm where a box changes, if no node of it loses its entries.
use Rattle.std.proofs.Common.{arith, ◌≡◌, ◌≢◌, ◌≤◌, inl, inr, ℕ, Bool, true, false, cond, List, [], ◌∷◌, sym, subst, ap, ◌∙◌, true≢false}
use Rattle.std.proofs.lemmas.Bool.{and_parts, or_cases}
use Rattle.std.proofs.lemmas.Grind.{common_steps}
use Rattle.std.specs.List.{list_all}
use Rattle.std.specs.Prelude.{Option, Some, None, Result, Ok, Err, slice_get}
use Rattle.std.specs.Option.{option_map}
use Rattle.std.specs.Map.{values_of}
use Rattle.std.specs.FinMap as fin
use Rattle.indexmap.specs.IndexMap.{set_value_at}
use Rattle.hurd_creds.specs.declared.name.Name.{Name}
use Rattle.hurd_creds.specs.declared.mode.Mode.{Mode}
use Rattle.hurd_creds.specs.declared.errno.Errno.{Errno}
use Rattle.hurd_creds.specs.Names.{name_cmp, same_name}
use Rattle.hurd_creds.specs.NameMaps.{edit}
use Rattle.hurd_creds.specs.Memory.{Steps, lacks_memory}
use Rattle.hurd_creds.proofs.NameLaws.{equal_if_same, same_or_apart, edit_here, edit_apart, get_apart, remove_here, remove_apart}
use Rattle.hurd_creds.proofs.MapLaws.{get-map_values}
use Rattle.hurd_trans_iface.specs.declared.header_edit.HeaderEdit.{HeaderEdit}
use Rattle.hurd_trans_iface.specs.declared.header_edit.HeaderEdit.TheVariants.{SetAttrs, SetPassive}
use Rattle.hurd_trans_iface.specs.Nodes.{AddNode, Edit, Header, Node, NodeMap, OnBody, OnHeader, edit_all, is_entered, is_entered_at, is_listed, linked, with_body, with_header, with_size}
use Rattle.hurd_trans_iface.specs.Answers.{edits_if, header_edits}
use Rattle.hurd_trans_iface.specs.Behaviour.{Effect, edit_bytes, edit_size, edits_of}
use Rattle.hurd_trans_iface.specs.Meaning.{Meaning, begin_root_after, behaviour_of, edited, forget_after, keeps_tree, new_root, options_taken, resized, set_options_step, size_of}
use Rattle.hurd_nodes.specs.declared.seat.Seat.{Seat}
use Rattle.hurd_nodes.specs.Quiet.{AreCalm, Behind, IsCalm}
use Rattle.hurd_nodes.proofs.SeatedLaws.{value_got}

-- what has no entry now had none before
abbrev pub KeepsEntries : Meaning → Meaning → Type 0
KeepsEntries m k = (n : Name) → is_entered_at (fin.get k.nodes n) ≡ false → is_entered_at (fin.get m.nodes n) ≡ false

-- another seat of the same root in a server's place
module _ {S : Type 0} (f : S → Meaning) (ss : List (Name × Seat S)) (k i : ℕ) (x y : Seat S) (read : slice_get (values_of ss) i ≡ Some x) (calm : AreCalm f ss k) (root : y.root ≡ x.root) where
  pub calm-put : ((s : Name) → k ≤ i → slice_get ss i ≡ Some (s, x) → KeepsEntries (f x.server) (f y.server)) → AreCalm f (set_value_at ss i y) k
  calm-put keeps z b = elim (value_got ss i x y read b.at z b.is) [
    | inl here ↦
        let past : k ≤ i = omega (arith, here.0, b.past) in
        let was : Behind k ss (z.0, x) = record { at = i; past = past; is = here.2 } in
        subst (IsCalm f) (sym here.1) (λ n bare. calm (z.0, x) was n (keeps z.0 past here.2 n bare) ∙ sym root)
    | inr other ↦ calm z (record { at = b.at; past = b.past; is = other.1 })
  ]

-- these edits take no entry from a node
abbrev pub KeepAll : List Edit → Type 0
KeepAll [] = Unit {0}
KeepAll (OnHeader n g ∷ es) = ((h : Header) → is_entered (g h) ≡ false → is_entered h ≡ false) × KeepAll es
KeepAll (OnBody n g ∷ es) = KeepAll es
KeepAll (AddNode n x ∷ es) = ⊥

edit-keeps : (n : Name) (g : Node → Node) (m : NodeMap) → ((x : Node) → is_entered (g x).header ≡ false → is_entered x.header ≡ false) → (q : Name)
    → is_entered_at (fin.get (edit n g m) q) ≡ false → is_entered_at (fin.get m q) ≡ false
edit-keeps n g m keeps q bare = elim (same_or_apart q n) [
  | inl here ↦ by (fin.get m q) (sym (ap is_entered_at (ap (fin.get (edit n g m)) here ∙ edit_here m n g ∙ ap (λ (p : Name). option_map g (fin.get m p)) (sym here))) ∙ bare)
  | inr apart ↦ sym (ap is_entered_at (edit_apart m n g q apart)) ∙ bare
]
  where
    by : (o : Option Node) → is_entered_at (option_map g o) ≡ false → is_entered_at o ≡ false
    by None h = h
    by (Some x) h = keeps x h

all-keep : (es : List Edit) → KeepAll es → (m : NodeMap) (q : Name) → is_entered_at (fin.get (edit_all es m) q) ≡ false → is_entered_at (fin.get m q) ≡ false
all-keep [] keep m q bare = bare
all-keep (OnHeader n g ∷ es) keep m q bare = edit-keeps n (with_header g) m (λ x. keep.0 x.header) q (all-keep es keep.1 (edit n (with_header g) m) q bare)
all-keep (OnBody n g ∷ es) keep m q bare = edit-keeps n (with_body g) m (λ x h. h) q (all-keep es keep (edit n (with_body g) m) q bare)
all-keep (AddNode n x ∷ es) keep m q bare = absurd keep

-- so it is where they were made, or memory was wanting
pub keeps-or : (short : Bool) (m k : Meaning) (es : List Edit) → KeepAll es → k ≡ cond short m (edited es m) → KeepsEntries m k
keeps-or true m k es keep left n bare = sym (ap (λ (x : Meaning). is_entered_at (fin.get x.nodes n)) left) ∙ bare
keeps-or false m k es keep left n bare = all-keep es keep m.nodes n (sym (ap (λ (x : Meaning). is_entered_at (fin.get x.nodes n)) left) ∙ bare)

pub keep-if : {T : Type 0} (r : Result T Errno) (es : List Edit) → KeepAll es → KeepAll (edits_if r es)
keep-if (Ok u) es keep = keep
keep-if (Err e) es keep = tt

-- a question takes none
pub asked-keep : {T : Type 0} (n : Name) (e : Effect T) → KeepAll (edits_of n e)
asked-keep n (Err e) = tt
asked-keep n (Ok d) = by d.bytes
  where
    sized : (o : Option ℕ) → KeepAll (edit_size n o)
    sized None = tt
    sized (Some k) = (λ h bare. bare, tt)

    by : (o : Option (List ℕ → List ℕ)) → KeepAll (edit_bytes n o (edit_size n d.size))
    by None = sized d.size
    by (Some g) = sized d.size

-- nor does another header by one of the edits that there are
pub header-keeps : (n : Name) (e : HeaderEdit) → KeepAll (header_edits n e)
header-keeps n (SetAttrs owner group mode) = (λ h bare. bare, tt)
header-keeps n (SetPassive words) = (λ h bare. bare, tt)

-- nor another name
pub linked-keeps : (h : Header) → is_entered (linked h) ≡ false → is_entered h ≡ false
linked-keeps h bare = grind (arith, common_steps)

-- nor other options
retexted-keeps : (tree : Bool) (k : ℕ) (m : NodeMap) (n : Name) → is_entered_at (fin.get (resized tree k m) n) ≡ false → is_entered_at (fin.get m n) ≡ false
retexted-keeps true k m n bare = bare
retexted-keeps false k m n bare = by (fin.get m n) (sym (ap is_entered_at (get-map_values (with_header (with_size k)) m n)) ∙ bare)
  where
    by : (o : Option Node) → is_entered_at (option_map (with_header (with_size k)) o) ≡ false → is_entered_at o ≡ false
    by None h = h
    by (Some x) h = h

taken-keeps : (r : Result (Option (List ℕ)) Errno) (m : Meaning) → KeepsEntries m (options_taken r m).1
taken-keeps (Ok None) m n bare = bare
taken-keeps (Ok (Some text)) m n bare = retexted-keeps (keeps_tree m.kind) (size_of m.kind text) m.nodes n bare
taken-keeps (Err e) m n bare = bare

pub keeps-options : (ws : List (List ℕ)) (m k : Meaning) (got : Result (Unit {0}) Errno) → Steps m (set_options_step ws m) got k → KeepsEntries m k
keeps-options ws m k got steps = by (lacks_memory got) steps.left
  where
    by : (short : Bool) → k ≡ cond short m (set_options_step ws m).1 → KeepsEntries m k
    by true left n bare = sym (ap (λ (x : Meaning). is_entered_at (fin.get x.nodes n)) left) ∙ bare
    by false left n bare = taken-keeps ((behaviour_of m.kind).set_options ws) m n (sym (ap (λ (x : Meaning). is_entered_at (fin.get x.nodes n)) left) ∙ bare)

-- nor does a node that is forgotten
pub keeps-forgotten : (m k : Meaning) (n : Name) → k ≡ forget_after m n → KeepsEntries m k
keeps-forgotten m k n left q bare = elim (same_or_apart q n) [
  | inl here ↦ absurd (true≢false (sym (ap is_entered_at (ap (fin.get (fin.remove m.nodes n)) here ∙ remove_here m.nodes n)) ∙ less))
  | inr apart ↦ sym (ap is_entered_at (remove_apart m.nodes n q apart)) ∙ less
]
  where
    less : is_entered_at (fin.get (fin.remove m.nodes n) q) ≡ false
    less = sym (ap (λ (x : Meaning). is_entered_at (fin.get x.nodes q)) left) ∙ bare

-- a server that begins has its root alone
pub calm-begun : {S : Type 0} (f : S → Meaning) (s : Name) (x : Seat S) (m : Meaning) (owner group : ℕ) (mode : Mode) → m.nodes ≡ fin.empty → f x.server ≡ begin_root_after m x.root owner group mode → IsCalm f (s, x)
calm-begun f s x m owner group mode none begun n bare = elim (same_or_apart n x.root) [
  | inl here ↦ here
  | inr apart ↦ absurd (true≢false (sym (ap is_entered_at (at apart)) ∙ bare))
]
  where
    root : Node
    root = new_root (behaviour_of m.kind) m.text owner group mode

    at : n ≢ x.root → fin.get (f x.server).nodes n ≡ None
    at apart =
        ap (λ (k : Meaning). fin.get k.nodes n) begun ∙ get_apart m.nodes x.root root n apart ∙ ap (λ (ns : NodeMap). fin.get ns n) none ∙ fin.get-empty {X = Node} name_cmp n

-- what is on a list of one name alone is that
pub all-listed : (root n : Name) (names : List Name) → list_all (λ m. same_name m root) names ≡ true → is_listed n names ≡ true → n ≡ root
all-listed root n [] all on = absurd (true≢false (sym on))
all-listed root n (m ∷ ms) all on = elim (or_cases (same_name n m) (is_listed n ms) on) [
  | inl here ↦ equal_if_same n m here ∙ equal_if_same m root (and_parts (same_name m root) _ all).0
  | inr later ↦ all-listed root n ms (and_parts (same_name m root) _ all).1 later
]
