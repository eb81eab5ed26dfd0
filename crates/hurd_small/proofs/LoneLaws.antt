-- The one node of a server, and what its server answers of it.
use Rattle.std.proofs.Common.{◌≡◌, ◌⊎◌, inl, inr, ℕ, Bool, true, false, true≢false, List, [], refl, ap, sym, subst, ◌∙◌, is_some, not, if◌then◌else◌}
use Rattle.std.specs.Prelude.{Option, Some, None, Result, Ok, Err}
use Rattle.std.specs.Option.{option_map}
use Rattle.std.specs.FinMap as fin
use Rattle.hurd_creds.specs.Memory.{Steps}
use Rattle.hurd_creds.specs.NameMaps.{NameMap, map_values}
use Rattle.hurd_creds.specs.Names.{name_cmp, same_name}
use Rattle.hurd_creds.specs.declared.name.Name.{Name}
use Rattle.hurd_creds.specs.declared.errno.Errno.{Errno}
use Rattle.hurd_creds.specs.declared.errno.Errno.TheVariants.{ENOTDIR, EOPNOTSUPP, EROFS}
use Rattle.hurd_creds.proofs.NameLaws.{equal_if_same, apart_if_not_same, same_or_apart, same_map_by, get_here, get_apart, remove_here, remove_apart, insert-insert}
use Rattle.hurd_creds.proofs.MapLaws.{map_values-empty, map_values-insert}
use Rattle.hurd_creds.proofs.StepLaws.{steps-inside, steps-refused}
use Rattle.hurd_trans_iface.specs.declared.header_edit.HeaderEdit.{HeaderEdit}
use Rattle.hurd_trans_iface.specs.Nodes.{AllListed, Node, NodeMap, body_of, is_dir, is_entered_at, passive_of, with_header, with_size}
use Rattle.hurd_trans_iface.specs.Answers.{entry_of, unlink_of}
use Rattle.hurd_trans_iface.specs.Meaning.{Meaning, behaviour_of, root_of, keeps_tree, new_root, root_body, begin_root_after, step_of, options_taken, resized, set_options_step, size_of, space_of, unlink_step, forget_after, edit_header_step}
use Rattle.hurd_trans_iface.specs.declared.begun.ServerKind.{ServerKind}
use Rattle.hurd_trans_iface.specs.Behaviour.{Effect, Question, fitting, told_of, served}
use Rattle.hurd_trans_iface.specs.Good.{KeepsRoot}
use Rattle.hurd_trans_iface.specs.Totals.{space_with, total_in}
use Rattle.hurd_trans_iface.proofs.Goods.{good}
use Rattle.hurd_trans_iface.proofs.NodeSteps.{step-node, told-here}
use Rattle.hurd_small.specs.declared.presence.LoneNode.{LoneNode}
use Rattle.hurd_small.specs.declared.presence.Presence.{Presence}
use Rattle.hurd_small.specs.declared.presence.Presence.TheVariants.{Nameless, There, Forgotten}
use Rattle.hurd_small.specs.Calls.{AnswersSo}
use Rattle.hurd_small.specs.Lone.{body_with, node_of, nodes_of, root_name, lone_meaning, barred_by, text_taken}

-- maps of one value, and of none

module _ {X : Type 0} (n : Name) where
  abbrev one : X → NameMap X
  one x = fin.insert fin.empty n x

  pub get-one : (x : X) → fin.get (one x) n ≡ Some x
  get-one x = get_here {X = X} fin.empty n x

  pub get-other : (x : X) (q : Name) → (q ≡ n → ⊥) → fin.get (one x) q ≡ None
  get-other x q apart = get_apart {X = X} fin.empty n x q apart ∙ fin.get-empty {X = X} name_cmp q

  remove-absent : (m : NameMap X) → fin.get m n ≡ None → fin.remove m n ≡ m
  remove-absent m none = same_map_by (fin.remove m n) m (λ q. go q (same_or_apart q n))
    where
      go : (q : Name) → (q ≡ n) ⊎ (q ≡ n → ⊥) → fin.get (fin.remove m n) q ≡ fin.get m q
      go q (inl e) = rw e (remove_here m n ∙ sym none)
      go q (inr apart) = remove_apart m n q apart

  abbrev none : NameMap X
  none = fin.empty

  remove-one : (x : X) → fin.remove (one x) n ≡ none
  remove-one x = same_map_by (fin.remove (one x) n) none (λ q. go q (same_or_apart q n))
    where
      go : (q : Name) → (q ≡ n) ⊎ (q ≡ n → ⊥) → fin.get (fin.remove (one x) n) q ≡ fin.get none q
      go q (inl e) = rw e (remove_here (one x) n ∙ sym (fin.get-empty {X = X} name_cmp n))
      go q (inr apart) = remove_apart (one x) n q apart ∙ get_apart none n x q apart

abbrev no_nodes : NodeMap
no_nodes = fin.empty

-- where no tree is kept there is no limit

pub space_none : (m : Meaning) → keeps_tree m.kind ≡ false → space_of m ≡ None
space_none m no_tree = ap (λ (most : Option ℕ). space_with most (total_in m.nodes)) ((good m.kind).unlimited no_tree m.text)

-- where no tree is kept no entry goes

abbrev IsBarred : Bool → Type 0
IsBarred b = (let r : Result (Unit {0}) Errno = if not b then Err ENOTDIR else Err EROFS in r) ≡ Err (if b then EROFS else ENOTDIR)

barred_if : (b : Bool) → IsBarred b
barred_if true = refl
barred_if false = refl

unlink-plain : (keeps : Bool) → keeps ≡ false → (name : List ℕ) (o : Option Node) → unlink_of keeps name o ≡ Err (barred_by o)
unlink-plain keeps no_tree name None = refl
unlink-plain keeps no_tree name (Some d) = rw no_tree (barred_if (is_dir d.header.kind))

-- a directory without entries, or no directory

no_entry : (name : List ℕ) (b : Bool) (held : List ℕ) → None ≡ entry_of name (Some (root_body b held))
no_entry name true held = refl
no_entry name false held = refl

module _ (kind : ServerKind) (text : List ℕ) (held : List ℕ) where
  abbrev at : Presence → Name → Option Node
  at p n = fin.get (nodes_of kind text held p) n

  -- the node is found under its name, and under no other

  pub find_there : (p : Presence) (r : LoneNode) (n : Name) → p ≡ There r → same_name r.name n ≡ true → Some (node_of kind text held r) ≡ at p n
  find_there p r n is same =
      let e : r.name ≡ n = equal_if_same r.name n same in
      rw (is, ← e) (sym (get-one r.name (node_of kind text held r)))

  pub find_apart : (p : Presence) (r : LoneNode) (n : Name) → p ≡ There r → same_name r.name n ≡ false → None ≡ at p n
  find_apart p r n is other = rw is (sym (get-other r.name (node_of kind text held r) n (λ e. apart_if_not_same r.name n other (sym e))))

  pub find_nameless : (p : Presence) (n : Name) → p ≡ Nameless → None ≡ at p n
  find_nameless p n is = rw is (sym (fin.get-empty {X = Node} name_cmp n))

  pub find-forgotten : (p : Presence) (n name : Name) → p ≡ Forgotten name → None ≡ at p n
  find-forgotten p n name is = rw is (sym (fin.get-empty {X = Node} name_cmp n))

  -- whatever is found is the node

  abbrev Found : Presence → Name → Type 0
  Found p n = (at p n ≡ None) ⊎ ((r : LoneNode) × (at p n ≡ Some (node_of kind text held r)))

  found : (p : Presence) (n : Name) → Found p n
  found Nameless n = inl (fin.get-empty {X = Node} name_cmp n)
  found (Forgotten name) n = inl (fin.get-empty {X = Node} name_cmp n)
  found (There r) n = elim (same_or_apart n r.name) [
    | inl e ↦ inr (r, rw e (get-one r.name (node_of kind text held r)))
    | inr apart ↦ inl (get-other r.name (node_of kind text held r) n apart)
  ]

  entered : is_dir (root_of kind text).kind ≡ false → (o : Option Node) → (o ≡ None) ⊎ ((r : LoneNode) × (o ≡ Some (node_of kind text held r))) → is_entered_at o ≡ true
  entered plain o (inl none) = rw none refl
  entered plain o (inr (r, is)) = rw (is, plain) refl

  -- a node that is no directory has a link, so no node is without an entry
  pub all_entered : is_dir (root_of kind text).kind ≡ false → (p : Presence) → AllListed (nodes_of kind text held p) []
  all_entered plain p n nameless = absurd (true≢false (sym (entered plain (at p n) (found p n)) ∙ nameless))

  -- no words are stored with it
  pub passive_none : (p : Presence) (n : Name) → None ≡ passive_of (at p n)
  passive_none p n = elim (found p n) [
    | inl none ↦ rw none refl
    | inr there ↦ rw there.1 refl
  ]

  -- it has no entries
  pub step_none : (p : Presence) (n : Name) (name : List ℕ) → None ≡ entry_of name (body_of (nodes_of kind text held p) n)
  step_none p n name = elim (found p n) [
    | inl none ↦ rw none refl
    | inr there ↦ rw there.1 (no_entry name (is_dir (root_of kind text).kind) held)
  ]

  -- where no tree is kept
  pub unlink_barred : (p : Presence) (n : Name) → keeps_tree kind ≡ false → (e : Errno) → e ≡ barred_by (at p n) → (name : List ℕ)
      → (let m = lone_meaning kind text held p in (Err e, m) ≡ unlink_step n name m)
  unlink_barred p n no_tree e is name = rw (is, unlink-plain (keeps_tree kind) no_tree name (at p n)) refl

  -- the node goes when it is forgotten, and not when another one is

  abbrev StandsFor : Presence → Name → Option LoneNode → Type 0
  StandsFor p n o = option_map (node_of kind text held) o ≡ at p n

  some_is_none : (o : Option LoneNode) → is_some o ≡ true → option_map (node_of kind text held) o ≡ None → ⊥
  some_is_none None some none = absurd (cc)
  some_is_none (Some r) some none = absurd (cc)

  none_if_none : (o : Option LoneNode) → is_some o ≡ false → option_map (node_of kind text held) o ≡ None
  none_if_none None none = refl
  none_if_none (Some r) none = absurd (cc)

  pub forget_there : (p : Presence) (n : Name) (o : Option LoneNode) → StandsFor p n o → is_some o ≡ true → lone_meaning kind text held (Forgotten n) ≡ forget_after (lone_meaning kind text held p) n
  forget_there Nameless n o finds some = absurd (some_is_none o some (finds ∙ fin.get-empty {X = Node} name_cmp n))
  forget_there (Forgotten name) n o finds some = absurd (some_is_none o some (finds ∙ fin.get-empty {X = Node} name_cmp n))
  forget_there (There r) n o finds some = elim (same_or_apart n r.name) [
    | inl e ↦ rw (e, remove-one r.name (node_of kind text held r)) refl
    | inr apart ↦ absurd (some_is_none o some (finds ∙ get-other r.name (node_of kind text held r) n apart))
  ]

  pub forget_absent : (p : Presence) (n : Name) (o : Option LoneNode) → StandsFor p n o → is_some o ≡ false → lone_meaning kind text held p ≡ forget_after (lone_meaning kind text held p) n
  forget_absent p n o finds none =
      rw (remove-absent n (nodes_of kind text held p) (sym finds ∙ none_if_none o none)) refl

-- options that are taken

module _ (kind : ServerKind) (old : List ℕ) (held : List ℕ) (p : Presence) (no_tree : keeps_tree kind ≡ false) where
  abbrev meant : List ℕ → Meaning
  meant text = lone_meaning kind text held p

  module _ (new : List ℕ) (kept : KeepsRoot (behaviour_of kind) new) where
    abbrev retexted : Node → Node
    retexted x = with_header (with_size (size_of kind new)) x

    node-retexted : (n : LoneNode) → retexted (node_of kind old held n) ≡ node_of kind new held n
    node-retexted n = rw (kept.rooted old, kept.sized no_tree (body_with kind new held)) refl

    map-retexted : (q : Presence) → map_values retexted (nodes_of kind old held q) ≡ nodes_of kind new held q
    map-retexted Nameless = map_values-empty retexted
    map-retexted (Forgotten name) = map_values-empty retexted
    map-retexted (There n) =
        map_values-insert retexted no_nodes n.name (node_of kind old held n)
        ∙ ap (λ (m : NodeMap). fin.insert m n.name (retexted (node_of kind old held n))) (map_values-empty retexted)
        ∙ ap (λ (x : Node). fin.insert no_nodes n.name x) (node-retexted n)

    nodes-retexted : resized (keeps_tree kind) (size_of kind new) (nodes_of kind old held p) ≡ nodes_of kind new held p
    nodes-retexted = ap (λ (b : Bool). resized b (size_of kind new) (nodes_of kind old held p)) no_tree ∙ map-retexted p

  taken : (r : Result (Option (List ℕ)) Errno) → ((new : List ℕ) → r ≡ Ok (Some new) → KeepsRoot (behaviour_of kind) new)
      → options_taken r (meant old) ≡ ((text_taken r old).0, meant (text_taken r old).1)
  taken (Ok None) keeps = refl
  taken (Ok (Some new)) keeps =
      ap (λ (m : NodeMap). let z : Result (Unit {0}) Errno × Meaning = (Ok tt, record { kind = kind; text = new; root = (meant old).root; nodes = m }) in z)
      (nodes-retexted new (keeps new refl))
  taken (Err e) keeps = refl

  pub options-taken : (ws : List (List ℕ)) (got : Result (Unit {0}) Errno) (new : List ℕ)
      → Steps old (text_taken ((behaviour_of kind).set_options ws) old) got new → Steps (meant old) (set_options_step ws (meant old)) got (meant new)
  options-taken ws got new steps =
      let r = (behaviour_of kind).set_options ws in
      steps-inside meant old new (text_taken r old) (set_options_step ws (meant old)) got (taken r (λ text. (good kind).options_root ws text)) steps

-- the root begins, and holds what it is to hold at first

module _ (kind : ServerKind) (n : LoneNode) where
  node-begun : (text : List ℕ) → node_of kind text ((behaviour_of kind).first text) n ≡ new_root (behaviour_of kind) text n.owner n.group n.mode
  node-begun text = refl

  pub root_begun : (p : Presence) (text : List ℕ) (held : List ℕ) (text' : List ℕ) (held' : List ℕ) → root_name p ≡ None → text' ≡ text → held' ≡ (behaviour_of kind).first text
      → lone_meaning kind text' held' (There n) ≡ begin_root_after (lone_meaning kind text held p) n.name n.owner n.group n.mode
  root_begun Nameless text held text' held' none same empty =
      rw (same, empty)
      (ap (λ (x : Node). let m : Meaning = record { kind = kind; text = text; root = Some n.name; nodes = fin.insert no_nodes n.name x } in m) (node-begun text))
  root_begun (There r) text held text' held' none same empty = absurd (cc)
  root_begun (Forgotten name) text held text' held' none same empty = absurd (cc)

-- a call that takes no memory does what it is to, or refuses and changes nothing
steps-told : {T : Type 0} (e : Effect T) (x y : Node) (got : Result T Errno) → (got, y) ≡ served e x → Steps x (served e x) got y
steps-told (Ok d) x y got is = rw (ap (λ s. s.0) is, ap (λ s. s.1) is) (record { answered = refl; left = refl })
steps-told (Err f) x y got is = rw (ap (λ s. s.0) is, ap (λ s. s.1) is) (steps-refused (served (Err f) x) x f refl)

-- what is done to what is kept of the node

module _ (kind : ServerKind) (text : List ℕ) (held : List ℕ) (p : Presence) (r : LoneNode) (n : Name) (there : (p ≡ There r) × (r.name ≡ n)) (no_tree : keeps_tree kind ≡ false) where
  pub at-there : fin.get (nodes_of kind text held p) n ≡ Some (node_of kind text held r)
  at-there = rw (there.0, ← there.1) (get-one r.name (node_of kind text held r))

  nodes-kept : (new : List ℕ) → nodes_of kind text new p ≡ fin.insert (nodes_of kind text held p) n (node_of kind text new r)
  nodes-kept new = rw (there.0, ← there.1) (sym (insert-insert no_nodes r.name (node_of kind text held r) (node_of kind text new r)))

  abbrev meaning : Meaning
  meaning = lone_meaning kind text held p

  module _ {T : Type 0} (q : Question T) (got : Result T Errno) where
    abbrev effect : Effect T
    effect = q (behaviour_of kind) text (node_of kind text held r)

    -- there is no limit by which it is refused
    effect-fits : effect ≡ fitting (space_of meaning) (node_of kind text held r).header effect
    effect-fits = sym (ap (λ (space : Option ℕ). fitting space (node_of kind text held r).header effect) (space_none meaning no_tree))

    pub told-kept : told_of effect ≡ (step_of q n meaning).0
    told-kept = told-here meaning n (node_of kind text held r) at-there q (told_of effect) (ap told_of effect-fits)

    pub step-kept : (same_text : List ℕ) (new : List ℕ) → same_text ≡ text → Steps (node_of kind text held r) (served effect (node_of kind text held r)) got (node_of kind same_text new r)
        → Steps meaning (step_of q n meaning) got (lone_meaning kind same_text new p)
    step-kept same_text new same =
        subst (λ (t : List ℕ). Steps (node_of kind text held r) (served effect (node_of kind text held r)) got (node_of kind t new r) → Steps meaning (step_of q n meaning) got (lone_meaning kind t new p)) (sym same)
        (λ steps. step-node meaning n (node_of kind text held r) at-there q got (node_of kind text new r) (nodes_of kind text new p)
        (subst (λ (e : Effect T). Steps (node_of kind text held r) (served e (node_of kind text held r)) got (node_of kind text new r)) effect-fits steps) (nodes-kept new))

    -- so it is by a call that takes no memory, and one answers as its keeper does
    pub done-kept : (same_text : List ℕ) (new : List ℕ) → same_text ≡ text → AnswersSo q kind text held got same_text new → Steps meaning (step_of q n meaning) got (lone_meaning kind same_text new p) × (got ≡ (step_of q n meaning).0)
    unfolding AnswersSo
    done-kept same_text new same does = (step-kept same_text new same (steps-told effect (node_of kind text held r) (node_of kind same_text new r) got (does r)), ap (λ s. s.0) (does r) ∙ told-kept)

  -- nothing that the node's header says is edited
  pub header_barred : (e : HeaderEdit) → (Err EOPNOTSUPP, meaning) ≡ edit_header_step n e meaning
  header_barred e = rw (at-there, no_tree) refl
