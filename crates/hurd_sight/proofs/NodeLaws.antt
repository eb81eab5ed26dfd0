-- What a node, a right and a task show: of what the code asks, and why it is shown.
use Rattle.std.proofs.Common.{◌≡◌, ◌∙◌, ◌⊎◌, inl, inr, sym, refl, ap, subst, ℕ, Bool, true, false, true≢false, List, [], ◌∷◌, ◌++◌, map, if◌then◌else◌}
use Rattle.std.specs.Prelude.{cond, Option, Some, None, option_and_then}
use Rattle.hurd_machine.proofs.Common.{Body, Content, Dir, Exec, Header, IdSets, IsAmong, Listing, Name, NodeState, ServerInfo, Task, active_in, bare, body_of, bytes_eq, entry_in, entry_of, flat_map, header_of, home_in, is_dir, names_of, rights_of, start_of}
use Rattle.std.specs.Option.{option_map}
use Rattle.std.specs.FinMap as fin
use Rattle.std.proofs.lemmas.Bool.{and_parts}
use Rattle.hurd_nodes.proofs.PartLaws.{and_true}
use Rattle.std.proofs.lemmas.List.Concat.{flat_map-append}
use Rattle.std.proofs.lemmas.List.Folds.{flat_map-map}
use Rattle.hurd_trans_iface.specs.Nodes.{Entry}
use Rattle.hurd_ports.specs.declared.table.Port.{Port}
use Rattle.hurd_machine.proofs.Removals.{same_exact}
use Rattle.hurd_sight.specs.Reach.{could_with, serves}
use Rattle.hurd_sight.specs.Found.{all_of, gathered, names_told, of_active, of_children, of_entry, of_node, of_parent, of_right, of_server, of_target, of_targets, parent_in, root_of, root_served, searched_by, served_root, targets_of}
use Rattle.hurd_sight.specs.declared.found.Why.{Why}
use Rattle.hurd_sight.specs.declared.found.Why.TheVariants as why
use Rattle.hurd_sight.proofs.FoundLaws.{Entries, among_flat, among_one, among_tested, among_there, among_why, flat_among, gathered_both, some_of, why_among}
use Rattle.hurd_machine.proofs.Listed.{dir_kind}
use Rattle.hurd_machine.proofs.Tasks.{among_cases, among_left, among_right}

-- what is there where a test holds
if_is : {X : Type 0} (t : Bool) (x y : X) → (if t then Some x else None) ≡ Some y → (t ≡ true) × (y ≡ x)
if_is true x y e = (refl, cc)
if_is false x y e = absurd (cc)

-- the root of a server

pub root_info : (h : NodeState) (s n : Name) → root_of h s ≡ Some n → (i : ServerInfo) × (fin.get h.servers s ≡ Some i) × (n ≡ i.root)
root_info h s n e =
    let it = some_of (option_map (λ (i : ServerInfo). i.root)) refl (fin.get h.servers s) n e in
    let is : n ≡ it.0.root = cc (it.2) in
    (it.0, it.1, is)

pub info_root : (h : NodeState) (s n : Name) (i : ServerInfo) → fin.get h.servers s ≡ Some i → n ≡ i.root → root_of h s ≡ Some n
info_root h s n i is root = ap (option_map (λ (j : ServerInfo). j.root)) is ∙ ap (λ (m : Name). Some m) (sym root)

-- the root of the server that is active on a node

pub active_info : (h : NodeState) (m n : Name) (y : Why) → IsAmong (n, y) (of_active h m)
    → (s : Name) × (i : ServerInfo) × (active_in h.sites m ≡ Some s) × (fin.get h.servers s ≡ Some i) × (n ≡ i.root) × (y ≡ why.Active m)
active_info h m n y a =
    let told = among_why (option_and_then (root_of h) (active_in h.sites m)) (why.Active m) n y a in
    let it = some_of (option_and_then (root_of h)) refl (active_in h.sites m) n told.0 in
    let info = root_info h it.0 n it.2 in
    (it.0, info.0, it.1, info.1, info.2, told.1)

pub info_active : (h : NodeState) (m n s : Name) (i : ServerInfo) → active_in h.sites m ≡ Some s → fin.get h.servers s ≡ Some i → n ≡ i.root → IsAmong (n, why.Active m) (of_active h m)
info_active h m n s i active is root =
    why_among (option_and_then (root_of h) (active_in h.sites m)) (why.Active m) n (ap (option_and_then (root_of h)) active ∙ info_root h s n i is root)

-- the root of a node's server that could be served

pub server_info : (h : NodeState) (ids : IdSets) (m n : Name) (y : Why) → IsAmong (n, y) (of_server h ids m)
    → (s : Name) × (i : ServerInfo) × (home_in h.sites m ≡ Some s) × (fin.get h.servers s ≡ Some i) × (serves ids i.ids ≡ true) × (n ≡ i.root) × (y ≡ why.ServerRoot m)
server_info h ids m n y a =
    let told = among_why (option_and_then (served_root h ids) (home_in h.sites m)) (why.ServerRoot m) n y a in
    let it = some_of (option_and_then (served_root h ids)) refl (home_in h.sites m) n told.0 in
    let info = some_of (option_and_then (root_served ids)) refl (fin.get h.servers it.0) n it.2 in
    let served = if_is (serves ids info.0.ids) info.0.root n info.2 in
    (it.0, info.0, it.1, info.1, served.0, served.1, told.1)

pub info_server : (h : NodeState) (ids : IdSets) (m n s : Name) (i : ServerInfo) → home_in h.sites m ≡ Some s → fin.get h.servers s ≡ Some i → serves ids i.ids ≡ true → n ≡ i.root
    → IsAmong (n, why.ServerRoot m) (of_server h ids m)
info_server h ids m n s i home is served root =
    why_among (option_and_then (served_root h ids) (home_in h.sites m)) (why.ServerRoot m) n
    (ap (option_and_then (served_root h ids)) home
    ∙ (ap (option_and_then (root_served ids)) is ∙ (ap (λ (b : Bool). if b then Some i.root else None) served ∙ ap (λ (q : Name). Some q) (sym root))))

-- the targets of a node's server, and of the one that is active on it

targets_info : (h : NodeState) (o : Option Name) (n : Name) → IsAmong n (targets_of h o) → (s : Name) × (i : ServerInfo) × (o ≡ Some s) × (fin.get h.servers s ≡ Some i) × IsAmong n i.targets
targets_info h o n a =
    let s = among_there (targets_of h) refl o n a in
    let i = among_there (λ (p : Option ServerInfo). all_of (option_map (λ (i : ServerInfo). i.targets) p)) refl (fin.get h.servers s.0) n s.2 in
    (s.0, i.0, s.1, i.1, i.2)

info_targets : (h : NodeState) (o : Option Name) (n s : Name) (i : ServerInfo) → o ≡ Some s → fin.get h.servers s ≡ Some i → IsAmong n i.targets → IsAmong n (targets_of h o)
info_targets h o n s i at is aim =
    subst (λ (p : Option Name). IsAmong n (targets_of h p)) (sym at) (subst (λ (p : Option ServerInfo). IsAmong n (all_of (option_map (λ (j : ServerInfo). j.targets) p))) (sym is) aim)

-- a target of either of two servers
abbrev pub TargetOf : NodeState → Name → Name → Type 0
TargetOf h m n = (s : Name) × (i : ServerInfo) × ((home_in h.sites m ≡ Some s) ⊎ (active_in h.sites m ≡ Some s)) × (fin.get h.servers s ≡ Some i) × IsAmong n i.targets

-- what is among targets is one, and this is why
aimed : (m n : Name) (y : Why) (ns : List Name) → IsAmong (n, y) (flat_map (of_target m) ns) → IsAmong n ns × (y ≡ why.Target m)
aimed m n y ns a =
    let it = flat_among (of_target m) (n, y) ns a in
    let e = among_one (n, y) (it.0, why.Target m) it.2 in
    (subst (λ (z : Name). IsAmong z ns) (ap (λ (t : Name × Why). t.0) e) it.1, sym (ap (λ (t : Name × Why). t.1) e))

pub target_info : (h : NodeState) (m n : Name) (y : Why) → IsAmong (n, y) (of_targets h m) → TargetOf h m n × (y ≡ why.Target m)
target_info h m n y a = elim (among_cases (n, y) (flat_map (of_target m) (targets_of h (home_in h.sites m))) _ a) [
  | inl b ↦
      let told = aimed m n y (targets_of h (home_in h.sites m)) b in
      let it = targets_info h (home_in h.sites m) n told.0 in
      ((it.0, it.1, inl it.2, it.3, it.4), told.1)
  | inr b ↦
      let told = aimed m n y (targets_of h (active_in h.sites m)) b in
      let it = targets_info h (active_in h.sites m) n told.0 in
      ((it.0, it.1, inr it.2, it.3, it.4), told.1)
]

pub info_target : (h : NodeState) (m n : Name) → TargetOf h m n → IsAmong (n, why.Target m) (of_targets h m)
info_target h m n t = at t.2
  where
    among : (o : Option Name) → o ≡ Some t.0 → IsAmong (n, why.Target m) (flat_map (of_target m) (targets_of h o))
    among o is = among_flat (of_target m) n (n, why.Target m) (targets_of h o) (info_targets h o n t.0 t.1 is t.3 t.4) (inl refl)

    at : (home_in h.sites m ≡ Some t.0) ⊎ (active_in h.sites m ≡ Some t.0) → IsAmong (n, why.Target m) (of_targets h m)
    at (inl is) = among_left _ (flat_map (of_target m) (targets_of h (home_in h.sites m))) _ (among (home_in h.sites m) is)
    at (inr is) = among_right _ (flat_map (of_target m) (targets_of h (home_in h.sites m))) _ (among (active_in h.sites m) is)

-- the parent of a directory

pub parent_info : (h : NodeState) (d n : Name) (y : Why) → IsAmong (n, y) (of_parent h d) → (x : Header) × (header_of h.nodes d ≡ Some x) × (x.parent ≡ Some n) × (y ≡ why.Parent d)
parent_info h d n y a =
    let told = among_why (parent_in (header_of h.nodes d)) (why.Parent d) n y a in
    let it = some_of parent_in refl (header_of h.nodes d) n told.0 in
    (it.0, it.1, it.2, told.1)

pub info_parent : (h : NodeState) (d n : Name) (x : Header) → header_of h.nodes d ≡ Some x → x.parent ≡ Some n → IsAmong (n, why.Parent d) (of_parent h d)
info_parent h d n x is parent = why_among (parent_in (header_of h.nodes d)) (why.Parent d) n (ap parent_in is ∙ parent)

-- what entries name

-- the name of an entry is among the names
named_entry : (name : List ℕ) (n : Name) (es : List Entry) → entry_in name es ≡ Some n → IsAmong name (map (λ (e : Entry). e.name) es)
named_entry name n [] is = absurd (cc)
named_entry name n (e ∷ es) is = go (bytes_eq e.name name) refl is (named_entry name n es)
  where
    go : (b : Bool) → bytes_eq e.name name ≡ b → entry_in name (e ∷ es) ≡ Some n → (entry_in name es ≡ Some n → IsAmong name (map (λ (e : Entry). e.name) es))
        → IsAmong name (map (λ (e : Entry). e.name) (e ∷ es))
    go true same here rest = inl (same_exact e.name name same)
    go false other here rest = inr (rest (sym (ap (λ (b : Bool). cond b (Some e.node) (entry_in name es)) other) ∙ here))

named : (name : List ℕ) (n : Name) (b : Option Body) → entry_of name b ≡ Some n → IsAmong name (names_told (names_of b))
named name n None is = absurd (cc)
named name n (Some (Content bs)) is = absurd (cc)
named name n (Some (Listing es)) is = named_entry name n es is

-- what a directory that could be searched is
searched_dir : (ids : IdSets) (o : Option Header) → searched_by ids o ≡ true → (x : Header) × (o ≡ Some x) × (x.kind ≡ Dir) × (could_with ids (bare x) Exec ≡ true)
searched_dir ids None e = absurd (true≢false (sym e))
searched_dir ids (Some x) e = let both = and_parts (is_dir x.kind) (could_with ids (bare x) Exec) e in (x, refl, dir_kind x.kind both.0, both.1)

abbrev if_searched : NodeState → Name → Bool → Entries
if_searched h d b = if b then flat_map (of_entry d (body_of h.nodes d)) (names_told (names_of (body_of h.nodes d))) else []

-- a child: its directory is there and could be searched, and an entry names it
abbrev pub ChildOf : NodeState → IdSets → Name → Name → Type 0
ChildOf h ids d n = (x : Header) × (name : List ℕ) × (header_of h.nodes d ≡ Some x) × (x.kind ≡ Dir) × (could_with ids (bare x) Exec ≡ true) × (entry_of name (body_of h.nodes d) ≡ Some n)

pub child_info : (h : NodeState) (ids : IdSets) (d n : Name) (y : Why) → IsAmong (n, y) (of_children h ids d) → ChildOf h ids d n × (y ≡ why.Child d)
child_info h ids d n y a =
    let i = among_tested (searched_by ids (header_of h.nodes d)) (n, y) _ a in
    let dir = searched_dir ids (header_of h.nodes d) i.0 in
    let it = flat_among (of_entry d (body_of h.nodes d)) (n, y) (names_told (names_of (body_of h.nodes d))) i.1 in
    let told = among_why (entry_of it.0 (body_of h.nodes d)) (why.Child d) n y it.2 in
    ((dir.0, it.0, dir.1, dir.2, dir.3, told.0), told.1)

pub info_child : (h : NodeState) (ids : IdSets) (d n : Name) → ChildOf h ids d n → IsAmong (n, why.Child d) (of_children h ids d)
info_child h ids d n c =
    subst (λ (b : Bool). IsAmong (n, why.Child d) (if_searched h d b)) (sym searched)
    (among_flat (of_entry d (body_of h.nodes d)) c.1 (n, why.Child d) (names_told (names_of (body_of h.nodes d))) (named c.1 n (body_of h.nodes d) c.5)
    (why_among (entry_of c.1 (body_of h.nodes d)) (why.Child d) n c.5))
  where
    searched : searched_by ids (header_of h.nodes d) ≡ true
    searched = ap (searched_by ids) c.2 ∙ and_true (is_dir c.0.kind) (could_with ids (bare c.0) Exec) (ap is_dir c.3) c.4

-- the rights of a task: its start first, then those of its ports, then its inbox
pub of_rights : (a : Entries) {b c d : Entries} (h : NodeState) (x : Task) → b ≡ gathered (flat_map (of_right h) (start_of x.pending)) a
    → c ≡ gathered (flat_map (λ (p : Port). of_right h p.right) x.ports) b → d ≡ gathered (flat_map (of_right h) x.inbox) c → d ≡ gathered (flat_map (of_right h) (rights_of x)) a
of_rights a {b} {c} {d} h x starting porting sent =
    gathered_both a (flat_map (of_right h) (start_of x.pending)) (flat_map (λ (p : Port). of_right h p.right) x.ports ++ flat_map (of_right h) x.inbox) starting
    (gathered_both b (flat_map (λ (p : Port). of_right h p.right) x.ports) (flat_map (of_right h) x.inbox) porting sent)
    ∙ ap (λ (es : Entries). gathered es a) (sym joined)
  where
    joined : flat_map (of_right h) (rights_of x) ≡ flat_map (of_right h) (start_of x.pending) ++ (flat_map (λ (p : Port). of_right h p.right) x.ports ++ flat_map (of_right h) x.inbox)
    joined =
        flat_map-append (of_right h) (start_of x.pending) (map (λ p. p.right) x.ports ++ x.inbox)
        ∙ ap (λ (es : Entries). flat_map (of_right h) (start_of x.pending) ++ es)
        (flat_map-append (of_right h) (map (λ p. p.right) x.ports) x.inbox
        ∙ ap (λ (es : Entries). es ++ flat_map (of_right h) x.inbox) (flat_map-map (of_right h) (λ (p : Port). p.right) x.ports))

-- all that a node shows
pub of_all : (a : Entries) {b c d e f : Entries} (h : NodeState) (ids : IdSets) (m : Name) → b ≡ gathered (of_children h ids m) a → c ≡ gathered (of_parent h m) b → d ≡ gathered (of_active h m) c
    → e ≡ gathered (of_server h ids m) d → f ≡ gathered (of_targets h m) e → f ≡ gathered (of_node h ids m) a
of_all a {b} {c} {d} h ids m children parent active server targets =
    gathered_both a (of_children h ids m) (of_parent h m ++ (of_active h m ++ (of_server h ids m ++ of_targets h m))) children
    (gathered_both b (of_parent h m) (of_active h m ++ (of_server h ids m ++ of_targets h m)) parent
    (gathered_both c (of_active h m) (of_server h ids m ++ of_targets h m) active (gathered_both d (of_server h ids m) (of_targets h m) server targets)))
