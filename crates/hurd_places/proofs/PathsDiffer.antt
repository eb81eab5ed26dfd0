-- Two nodes that are seen have two paths.
use Rattle.std.proofs.Common.{◌≡◌, inl, inr, ◌∙◌, refl, sym, ap, ℕ, suc, ◌+◌, ◌≤◌, ◌||◌, nat_eq, nat_lt, Bool, true, false, true≢false, List, [], ◌∷◌, length, Option, Some, arith, if◌then◌else◌, is_some, codes}
use Rattle.hurd_creds.specs.declared.name.Name.{Name}
use Rattle.hurd_creds.specs.declared.name.TaskId.{TaskId}
use Rattle.hurd_creds.specs.Names.{same_name}
use Rattle.hurd_creds.proofs.NameLaws.{equal_if_same, same_name-itself}
use Rattle.hurd_nodes.specs.Shown.{ServerInfo}
use Rattle.hurd_machine.specs.World.{IsAmong, World, body_at, server_at}
use Rattle.hurd_trans_iface.specs.Answers.{entry_of}
use Rattle.hurd_sight.specs.Found.{why_of}
use Rattle.hurd_sight.specs.Parts.{is_in}
use Rattle.hurd_sight.specs.Reach.{among}
use Rattle.hurd_sight.specs.declared.found.Why.{Why}
use Rattle.hurd_sight.specs.declared.found.Why.TheVariants as why
use Rattle.hurd_views.specs.Views.{Views, row_at}
use Rattle.hurd_views.specs.declared.view.View.{View}
use Rattle.hurd_places.specs.Places.{count_to, is_alike, is_covered, is_wanted, label_of, label_of_tasks, label_or, label_text, level_along, covered_path, name_in, names_tasks, node_path, numbered, open_place, or_root, path_along, way_of}
use Rattle.hurd_places.specs.Differ.{IsSmall, IsView, NodePlacesDiffer, OpenPlacesDiffer, PathsDiffer}
use Rattle.hurd_places.proofs.ApartLaws.{Apart, full, ways_once}
use Rattle.hurd_places.proofs.FoundWays.{the_way}
use Rattle.hurd_places.proofs.SeenFacts.{active_seen, child_named, reason, some_once}
use Rattle.hurd_places.proofs.BesideLaws.{paths_alike}
use Rattle.hurd_places.proofs.LabelLaws.{BothWanted, IsShort, label_there, labels_once, seats}
use Rattle.hurd_places.specs.declared.labels.Label.{Label}
use Rattle.hurd_places.specs.declared.labels.Wanted.{Wanted}
use Rattle.hurd_places.specs.declared.labels.Wanted.TheVariants as wanted
use Rattle.hurd_ports.specs.Tables.{Task}
use Rattle.hurd_ports.specs.declared.table.IoRight.{IoRight}
use Rattle.hurd_ports.specs.declared.table.Right.{Right}
use Rattle.hurd_ports.specs.declared.table.Right.TheVariants.{Io, Control, Start}
use Rattle.hurd_machine.specs.Sight.{Holds}
use Rattle.hurd_words.proofs.Bytes.{first_same}
use Rattle.std.proofs.lemmas.Bool.{eqb-true}
use Rattle.std.proofs.lemmas.List.{append_cancel_right}
use Rattle.hurd_places.proofs.TargetLaws.{target_once}
use Rattle.hurd_places.proofs.StepLaws.{child_name, held_rest, last, numbered_once}

-- a count ends at one node

abbrev number : Bool → ℕ
number t = if t then 1 else 0

counted : (y : Why) (n : Name) (es : List (Name × Why)) → is_alike y y ≡ true → why_of n es ≡ Some y → 1 ≤ count_to y n es
counted y n [] alike is = absurd (cc)
counted y n ((q, z) ∷ es) alike is = go (counted y n es alike) (same_name n q) is
  where
    go : (why_of n es ≡ Some y → 1 ≤ count_to y n es) → (b : Bool) → (if b then Some z else why_of n es) ≡ Some y → 1 ≤ (if is_alike y z then 1 else 0) + (if b then 0 else count_to y n es)
    go further true found =
        let same = ap (λ (x : Why). number (is_alike y x)) (some_once z y found) ∙ ap number alike in omega (arith, same)
    go further false found = let more = further found in omega (arith, more)

count_once : (y : Why) (n m : Name) (es : List (Name × Why)) → is_alike y y ≡ true → why_of n es ≡ Some y → why_of m es ≡ Some y → count_to y n es ≡ count_to y m es → n ≡ m
count_once y n m [] alike n_is m_is same = absurd (cc)
count_once y n m ((q, z) ∷ es) alike n_is m_is same =
    go (count_once y n m es alike) (counted y n es alike) (counted y m es alike) (same_name n q) (same_name m q) refl refl n_is m_is same
  where
    go : (why_of n es ≡ Some y → why_of m es ≡ Some y → count_to y n es ≡ count_to y m es → n ≡ m) → (why_of n es ≡ Some y → 1 ≤ count_to y n es)
        → (why_of m es ≡ Some y → 1 ≤ count_to y m es) → (a b : Bool) → same_name n q ≡ a → same_name m q ≡ b → (if a then Some z else why_of n es) ≡ Some y
        → (if b then Some z else why_of m es) ≡ Some y
        → (if is_alike y z then 1 else 0) + (if a then 0 else count_to y n es) ≡ (if is_alike y z then 1 else 0) + (if b then 0 else count_to y m es) → n ≡ m
    go further some_n some_m true true n_same m_same n_is m_is same = equal_if_same n q n_same ∙ sym (equal_if_same m q m_same)
    go further some_n some_m true false n_same m_same n_is m_is same = let more = some_m m_is in absurd (omega (arith, more, same))
    go further some_n some_m false true n_same m_same n_is m_is same = let more = some_n n_is in absurd (omega (arith, more, same))
    go further some_n some_m false false n_same m_same n_is m_is same = further n_is m_is (omega (arith, same))

count_most : (y : Why) (n : Name) (es : List (Name × Why)) → count_to y n es ≤ length es
count_most y n [] = omega arith
count_most y n ((q, z) ∷ es) = go (is_alike y z) (same_name n q) (count_most y n es)
  where
    go : (a b : Bool) → count_to y n es ≤ length es → (if a then 1 else 0) + (if b then 0 else count_to y n es) ≤ suc (length es)
    go true true most = omega (arith, most)
    go true false most = omega (arith, most)
    go false true most = omega (arith, most)
    go false false most = omega (arith, most)

-- rights that are looked for have labels, by which they are told apart

short : (v : View) (q : Wanted) (l : Label) → IsSmall v → label_of v q ≡ Some l → IsShort l
short v q l small is = let both = small.labels q l is in record { task = both.0; number = both.1 }

in_view : (tasks : List TaskId) (w : World) (v : View) (q : Wanted) → Views tasks w v → label_of v q ≡ label_of_tasks q tasks (seats w tasks)
in_view tasks w v q views =
    ap (λ (ts : List TaskId). label_of_tasks q ts v.seats.items) views.ours ∙ ap (λ (xs : List (Option Task)). label_of_tasks q tasks xs) views.seats

among_tasks : (ts : List TaskId) (t : ℕ) → among ts t ≡ true → (u : TaskId) × (u.0 ≡ t) × IsAmong u ts
among_tasks [] t is = absurd (true≢false (sym is))
among_tasks (u ∷ ts) t is = go (among_tasks ts t) (nat_eq u.0 t) refl is
  where
    go : (among ts t ≡ true → (x : TaskId) × (x.0 ≡ t) × IsAmong x ts) → (b : Bool) → nat_eq u.0 t ≡ b → (b || among ts t) ≡ true → (x : TaskId) × (x.0 ≡ t) × IsAmong x (u ∷ ts)
    go rest true same found = (u, eqb-true u.0 t same, inl refl)
    go rest false other found = let more = rest found in (more.0, more.1, inr more.2)

called : (tasks : List TaskId) (w : World) (v : View) (q : Wanted) (r : Right) → Views tasks w v → Holds (among tasks) w r → is_wanted q r ≡ true → (l : Label) × (label_of v q ≡ Some l)
called tasks w v q r views holds wanted =
    let u = among_tasks tasks holds.task holds.ours in
    let it = label_there w q tasks holds.task holds.seat r u.0 u.1 u.2 holds.is_task holds.here wanted in (it.0, in_view tasks w v q views ∙ it.1)

called_once : (tasks : List TaskId) (w : World) (v : View) (q r : Wanted) (a b : Label) → IsView tasks w v → label_of v q ≡ Some a → label_of v r ≡ Some b
    → label_text (names_tasks v) a ≡ label_text (names_tasks v) b → BothWanted q r
called_once tasks w v q r a b is_view is_a is_b texts =
    let many : names_tasks v ≡ nat_lt 1 (length tasks) = ap (λ (ts : List TaskId). nat_lt 1 (length ts)) is_view.views.ours in
    labels_once w q r tasks a b (λ t x there. is_view.tables.numbered t x there) (sym (in_view tasks w v q is_view.views) ∙ is_a) (sym (in_view tasks w v r is_view.views) ∙ is_b)
    (short v q a is_view.small is_a) (short v r b is_view.small is_b)
    (ap (λ (t : Bool). label_text t a) (sym many) ∙ (texts ∙ ap (λ (t : Bool). label_text t b) many))

one_node : (n m : Name) → BothWanted (wanted.Node n) (wanted.Node m) → n ≡ m
one_node n m (Io r, a, b) = equal_if_same n r.node a ∙ sym (equal_if_same m r.node b)
one_node n m (Control s, a, b) = absurd (true≢false (sym a))
one_node n m (Start s, a, b) = absurd (true≢false (sym a))

one_open : (o p : Name) → BothWanted (wanted.Open o) (wanted.Open p) → o ≡ p
one_open o p (Io r, a, b) = equal_if_same o r.open_name a ∙ sym (equal_if_same p r.open_name b)
one_open o p (Control s, a, b) = absurd (true≢false (sym a))
one_open o p (Start s, a, b) = absurd (true≢false (sym a))

held_once : (tasks : List TaskId) (w : World) (v : View) (n m : Name) → IsView tasks w v → (r s : IoRight) → Holds (among tasks) w (Io r) → Holds (among tasks) w (Io s) → n ≡ r.node
    → m ≡ s.node → last v n why.Held ≡ last v m why.Held → n ≡ m
held_once tasks w v n m is_view r s holds_r holds_s n_is m_is lasts =
    let a = called tasks w v (wanted.Node n) (Io r) is_view.views holds_r (ap (same_name n) (sym n_is) ∙ same_name-itself n) in
    let b = called tasks w v (wanted.Node m) (Io s) is_view.views holds_s (ap (same_name m) (sym m_is) ∙ same_name-itself m) in
    let words = append_cancel_right (label_or (names_tasks v) (codes "held") (label_of v (wanted.Node n))) (label_or (names_tasks v) (codes "held") (label_of v (wanted.Node m))) (41 ∷ [])
    (first_same 40 40 (held_rest v n) (held_rest v m) lasts).1 in
    one_node n m (called_once tasks w v (wanted.Node n) (wanted.Node m) a.0 b.0 is_view a.1 b.1
    (sym (ap (label_or (names_tasks v) (codes "held")) a.1) ∙ (words ∙ ap (label_or (names_tasks v) (codes "held")) b.1)))

pub open_places_differ : OpenPlacesDiffer
open_places_differ tasks w v o p is_view seen_o seen_p is =
    let x = (is_view.views.looks.opens o).0 seen_o in
    let y = (is_view.views.looks.opens p).0 seen_p in
    let a = called tasks w v (wanted.Open o) (Io x.0) is_view.views x.1 (ap (same_name o) x.2 ∙ same_name-itself o) in
    let b = called tasks w v (wanted.Open p) (Io y.0) is_view.views y.1 (ap (same_name p) y.2 ∙ same_name-itself p) in
    one_open o p (called_once tasks w v (wanted.Open o) (wanted.Open p) a.0 b.0 is_view a.1 b.1
    (sym (ap (label_or (names_tasks v) (codes "(open)")) a.1) ∙ (is ∙ ap (label_or (names_tasks v) (codes "(open)")) b.1)))

-- what tells nodes of a view apart

one_root : (w : World) (o : Option Name) (s t : Name) (i j : ServerInfo) → o ≡ Some s → o ≡ Some t → server_at w s ≡ Some i → server_at w t ≡ Some j → i.root ≡ j.root
one_root w o s t i j is_s is_t is_i is_j = ap (λ (x : ServerInfo). x.root) (some_once i j (sym is_i ∙ (ap (server_at w) (some_once s t (sym is_s ∙ is_t)) ∙ is_j)))

apart : (tasks : List TaskId) (w : World) (v : View) → IsView tasks w v → Apart v
apart tasks w v is_view = record {
  once = once;
  covered = λ d n a.
      let r = reason tasks w v n (why.Active d) views a in
      ap (λ (o : Option Name). is_some o) (active_seen tasks w v d views (r.from d refl) ∙ r.holds.2);
}
  where
    views : Views tasks w v
    views = is_view.views

    is_small : IsSmall v
    is_small = is_view.small

    by_count : (word : List ℕ) (y : Why) (n m : Name) → is_alike y y ≡ true → why_of n v.sight.found ≡ Some y → why_of m v.sight.found ≡ Some y
        → numbered word (count_to y n v.sight.found) ≡ numbered word (count_to y m v.sight.found) → n ≡ m
    by_count word y n m alike a b lasts =
        let small = is_small.found in
        let most_n = count_most y n v.sight.found in
        let most_m = count_most y m v.sight.found in
        count_once y n m v.sight.found alike a b
        (numbered_once word (count_to y n v.sight.found) (count_to y m v.sight.found) (omega (arith, most_n, small)) (omega (arith, most_m, small)) lasts)

    once : (y : Why) (n m : Name) → why_of n v.sight.found ≡ Some y → why_of m v.sight.found ≡ Some y → last v n y ≡ last v m y → n ≡ m
    once why.Root n m a b lasts = (reason tasks w v n why.Root views a).holds ∙ sym (reason tasks w v m why.Root views b).holds
    once why.Held n m a b lasts =
        let p = (reason tasks w v n why.Held views a).holds in
        let q = (reason tasks w v m why.Held views b).holds in
        held_once tasks w v n m is_view p.0 q.0 p.1 q.1 p.2 q.2 lasts
    once why.Way n m a b lasts = by_count (codes "way") why.Way n m refl a b lasts
    once why.Controlled n m a b lasts = by_count (codes "controlled") why.Controlled n m refl a b lasts
    once why.Pending n m a b lasts = by_count (codes "pending") why.Pending n m refl a b lasts
    once (why.Child d) n m a b lasts =
        let names = child_name (name_in (row_at v.rows d).body n) (name_in (row_at v.rows d).body m) lasts in
        some_once n m (sym (child_named tasks w v d n views a) ∙ (ap (λ (name : List ℕ). entry_of name (body_at w d)) names ∙ child_named tasks w v d m views b))
    once (why.Active d) n m a b lasts =
        let p = (reason tasks w v n (why.Active d) views a).holds in
        let q = (reason tasks w v m (why.Active d) views b).holds in
        p.4 ∙ (one_root w _ p.0 q.0 p.1 q.1 p.2 q.2 p.3 q.3 ∙ sym q.4)
    once (why.Parent d) n m a b lasts =
        let p = (reason tasks w v n (why.Parent d) views a).holds in
        let q = (reason tasks w v m (why.Parent d) views b).holds in
        some_once n m (sym p.2 ∙ (ap (λ (h : _). h.parent) (some_once p.0 q.0 (sym p.1 ∙ q.1)) ∙ q.2))
    once (why.ServerRoot d) n m a b lasts =
        let p = (reason tasks w v n (why.ServerRoot d) views a).holds in
        let q = (reason tasks w v m (why.ServerRoot d) views b).holds in
        p.5 ∙ (one_root w _ p.0 q.0 p.1 q.1 p.2 q.2 p.3 q.3 ∙ sym q.5)
    once (why.Target d) n m a b lasts = target_once tasks w v d n m views is_small.targets a b lasts

-- the path of a node is the one along its way

along : (v : View) (n : Name) (ns : List Name) → way_of v n ≡ n ∷ ns → node_path v n ≡ or_root (full v n ns)
along v n ns is = ap (λ (xs : List Name). or_root (covered_path (is_covered v n) (path_along v xs) (level_along v xs))) is

pub paths_differ : PathsDiffer
paths_differ tasks w v n m is_view found_n found_m is =
    let small = is_view.small.found in
    let a = the_way (among tasks) w v n is_view.views.looks.found found_n in
    let b = the_way (among tasks) w v m is_view.views.looks.found found_m in
    let size_a = a.few in
    let size_b = b.few in
    ways_once v n m a.behind b.behind (apart tasks w v is_view) (omega (arith, size_a, small)) (omega (arith, size_b, small)) a.way b.way
    (sym (along v n a.behind a.is) ∙ (is ∙ along v m b.behind b.is))

pub node_places_differ : NodePlacesDiffer
node_places_differ tasks w v n m is_view found_n found_m is = paths_differ tasks w v n m is_view found_n found_m (paths_alike v n m is)

-- an open that some tasks have is called by a label
pub open_called : (tasks : List TaskId) (w : World) (v : View) (o : Name) → IsView tasks w v → is_in o v.sight.rights.opens ≡ true → (l : Label) × (open_place v o ≡ label_text (names_tasks v) l)
open_called tasks w v o is_view seen =
    let x = (is_view.views.looks.opens o).0 seen in
    let a = called tasks w v (wanted.Open o) (Io x.0) is_view.views x.1 (ap (same_name o) x.2 ∙ same_name-itself o) in (a.0, ap (label_or (names_tasks v) (codes "(open)")) a.1)
