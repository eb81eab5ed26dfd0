-- Views in which nothing differs are of worlds that have the same view, and no others.
use Rattle.std.proofs.Common.{◌≡◌, ◌∙◌, inl, inr, sym, refl, ap, subst, ℕ, Bool, true, false, true≢false, List, [], ◌∷◌, map, take, cond, if◌then◌else◌}
use Rattle.std.specs.Prelude.{◌↔◌, ◌||◌, Option, Some, None, nat_eq}
use Rattle.std.specs.FinMap as fin
use Rattle.std.specs.Option.{option_map}
use Rattle.std.proofs.lemmas.Bool.{or_cases, or_left, or_right}
use Rattle.std.proofs.lemmas.Slice.Eq.{bytes_eq-Decides}
use Rattle.std.specs.Cmp.{unsigned_Decides}
use Rattle.hurd_machine.proofs.Common.{ABody, AText, ATask, ATotal, AUsers, AnAttr, AnEmpty, AnEnds, AnOpen, AnOptions, AreDistinct, AttrOf, Attrs, Body, BodyOf, Content, EmptyOf, EndsOf, HasDistinctNames, Header, IdSets, IsAmong, Listing, Name, Node, OpenOf, OptionsOf, Part, SameView, Sees, SeesTotal, ServerInfo, Sound, Task, TaskId, TaskOf, TextOf, TotalOf, UsersOf, World, bare, body_at, bytes_eq, ends_at, entry_in, faced, header_at, holders, is_empty_dir, known_text, nodes_in, open_at, options_of, part, server_at, site_at, task_at, total_at, total_if, total_in, tree_by, users, words_at, words_in}
use Rattle.hurd_machine.proofs.Faces.{face_in, face_reads, root_told, text_in, whole}
use Rattle.hurd_machine.proofs.Views.{text_known}
use Rattle.hurd_nodes.proofs.Sites.{home_by, active_by, site_by}
use Rattle.hurd_trans_iface.specs.Answers.{is_tree}
use Rattle.hurd_trans_iface.specs.Nodes.{Entry}
use Rattle.hurd_trans_iface.specs.Meaning.{all_kinds, behaviour_of, root_of}
use Rattle.hurd_trans_iface.specs.declared.begun.ServerKind.{ServerKind}
use Rattle.hurd_trans_iface.specs.Texts.{is_link, told_text}
use Rattle.hurd_trans_iface.specs.declared.root.Root.{Root}
use Rattle.hurd_trans_iface.proofs.Goods.{good, kind_among, kind_named}
use Rattle.hurd_machine.specs.World.{nodes_of}
use Rattle.hurd_sight.specs.Looks.{sees_with}
use Rattle.hurd_sight.specs.Parts.{part_of}
use Rattle.hurd_sight.specs.Reach.{among}
use Rattle.hurd_views.specs.Views.{RowsAreViews, SameRows, Views, body_row, entry_before, first_word, node_row, row_at, row_of, rows_in, server_row, text_row, told_if}
use Rattle.hurd_sight.specs.declared.parts.SeenPart.{SeenPart}
use Rattle.hurd_sight.specs.declared.parts.SeenPart.TheVariants as seen
use Rattle.hurd_views.specs.declared.rows.BodyRow.{BodyRow}
use Rattle.hurd_views.specs.declared.rows.BodyRow.TheVariants as body
use Rattle.hurd_views.specs.declared.rows.EntryRow.{EntryRow}
use Rattle.hurd_views.specs.declared.rows.NodeRow.{NodeRow}
use Rattle.hurd_views.specs.declared.rows.OpenRow.{OpenRow}
use Rattle.hurd_views.specs.declared.rows.Row.{Row}
use Rattle.hurd_views.specs.declared.rows.ServerRow.{ServerRow}
use Rattle.hurd_views.specs.declared.rows.TextRow.{TextRow}
use Rattle.hurd_views.specs.declared.view.View.{View}
use Rattle.hurd_ports.specs.declared.table.Ends.{Ends}
use Rattle.hurd_sight.proofs.PartLaws.{parts_are_seen}
use Rattle.hurd_views.proofs.RowLaws.{row_told}

-- under each name of a view, what is seen of it is kept
pub row_there : {tasks : List TaskId} {w : World} {a : View} → Views tasks w a → (n : Name) → row_at a.rows n ≡ row_of w a.sight n
row_there views n = ap (λ (es : List (Name × Row)). row_at es n) views.rows ∙ row_told views.looks n

-- values that are told where tests hold

pub told_test : {X : Type 0} (s t : Bool) (x y : X) → told_if s x ≡ told_if t y → s ≡ t
told_test true true x y e = refl
told_test true false x y e = absurd (cc)
told_test false true x y e = absurd (cc)
told_test false false x y e = refl

pub told_value : {X : Type 0} (s t : Bool) (x y : X) → told_if s x ≡ told_if t y → s ≡ true → x ≡ y
told_value true true x y e on = cc
told_value true false x y e on = absurd (cc)
told_value false t x y e on = absurd (true≢false (sym on))

pub told_same : {X : Type 0} (s t : Bool) (x y : X) → s ≡ t → (s ≡ true → x ≡ y) → told_if s x ≡ told_if t y
told_same true t x y e same = ap (told_if true) (same refl) ∙ ap (λ (b : Bool). told_if b y) e
told_same false t x y e same = ap (λ (b : Bool). told_if b y) e

test_same : (s t : Bool) → (s ≡ true → t ≡ true) → (t ≡ true → s ≡ true) → s ≡ t
test_same true t to from = sym (to refl)
test_same false true to from = from refl
test_same false false to from = refl

-- a header is told by its bare attributes and its words

abbrev with_words : Attrs → List (List ℕ) → Header
with_words a ws = record { kind = a.kind; owner = a.owner; group = a.group; mode = a.mode; links = a.links; size = a.size; parent = a.parent; passive = ws }

abbrev headers : Option Attrs → List (List ℕ) → Option Header
headers None ws = None
headers (Some a) ws = Some (with_words a ws)

headers_back : (o : Option Node) → headers (option_map bare (option_map (λ (x : Node). x.header) o)) (words_in o) ≡ option_map (λ (x : Node). x.header) o
headers_back None = refl
headers_back (Some x) = refl

abbrev words_of_header : Option Header → List (List ℕ)
words_of_header None = []
words_of_header (Some h) = h.passive

words_back : (o : Option Node) → words_of_header (option_map (λ (x : Node). x.header) o) ≡ words_in o
words_back None = refl
words_back (Some x) = refl

-- entries of distinct names are told whole

abbrev plain : Entry → EntryRow
plain e = record { name = e.name; node = e.node }

abbrev entry : EntryRow → Entry
entry r = record { name = r.name; node = r.node }

back : (es : List Entry) → map entry (map plain es) ≡ es
back [] = refl
back (e ∷ es) = ap (λ (xs : List Entry). e ∷ xs) (back es)

-- under the name of each of some entries of distinct names stands its node
named : (es : List Entry) → AreDistinct es → (e : Entry) → IsAmong e es → entry_in e.name es ≡ Some e.node
named [] apart e none = absurd none
named (x ∷ xs) apart e (inl is) =
    ap (λ (b : Bool). cond b (Some x.node) (entry_in e.name xs)) ((bytes_eq-Decides x.name e.name).1 (ap (λ (y : Entry). y.name) is))
    ∙ ap (λ (y : Entry). Some y.node) is
named (x ∷ xs) apart e (inr later) = go (bytes_eq x.name e.name) refl (named xs apart.1 e later)
  where
    go : (b : Bool) → bytes_eq x.name e.name ≡ b → entry_in e.name xs ≡ Some e.node → cond (bytes_eq x.name e.name) (Some x.node) (entry_in e.name xs) ≡ Some e.node
    go true is before =
        let none : None ≡ Some e.node = sym apart.0 ∙ (ap (λ (n : List ℕ). entry_in n xs) ((bytes_eq-Decides x.name e.name).0 is) ∙ before) in
        absurd (cc)
    go false is before = ap (λ (b : Bool). cond b (Some x.node) (entry_in e.name xs)) is ∙ before

rows_told : (all es : List Entry) → ((e : Entry) → IsAmong e es → entry_in e.name all ≡ Some e.node) → rows_in (Some (Listing all)) (map (λ (e : Entry). e.name) es) ≡ map plain es
rows_told all [] is = refl
rows_told all (e ∷ es) is =
    ap (λ (o : Option Name). entry_before e.name o (rows_in (Some (Listing all)) (map (λ (x : Entry). x.name) es))) (is e (inl refl))
    ∙ ap (λ (rs : List EntryRow). plain e ∷ rs) (rows_told all es (λ x later. is x (inr later)))

listing_told : (es : List Entry) → AreDistinct es → map entry (rows_in (Some (Listing es)) (map (λ (e : Entry). e.name) es)) ≡ es
listing_told es apart = ap (map entry) (rows_told es es (named es apart)) ∙ back es

-- what is in a node is told by its row, where names are distinct

abbrev body_from : BodyRow → Body
body_from (body.Bytes bs) = Content bs
body_from (body.Entries rs) = Listing (map entry rs)

body_back : (b : Body) → HasDistinctNames b → body_from (body_row b) ≡ b
body_back (Content bs) apart = refl
body_back (Listing es) apart = ap Listing (listing_told es apart)

bodies_back : (o : Option Node) → ((x : Node) → o ≡ Some x → HasDistinctNames x.body)
    → option_map body_from (option_map body_row (option_map (λ (x : Node). x.body) o)) ≡ option_map (λ (x : Node). x.body) o
bodies_back None apart = refl
bodies_back (Some x) apart = ap Some (body_back x.body (apart x refl))

-- what is seen of a server is told by its program, by the text that whoever knows it is told, its root, its ids and its targets

first_taken : (ws : List (List ℕ)) (w : List ℕ) → take 1 ws ≡ w ∷ [] → first_word ws ≡ w
first_taken [] w is = absurd (cc)
first_taken (v ∷ ws) w is = cc

program_named : (k : ServerKind) (text : List ℕ) → first_word (options_of k text) ≡ (behaviour_of k).program
program_named k text = first_taken (options_of k text) (behaviour_of k).program ((good k).named text)

kinds_apart : (k l : ServerKind) (s t : List ℕ) → first_word (options_of k s) ≡ first_word (options_of l t) → k ≡ l
kinds_apart k l s t e = let same : Some k ≡ Some l = sym (kind_named k) ∙ ap (kind_among all_kinds) (sym (program_named k s) ∙ e ∙ program_named l t) ∙ kind_named l in cc

info_from : {k l : ServerKind} {s t : List ℕ} {n m : Name} {x y : IdSets} {p q : List Name} → k ≡ l → s ≡ t → n ≡ m → x ≡ y → p ≡ q
    → ◌≡◌ {A = ServerInfo} (record { kind = k; text = s; root = n; ids = x; targets = p }) (record { kind = l; text = t; root = m; ids = y; targets = q })
info_from a b c d e = rw (a, b, c, d, e) refl

face_told : (i j : ServerInfo) → server_row i ≡ server_row j → faced i ≡ faced j
face_told i j e =
    let kind : i.kind ≡ j.kind = kinds_apart i.kind j.kind i.text j.text (ap (λ (r : ServerRow). r.program) e) in
    let text : known_text i.kind i.text ≡ known_text j.kind j.text = ap (λ (r : ServerRow). r.text) e in
    let root : i.root ≡ j.root = ap (λ (r : ServerRow). r.root) e in
    let ids : i.ids ≡ j.ids = ap (λ (r : ServerRow). r.ids) e in
    let targets : i.targets ≡ j.targets = ap (λ (r : ServerRow). r.targets) e in
    info_from kind text root ids targets

pub faces_told : (o p : Option ServerInfo) → option_map server_row o ≡ option_map server_row p → face_in o ≡ face_in p
faces_told None None e = refl
faces_told None (Some j) e = absurd (cc)
faces_told (Some i) None e = absurd (cc)
faces_told (Some i) (Some j) e = ap Some (face_told i j (let same : Some (server_row i) ≡ Some (server_row j) = e in cc))

pub texts_told : (o p : Option ServerInfo) → option_map text_row o ≡ option_map text_row p → text_in o ≡ text_in p
texts_told None None e = refl
texts_told None (Some j) e = absurd (cc)
texts_told (Some i) None e = absurd (cc)
texts_told (Some i) (Some j) e = ap Some (ap (λ (r : TextRow). r.text) (let same : Some (text_row i) ≡ Some (text_row j) = e in let row : text_row i ≡ text_row j = cc in row))

-- and nothing else of it is kept

told_twice : (r : Root) (text : List ℕ) → told_text r (told_text r text) ≡ told_text r text
told_twice r text = go (is_link r.crossing || is_tree r)
  where
    go : (b : Bool) → (if b then (if b then text else []) else []) ≡ (if b then text else [])
    go true = refl
    go false = refl

kept_face : (k : ServerKind) (text : List ℕ) → (first_word (options_of k (known_text k text)) ≡ first_word (options_of k text)) × (known_text k (known_text k text) ≡ known_text k text)
kept_face k text = (
  program_named k (known_text k text) ∙ sym (program_named k text),
  ap (λ (r : Root). told_text r (known_text k text)) (root_told k text) ∙ told_twice (root_of k text) text,
)

row_faced : (i : ServerInfo) → server_row (faced i) ≡ server_row i
row_faced i = let k = kept_face i.kind i.text in rw (k.0, k.1) refl

rows_faced : (o p : Option ServerInfo) → face_in p ≡ face_in o → option_map server_row p ≡ option_map server_row o
rows_faced = face_reads (option_map server_row) (λ i. ap Some (row_faced i))

-- a row by its fields
pub row_from : {a a' : Option NodeRow} {b b' : Option (Option Bool)} {c c' : Option (Option BodyRow)} {m m' : Option (Option Ends)} {d d' : Option OpenRow} {e e' : Option (Option ServerRow)}
    {f f' : Option (Option TextRow)} {g g' t t' : Option ℕ} → a ≡ a' → b ≡ b' → c ≡ c' → m ≡ m' → d ≡ d' → e ≡ e' → f ≡ f' → g ≡ g' → t ≡ t'
    → ◌≡◌ {A = Row} (record { attributes = a; empty = b; body = c; ends = m; opened = d; server = e; text = f; users = g; total = t })
    (record { attributes = a'; empty = b'; body = c'; ends = m'; opened = d'; server = e'; text = f'; users = g'; total = t' })
row_from h i j k l m n o p = rw (h, i, j, k, l, m, n, o, p) refl

-- where the total of a server is seen, it is there

abbrev pub sum_at : World → Name → ℕ
sum_at w s = total_in (nodes_in w.nodes w.sites s)

pub total_there : (S : ℕ → Bool) (w : World) (s : Name) → SeesTotal S w s → total_at w s ≡ Some (sum_at w s)
total_there S w s t = ap (λ (b : Bool). total_if b (sum_at w s)) (ap tree_by t.is_server ∙ t.tree)

-- tasks of a list

pub seat_told : (v w : World) (tasks : List TaskId) (t : ℕ) → map (λ (x : TaskId). task_at v x.0) tasks ≡ map (λ (x : TaskId). task_at w x.0) tasks → among tasks t ≡ true → task_at v t ≡ task_at w t
seat_told v w [] t e none = absurd (true≢false (sym none))
seat_told v w (x ∷ xs) t e is = elim (or_cases (nat_eq x.0 t) (among xs t) is) [
  | inl here ↦ subst (λ (n : ℕ). task_at v n ≡ task_at w n) ((unsigned_Decides x.0 t).0 here) first
  | inr later ↦ seat_told v w xs t rest later
]
  where
    first : task_at v x.0 ≡ task_at w x.0
    first = let cons : task_at v x.0 ∷ map (λ (y : TaskId). task_at v y.0) xs ≡ task_at w x.0 ∷ map (λ (y : TaskId). task_at w y.0) xs = e in cc

    rest : map (λ (y : TaskId). task_at v y.0) xs ≡ map (λ (y : TaskId). task_at w y.0) xs
    rest = let cons : task_at v x.0 ∷ map (λ (y : TaskId). task_at v y.0) xs ≡ task_at w x.0 ∷ map (λ (y : TaskId). task_at w y.0) xs = e in cc

pub seats_same : (v w : World) (tasks : List TaskId) → ((t : ℕ) → among tasks t ≡ true → task_at v t ≡ task_at w t) → map (λ (x : TaskId). task_at v x.0) tasks ≡ map (λ (x : TaskId). task_at w x.0) tasks
seats_same v w [] same = refl
seats_same v w (x ∷ xs) same =
    ap (λ (o : Option Task). o ∷ map (λ (y : TaskId). task_at v y.0) xs) (same x.0 (or_left (nat_eq x.0 x.0) (among xs x.0) ((unsigned_Decides x.0 x.0).1 refl)))
    ∙ ap (λ (os : List (Option Task)). task_at w x.0 ∷ os) (seats_same v w xs (λ t is. same t (or_right (nat_eq x.0 t) (among xs t) is)))

-- what rows tell of a name in two worlds

module _ (v w : World) (n : Name) where
  header_told : node_row v n ≡ node_row w n → header_at v n ≡ header_at w n
  header_told e =
      sym (headers_back (fin.get v.nodes n))
      ∙ (ap (λ (r : NodeRow). headers r.attrs r.words) e ∙ headers_back (fin.get w.nodes n))

  pub attr_told : node_row v n ≡ node_row w n → AnAttr (header_at w n) (site_at w n) ≡ AnAttr (header_at v n) (site_at v n)
  attr_told e =
      let header : header_at v n ≡ header_at w n = header_told e in
      let site : site_at v n ≡ site_at w n = site_by (site_at v n) (site_at w n) (ap (λ (r : NodeRow). r.home) e) (ap (λ (r : NodeRow). r.active) e) in
      rw (header, site) refl

  pub body_told : Sound v → Sound w → option_map body_row (body_at v n) ≡ option_map body_row (body_at w n) → body_at v n ≡ body_at w n
  body_told sv sw e =
      sym (bodies_back (fin.get v.nodes n) (sv.coherent.tree.distinct n))
      ∙ (ap (option_map body_from) e ∙ bodies_back (fin.get w.nodes n) (sw.coherent.tree.distinct n))

-- two worlds, and what some tasks see of each

module _ (tasks : List TaskId) (v w : World) (a b : View) (sound_v : Sound v) (sound_w : Sound w) (in_v : Views tasks v a) (in_w : Views tasks w b) where
  abbrev S : ℕ → Bool
  S = among tasks

  abbrev sees_v : SeenPart → Bool
  sees_v q = sees_with (nodes_of v) a.sight q

  abbrev sees_w : SeenPart → Bool
  sees_w q = sees_with (nodes_of w) b.sight q

  says_v : (q : SeenPart) → (sees_v q ≡ true) ↔ Sees S v (part_of q)
  says_v q = parts_are_seen S v a.sight q in_v.looks

  says_w : (q : SeenPart) → (sees_w q ≡ true) ↔ Sees S w (part_of q)
  says_w q = parts_are_seen S w b.sight q in_w.looks

  -- rows that are the same tell the same
  module _ (same : SameRows a b) where
    row : (n : Name) → row_of v a.sight n ≡ row_of w b.sight n
    row n = sym (row_there in_v n) ∙ (same.rows n ∙ row_there in_w n)

    test : (q : SeenPart) → sees_v q ≡ sees_w q
    test (seen.Attributes n) = told_test _ _ _ _ (ap (λ (r : Row). r.attributes) (row n))
    test (seen.Empty n) = told_test _ _ _ _ (ap (λ (r : Row). r.empty) (row n))
    test (seen.Body n) = told_test _ _ _ _ (ap (λ (r : Row). r.body) (row n))
    test (seen.Ends n) = told_test _ _ _ _ (ap (λ (r : Row). r.ends) (row n))
    test (seen.Open n) = told_test _ _ _ _ (ap (λ (r : Row). r.opened) (row n))
    test (seen.Options n) = told_test _ _ _ _ (ap (λ (r : Row). r.server) (row n))
    test (seen.Text n) = told_test _ _ _ _ (ap (λ (r : Row). r.text) (row n))
    test (seen.Users n) = told_test (sees_v (seen.Users n)) (sees_w (seen.Users n)) (users v n) (users w n) (ap (λ (r : Row). r.users) (row n))
    test (seen.Total n) = told_test (sees_v (seen.Total n)) (sees_w (seen.Total n)) (sum_at v n) (sum_at w n) (ap (λ (r : Row). r.total) (row n))
    test (seen.Task t) = test_same _ _ (λ on. (says_w (seen.Task t)).1 ((says_v (seen.Task t)).0 on)) (λ on. (says_v (seen.Task t)).1 ((says_w (seen.Task t)).0 on))

    sees_same : (q : SeenPart) → Sees S v (part_of q) ↔ Sees S w (part_of q)
    sees_same q = (λ s. (says_w q).0 (sym (test q) ∙ (says_v q).1 s), λ s. (says_v q).0 (test q ∙ (says_w q).1 s))

    total_same : (n : Name) → sees_v (seen.Total n) ≡ true → total_at v n ≡ total_at w n
    total_same n on =
        total_there S v n ((says_v (seen.Total n)).0 on)
        ∙ (ap Some (told_value (sees_v (seen.Total n)) (sees_w (seen.Total n)) (sum_at v n) (sum_at w n) (ap (λ (r : Row). r.total) (row n)) on)
        ∙ sym (total_there S w n ((says_w (seen.Total n)).0 (sym (test (seen.Total n)) ∙ on))))

    value : (q : SeenPart) → sees_v q ≡ true → part w (part_of q) ≡ part v (part_of q)
    value (seen.Attributes n) on = attr_told v w n (told_value _ _ _ _ (ap (λ (r : Row). r.attributes) (row n)) on)
    value (seen.Empty n) on = ap AnEmpty (sym (told_value _ _ _ _ (ap (λ (r : Row). r.empty) (row n)) on))
    value (seen.Body n) on = ap ABody (sym (body_told v w n sound_v sound_w (told_value _ _ _ _ (ap (λ (r : Row). r.body) (row n)) on)))
    value (seen.Ends n) on = ap AnEnds (sym (told_value _ _ _ _ (ap (λ (r : Row). r.ends) (row n)) on))
    value (seen.Open n) on = ap (λ (r : OpenRow). AnOpen r.opened r.holders) (sym (told_value _ _ _ _ (ap (λ (r : Row). r.opened) (row n)) on))
    value (seen.Options n) on = ap AnOptions (sym (faces_told _ _ (told_value _ _ _ _ (ap (λ (r : Row). r.server) (row n)) on)))
    value (seen.Text n) on = ap AText (sym (texts_told _ _ (told_value _ _ _ _ (ap (λ (r : Row). r.text) (row n)) on)))
    value (seen.Users n) on = ap AUsers (sym (told_value (sees_v (seen.Users n)) (sees_w (seen.Users n)) (users v n) (users w n) (ap (λ (r : Row). r.users) (row n)) on))
    value (seen.Total n) on = ap ATotal (sym (total_same n on))
    value (seen.Task t) on = ap ATask (sym (seat_told v w tasks t.0 (sym in_v.seats ∙ (same.seats ∙ in_w.seats)) ((says_v (seen.Task t)).0 on)))

    all_seen : (p : Part) → Sees S v p ↔ Sees S w p
    all_seen (AttrOf n) = sees_same (seen.Attributes n)
    all_seen (EmptyOf n) = sees_same (seen.Empty n)
    all_seen (BodyOf n) = sees_same (seen.Body n)
    all_seen (EndsOf n) = sees_same (seen.Ends n)
    all_seen (OpenOf o) = sees_same (seen.Open o)
    all_seen (OptionsOf s) = sees_same (seen.Options s)
    all_seen (TextOf s) = sees_same (seen.Text s)
    all_seen (UsersOf s) = sees_same (seen.Users s)
    all_seen (TotalOf s) = sees_same (seen.Total s)
    all_seen (TaskOf t) = (λ s. s, λ s. s)

    all_same : (p : Part) → Sees S v p → part w p ≡ part v p
    all_same (AttrOf n) s = value (seen.Attributes n) ((says_v (seen.Attributes n)).1 s)
    all_same (EmptyOf n) s = value (seen.Empty n) ((says_v (seen.Empty n)).1 s)
    all_same (BodyOf n) s = value (seen.Body n) ((says_v (seen.Body n)).1 s)
    all_same (EndsOf n) s = value (seen.Ends n) ((says_v (seen.Ends n)).1 s)
    all_same (OpenOf o) s = value (seen.Open o) ((says_v (seen.Open o)).1 s)
    all_same (OptionsOf s) k = value (seen.Options s) ((says_v (seen.Options s)).1 k)
    all_same (TextOf s) k = value (seen.Text s) ((says_v (seen.Text s)).1 k)
    all_same (UsersOf s) k = value (seen.Users s) ((says_v (seen.Users s)).1 k)
    all_same (TotalOf s) k = value (seen.Total s) ((says_v (seen.Total s)).1 k)
    all_same (TaskOf t) s = ap ATask (sym (seat_told v w tasks t (sym in_v.seats ∙ (same.seats ∙ in_w.seats)) s))

    same_view : SameView S v w
    same_view = record { tasks = sym in_w.count ∙ (sym same.count ∙ in_v.count); seen = all_seen; parts = all_same }

  -- views that are the same have the same rows
  module _ (same : SameView S v w) where
    both : (q : SeenPart) → sees_v q ≡ sees_w q
    both q = test_same _ _ (λ on. (says_w q).1 ((same.seen (part_of q)).0 ((says_v q).0 on))) (λ on. (says_v q).1 ((same.seen (part_of q)).1 ((says_w q).0 on)))

    equal : (q : SeenPart) → sees_v q ≡ true → part w (part_of q) ≡ part v (part_of q)
    equal q on = same.parts (part_of q) ((says_v q).0 on)

    node_same : (n : Name) → AnAttr (header_at w n) (site_at w n) ≡ AnAttr (header_at v n) (site_at v n) → node_row v n ≡ node_row w n
    node_same n e =
        let header : header_at v n ≡ header_at w n = cc in
        let site : site_at v n ≡ site_at w n = cc in
        let words : words_at v n ≡ words_at w n = sym (words_back (fin.get v.nodes n)) ∙ (ap words_of_header header ∙ words_back (fin.get w.nodes n)) in
        rw (header, ap home_by site, ap active_by site, words) refl

    face_same : (n : Name) → sees_v (seen.Options n) ≡ true → face_in (server_at v n) ≡ face_in (server_at w n)
    face_same n on = let e : AnOptions (face_in (server_at w n)) ≡ AnOptions (face_in (server_at v n)) = equal (seen.Options n) on in cc

    server_same : (n : Name) → sees_v (seen.Text n) ≡ true → server_at v n ≡ server_at w n
    server_same n on =
        let t = (says_v (seen.Text n)).0 on in
        let known = (says_v (seen.Options n)).1 (text_known S v n t.0 t.2) in
        let text : text_in (server_at v n) ≡ text_in (server_at w n) = let e : AText (text_in (server_at w n)) ≡ AText (text_in (server_at v n)) = equal (seen.Text n) on in cc in
        whole (server_at w n) (server_at v n) (face_same n known) text

    sum_same : (n : Name) → sees_v (seen.Total n) ≡ true → sum_at v n ≡ sum_at w n
    sum_same n on =
        let e : ATotal (total_at w n) ≡ ATotal (total_at v n) = equal (seen.Total n) on in
        let total : total_at v n ≡ total_at w n = cc in
        let sums : Some (sum_at v n) ≡ Some (sum_at w n) =
        sym (total_there S v n ((says_v (seen.Total n)).0 on))
        ∙ (total ∙ total_there S w n ((says_w (seen.Total n)).0 (sym (both (seen.Total n)) ∙ on))) in
        cc

    pub row_same : (n : Name) → row_of v a.sight n ≡ row_of w b.sight n
    row_same n =
        row_from
        (told_same _ _ _ _ (both (seen.Attributes n)) (λ on. node_same n (equal (seen.Attributes n) on)))
        (told_same _ _ _ _ (both (seen.Empty n)) (λ on. let e : AnEmpty (option_map is_empty_dir (body_at w n)) ≡ AnEmpty (option_map is_empty_dir (body_at v n)) = equal (seen.Empty n) on in cc))
        (told_same _ _ _ _ (both (seen.Body n)) (λ on. ap (option_map body_row) (let e : ABody (body_at w n) ≡ ABody (body_at v n) = equal (seen.Body n) on in cc)))
        (told_same _ _ _ _ (both (seen.Ends n)) (λ on. let e : AnEnds (ends_at w n) ≡ AnEnds (ends_at v n) = equal (seen.Ends n) on in cc))
        (told_same _ _ _ _ (both (seen.Open n)) (λ on. let e : AnOpen (open_at w n) (holders w n) ≡ AnOpen (open_at v n) (holders v n) = equal (seen.Open n) on in cc))
        (told_same _ _ _ _ (both (seen.Options n)) (λ on. rows_faced (server_at w n) (server_at v n) (face_same n on)))
        (told_same _ _ _ _ (both (seen.Text n)) (λ on. ap (option_map text_row) (server_same n on)))
        (told_same _ _ _ _ (both (seen.Users n)) (λ on. let e : AUsers (users w n) ≡ AUsers (users v n) = equal (seen.Users n) on in cc))
        (told_same (sees_v (seen.Total n)) (sees_w (seen.Total n)) (sum_at v n) (sum_at w n) (both (seen.Total n)) (sum_same n))

    same_rows : SameRows a b
    same_rows = record {
      rows = λ n. row_there in_v n ∙ (row_same n ∙ sym (row_there in_w n));
      seats = in_v.seats ∙ (seats_same v w tasks (λ t is. let e : ATask (task_at w t) ≡ ATask (task_at v t) = same.parts (TaskOf t) is in cc) ∙ sym in_w.seats);
      count = in_v.count ∙ (sym same.tasks ∙ sym in_w.count);
    }

pub rows_are_views : RowsAreViews
rows_are_views tasks v w a b sound_v sound_w in_v in_w =
    (same_view tasks v w a b sound_v sound_w in_v in_w, same_rows tasks v w a b sound_v sound_w in_v in_w)
