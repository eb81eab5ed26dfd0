-- Views that are the same except for names are of worlds that look the same.
use Rattle.std.proofs.Common.{◌≡◌, ◌∙◌, ◌⊎◌, ℕ, Bool, true, false, true≢false, List, [], ◌∷◌, Option, Some, None, map, inl, inr, refl, sym, ap, ap₂, subst}
use Rattle.std.specs.Prelude.{if◌then◌else◌, nat_eq}
use Rattle.std.specs.Option.{option_map}
use Rattle.std.specs.Cmp.{unsigned_Decides}
use Rattle.std.proofs.lemmas.Bool.{or_left, or_right}
use Rattle.hurd_machine.proofs.Views.{Agree-sym, agree_of, view_of}
use Rattle.hurd_creds.proofs.NameLaws.{equal_if_same, same_name-itself}
use Rattle.hurd_machine.proofs.Common.{ABody, AText, ATask, ATotal, AUsers, AnEmpty, AnEnds, AnOpen, AnOptions, AttrOf, BodyOf, EmptyOf, EndsOf, Name, OpenOf, OptionsOf, Part, SameView, Sees, Sound, Task, TaskId, TaskOf, TextOf, TotalOf, UsersOf, World, body_at, is_empty_dir, part, same_name, server_at, task_at, users}
use Rattle.hurd_machine.proofs.RenamedNodes.{body_at-renamed, is_empty_dir-renamed}
use Rattle.hurd_machine.proofs.RenamedServers.{ends_at-renamed, total_at-renamed}
use Rattle.hurd_machine.proofs.RenamedTasks.{length-renamed, task_at-renamed, users-renamed}
use Rattle.hurd_machine.specs.Renamed.{OtherNames, body_renamed, renamed, task_renamed}
use Rattle.hurd_machine.specs.World.{nodes_of}
use Rattle.hurd_laws.proofs.Headline.{view_settled}
use Rattle.hurd_laws.proofs.GivenRenamed.{given-renamed}
use Rattle.hurd_laws.proofs.Raised.{stays_given}
use Rattle.hurd_laws.proofs.SoundRenamed.{renamed_sound}
use Rattle.hurd_sight.specs.Looks.{sees_with}
use Rattle.hurd_sight.specs.Reach.{among}
use Rattle.hurd_sight.specs.declared.parts.SeenPart.{SeenPart}
use Rattle.hurd_sight.specs.declared.parts.SeenPart.TheVariants as seen
use Rattle.hurd_sight.proofs.PartLaws.{parts_are_seen}
use Rattle.hurd_views.specs.Views.{Views, no_row, row_at, row_of, told_if}
use Rattle.hurd_views.specs.declared.rows.OpenRow.{OpenRow}
use Rattle.hurd_views.specs.declared.rows.Row.{Row}
use Rattle.hurd_views.specs.declared.view.View.{View}
use Rattle.hurd_views.proofs.ViewLaws.{attr_told, body_told, faces_told, row_there, sum_at, seat_told, texts_told, told_test, told_value, total_there}
use Rattle.hurd_looks.specs.Looks.{AlikeLooks}
use Rattle.hurd_looks.specs.Renamed.{IsAside, IsRenamed, body_row_renamed, listed, named_row_renamed, node_row_renamed, open_row_renamed, row_renamed, server_row_renamed}
use Rattle.hurd_looks.proofs.RowsRenamed.{bodies-renamed, node_row-renamed, open_row-renamed, servers-renamed, texts-renamed}

abbrev Kept : Type 0
Kept = List (Name × Row)

-- what is under a name in what is listed is what is there

row_found : (es : Kept) (q : Name) (e : Name × Row) (b : Bool) → same_name q e.0 ≡ b → row_at (e ∷ es) q ≡ (if b then e.1 else row_at es q)
row_found es q e b is = ap (λ (c : Bool). if c then e.1 else row_at es q) is

listed_in : (all ds : Kept) (q : Name) → ((row_at (map (λ (e : Name × Row). (e.0, row_at all e.0)) ds) q ≡ no_row) × (row_at ds q ≡ no_row)) ⊎ (row_at (map (λ (e : Name × Row). (e.0, row_at all e.0)) ds) q ≡ row_at all q)
listed_in all [] q = inl (refl, refl)
listed_in all (d ∷ ds) q = go (same_name q d.0) refl (listed_in all ds q)
  where
    mapped : Kept
    mapped = map (λ (e : Name × Row). (e.0, row_at all e.0)) ds

    go : (b : Bool) → same_name q d.0 ≡ b → ((row_at mapped q ≡ no_row) × (row_at ds q ≡ no_row)) ⊎ (row_at mapped q ≡ row_at all q)
        → ((row_at ((d.0, row_at all d.0) ∷ mapped) q ≡ no_row) × (row_at (d ∷ ds) q ≡ no_row)) ⊎ (row_at ((d.0, row_at all d.0) ∷ mapped) q ≡ row_at all q)
    go true same rest = inr (row_found mapped q (d.0, row_at all d.0) true same ∙ ap (row_at all) (sym (equal_if_same q d.0 same)))
    go false same rest = elim rest [
      | inl none ↦ inl (row_found mapped q (d.0, row_at all d.0) false same ∙ none.0, row_found ds q d false same ∙ none.1)
      | inr found ↦ inr (row_found mapped q (d.0, row_at all d.0) false same ∙ found)
    ]

row_listed : (es : Kept) (q : Name) → row_at (listed es) q ≡ row_at es q
row_listed es q = elim (listed_in es es q) [
  | inl none ↦ none.0 ∙ sym none.1
  | inr found ↦ found
]

module _ (f : OtherNames) where
  -- where rows are others' with other names, what is seen under a name is nothing, or what is seen there under the name that became it
  abbrev Comes : Kept → Row → Name → Type 0
  Comes es r q = (r ≡ no_row) ⊎ ((n : Name) × (f.to n ≡ q) × (r ≡ row_renamed f.to (row_at es n)))

  comes : (es : Kept) (q : Name) → Comes es (row_at (map (named_row_renamed f.to) es) q) q
  comes [] q = inl refl
  comes (e ∷ es) q = go (same_name q (f.to e.0)) refl (comes es q)
    where
      others : Kept
      others = map (named_row_renamed f.to) es

      later : (n : Name) → f.to n ≡ q → same_name q (f.to e.0) ≡ false → (b : Bool) → same_name n e.0 ≡ b → row_at es n ≡ row_at (e ∷ es) n
      later n is apart true same = absurd (true≢false (sym (same_name-itself q) ∙ ap (same_name q) (sym is ∙ ap f.to (equal_if_same n e.0 same)) ∙ apart))
      later n is apart false same = sym (row_found es n e false same)

      go : (b : Bool) → same_name q (f.to e.0) ≡ b → Comes es (row_at others q) q → Comes (e ∷ es) (row_at (named_row_renamed f.to e ∷ others) q) q
      go true same rest = inr (e.0, sym (equal_if_same q (f.to e.0) same), row_found others q (named_row_renamed f.to e) true same ∙ ap (row_renamed f.to) (sym (row_found es e.0 e true (same_name-itself e.0))))
      go false same rest = elim rest [
        | inl none ↦ inl (row_found others q (named_row_renamed f.to e) false same ∙ none)
        | inr found ↦ inr (found.0, found.1, row_found others q (named_row_renamed f.to e) false same ∙ found.2 ∙ ap (row_renamed f.to) (later found.0 found.1 same (same_name found.0 e.0) refl))
      ]

  rows_come : (es ds : Kept) → map (named_row_renamed f.to) (listed es) ≡ listed ds → (q : Name) → Comes es (row_at ds q) q
  rows_come es ds is q = elim (comes (listed es) q) [
    | inl none ↦ inl (sym (row_listed ds q) ∙ ap (λ (rows : Kept). row_at rows q) (sym is) ∙ none)
    | inr found ↦ inr (found.0, found.1, sym (row_listed ds q) ∙ ap (λ (rows : Kept). row_at rows q) (sym is) ∙ found.2 ∙ ap (row_renamed f.to) (row_listed es found.0))
  ]

-- what is told of both

told_none : {X : Type 0} (s : Bool) (x : X) → told_if s x ≡ None → s ≡ true → ⊥
told_none true x e on = absurd (cc)
told_none false x e on = true≢false (sym on)

told_renamed : {X : Type 0} (s t : Bool) (x y : X) (g : X → X) → told_if s x ≡ option_map g (told_if t y) → s ≡ true → x ≡ g y
told_renamed s true x y g e on = told_value s true x (g y) e on
told_renamed s false x y g e on = absurd (told_none s x e on)

empty_renamed : (f : OtherNames) (o : Option _) → option_map is_empty_dir (option_map (body_renamed f.to) o) ≡ option_map is_empty_dir o
empty_renamed f None = refl
empty_renamed f (Some b) = ap (λ (c : Bool). Some c) (is_empty_dir-renamed f b)

module _ (tasks : List TaskId) (v w : World) (a b : View) (sv : Sound v) (sw : Sound w) (in_v : Views tasks v a) (in_w : Views tasks w b)
    (f : OtherNames) (aside : IsAside (among tasks) f) (is : IsRenamed f a b) (sx : Sound (renamed f v)) where
  abbrev S : ℕ → Bool
  S = among tasks

  abbrev x : World
  x = renamed f v

  abbrev sees : SeenPart → Bool
  sees q = sees_with (nodes_of w) b.sight q

  -- what is seen under a name in the second is what is seen in the first under the name that became it
  place : (P : Name → Type 0) (Q : Name → Type 0) (q : Name) → Q q → (row_of w b.sight q ≡ no_row → ⊥)
      → ((n : Name) → row_of w b.sight (f.to n) ≡ row_renamed f.to (row_of v a.sight n) → Q (f.to n) → P (f.to n)) → P q
  place P Q q holds some each = elim (rows_come f a.rows b.rows is.rows q) [
    | inl none ↦ absurd (some (sym (row_there in_w q) ∙ none))
    | inr found ↦ subst P found.1 (each found.0
        (subst (λ (k : Name). row_of w b.sight k ≡ row_renamed f.to (row_of v a.sight found.0)) (sym found.1) (sym (row_there in_w q) ∙ found.2 ∙ ap (row_renamed f.to) (row_there in_v found.0)))
        (subst Q (sym found.1) holds))
  ]

  attributes : (q : Name) → sees (seen.Attributes q) ≡ true → part x (AttrOf q) ≡ part w (AttrOf q)
  attributes q on = place (λ k. part x (AttrOf k) ≡ part w (AttrOf k)) (λ k. sees (seen.Attributes k) ≡ true) q on (λ none. told_none _ _ (ap (λ (r : Row). r.attributes) none) on)
      (λ n e there. attr_told w x (f.to n) (told_renamed _ _ _ _ (node_row_renamed f.to) (ap (λ (r : Row). r.attributes) e) there ∙ sym (node_row-renamed f v n)))

  emptiness : (q : Name) → sees (seen.Empty q) ≡ true → part x (EmptyOf q) ≡ part w (EmptyOf q)
  emptiness q on = place (λ k. part x (EmptyOf k) ≡ part w (EmptyOf k)) (λ k. sees (seen.Empty k) ≡ true) q on (λ none. told_none _ _ (ap (λ (r : Row). r.empty) none) on)
      (λ n e there. ap AnEmpty (ap (option_map is_empty_dir) (body_at-renamed f v n) ∙ empty_renamed f (body_at v n) ∙ sym (told_value _ _ _ _ (ap (λ (r : Row). r.empty) e) there)))

  bodies : (q : Name) → sees (seen.Body q) ≡ true → part x (BodyOf q) ≡ part w (BodyOf q)
  bodies q on = place (λ k. part x (BodyOf k) ≡ part w (BodyOf k)) (λ k. sees (seen.Body k) ≡ true) q on (λ none. told_none _ _ (ap (λ (r : Row). r.body) none) on)
      (λ n e there. ap ABody (sym (body_told w x (f.to n) sw sx (told_renamed _ _ _ _ (option_map (body_row_renamed f.to)) (ap (λ (r : Row). r.body) e) there ∙ sym (bodies-renamed f v n)))))

  ends_told : (q : Name) → sees (seen.Ends q) ≡ true → part x (EndsOf q) ≡ part w (EndsOf q)
  ends_told q on = place (λ k. part x (EndsOf k) ≡ part w (EndsOf k)) (λ k. sees (seen.Ends k) ≡ true) q on (λ none. told_none _ _ (ap (λ (r : Row). r.ends) none) on)
      (λ n e there. ap AnEnds (ends_at-renamed f v n ∙ sym (told_value _ _ _ _ (ap (λ (r : Row). r.ends) e) there)))

  opens : (q : Name) → sees (seen.Open q) ≡ true → part x (OpenOf q) ≡ part w (OpenOf q)
  opens q on = place (λ k. part x (OpenOf k) ≡ part w (OpenOf k)) (λ k. sees (seen.Open k) ≡ true) q on (λ none. told_none _ _ (ap (λ (r : Row). r.opened) none) on)
      (λ n e there. ap (λ (r : OpenRow). AnOpen r.opened r.holders) (open_row-renamed f v n ∙ sym (told_renamed _ _ _ _ (open_row_renamed f.to) (ap (λ (r : Row). r.opened) e) there)))

  options : (q : Name) → sees (seen.Options q) ≡ true → part x (OptionsOf q) ≡ part w (OptionsOf q)
  options q on = place (λ k. part x (OptionsOf k) ≡ part w (OptionsOf k)) (λ k. sees (seen.Options k) ≡ true) q on (λ none. told_none _ _ (ap (λ (r : Row). r.server) none) on)
      (λ n e there. ap AnOptions (faces_told (server_at x (f.to n)) (server_at w (f.to n))
      (servers-renamed f v n ∙ sym (told_renamed _ _ _ _ (option_map (server_row_renamed f.to)) (ap (λ (r : Row). r.server) e) there))))

  texts : (q : Name) → sees (seen.Text q) ≡ true → part x (TextOf q) ≡ part w (TextOf q)
  texts q on = place (λ k. part x (TextOf k) ≡ part w (TextOf k)) (λ k. sees (seen.Text k) ≡ true) q on (λ none. told_none _ _ (ap (λ (r : Row). r.text) none) on)
      (λ n e there. ap AText (texts_told (server_at x (f.to n)) (server_at w (f.to n)) (texts-renamed f v n ∙ sym (told_value _ _ _ _ (ap (λ (r : Row). r.text) e) there))))

  used : (q : Name) → sees (seen.Users q) ≡ true → part x (UsersOf q) ≡ part w (UsersOf q)
  used q on = place (λ k. part x (UsersOf k) ≡ part w (UsersOf k)) (λ k. sees (seen.Users k) ≡ true) q on (λ none. told_none (sees (seen.Users q)) (users w q) (ap (λ (r : Row). r.users) none) on)
      (λ n e there. ap AUsers (users-renamed f v n ∙ sym (told_value (sees (seen.Users (f.to n))) (sees_with (nodes_of v) a.sight (seen.Users n)) (users w (f.to n)) (users v n) (ap (λ (r : Row). r.users) e) there)))

  totals : (q : Name) → sees (seen.Total q) ≡ true → part x (TotalOf q) ≡ part w (TotalOf q)
  totals q on = place (λ k. part x (TotalOf k) ≡ part w (TotalOf k)) (λ k. sees (seen.Total k) ≡ true) q on (λ none. told_none (sees (seen.Total q)) (sum_at w q) (ap (λ (r : Row). r.total) none) on)
      (λ n e there.
      let sum = ap (λ (r : Row). r.total) e in
      let test = told_test (sees (seen.Total (f.to n))) (sees_with (nodes_of v) a.sight (seen.Total n)) (sum_at w (f.to n)) (sum_at v n) sum in
      let same = told_value (sees (seen.Total (f.to n))) (sees_with (nodes_of v) a.sight (seen.Total n)) (sum_at w (f.to n)) (sum_at v n) sum there in
      let ours = total_there S v n ((parts_are_seen S v a.sight (seen.Total n) in_v.looks).0 (sym test ∙ there)) in
      let theirs = total_there S w (f.to n) ((parts_are_seen S w b.sight (seen.Total (f.to n)) in_w.looks).0 there) in
      ap ATotal (total_at-renamed f v n ∙ ours ∙ ap (λ (k : ℕ). Some k) (sym same) ∙ sym theirs))

  -- the tasks themselves

  seats_of : (ts : List TaskId) → ((t : ℕ) → among ts t ≡ true → f.more t ≡ 0) → map (λ (t : TaskId). task_at x t.0) ts ≡ map (option_map (task_renamed f.to 0)) (map (λ (t : TaskId). task_at v t.0) ts)
  seats_of [] none = refl
  seats_of (t ∷ ts) none = ap₂ (λ (o : Option Task) (os : List (Option Task)). o ∷ os)
      (task_at-renamed f v t.0 ∙ ap (λ (k : ℕ). option_map (task_renamed f.to k) (task_at v t.0)) (none t.0 (or_left (nat_eq t.0 t.0) (among ts t.0) ((unsigned_Decides t.0 t.0).1 refl))))
      (seats_of ts (λ u is. none u (or_right (nat_eq t.0 u) (among ts u) is)))

  seats : map (λ (t : TaskId). task_at x t.0) tasks ≡ map (λ (t : TaskId). task_at w t.0) tasks
  seats = seats_of tasks (λ t own. (aside.ours t own).none) ∙ ap (map (option_map (task_renamed f.to 0))) (sym in_v.seats) ∙ is.seats ∙ in_w.seats

  -- every part that is seen of the second is as it is in the first with other names
  same_part : (p : Part) → Sees S w p → part x p ≡ part w p
  same_part (AttrOf n) s = attributes n ((parts_are_seen S w b.sight (seen.Attributes n) in_w.looks).1 s)
  same_part (EmptyOf n) s = emptiness n ((parts_are_seen S w b.sight (seen.Empty n) in_w.looks).1 s)
  same_part (BodyOf n) s = bodies n ((parts_are_seen S w b.sight (seen.Body n) in_w.looks).1 s)
  same_part (EndsOf n) s = ends_told n ((parts_are_seen S w b.sight (seen.Ends n) in_w.looks).1 s)
  same_part (OpenOf o) s = opens o ((parts_are_seen S w b.sight (seen.Open o) in_w.looks).1 s)
  same_part (OptionsOf q) s = options q ((parts_are_seen S w b.sight (seen.Options q) in_w.looks).1 s)
  same_part (TextOf q) s = texts q ((parts_are_seen S w b.sight (seen.Text q) in_w.looks).1 s)
  same_part (UsersOf q) s = used q ((parts_are_seen S w b.sight (seen.Users q) in_w.looks).1 s)
  same_part (TotalOf q) s = totals q ((parts_are_seen S w b.sight (seen.Total q) in_w.looks).1 s)
  same_part (TaskOf t) s = ap ATask (seat_told x w tasks t seats s)

  same_view : SameView S x w
  same_view = view_of (Agree-sym (agree_of (view_settled S w x (length-renamed f f.more v.tasks ∙ sym in_v.count ∙ is.count ∙ in_w.count) same_part)))

pub alike_looks : AlikeLooks
alike_looks tasks v w a b sv sw in_v in_w alike =
    let f = alike.0 in
    let given = given-renamed f v (stays_given f v alike.1.raises) sv.coherent.given in
    let sx = renamed_sound f v given sv in
    (f, record { ours = alike.1.ours; given = given; same = same_view tasks v w a b sv sw in_v in_w f alike.1 alike.2 sx })
