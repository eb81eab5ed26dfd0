-- The last step of a path says why its node was found.
use Rattle.std.proofs.Common.{◌≡◌, ◌∙◌, refl, sym, ap, ℕ, ◌==◌, ◌<◌, ◌^◌, Bool, true, false, true≢false, List, [], ◌∷◌, ◌++◌, append_assoc, get_or, Option, Some, None, arith, if◌then◌else◌, codes, decimal}
use Rattle.std.proofs.lemmas.Bool.{eqb-true}
use Rattle.std.proofs.lemmas.Fmt.{decimal_injective}
use Rattle.std.proofs.lemmas.List.{append_cancel_left, append_cancel_right}
use Rattle.hurd_creds.specs.declared.name.Name.{Name}
use Rattle.hurd_words.specs.Printing.{spaced, text_if}
use Rattle.hurd_words.specs.Spelling.{spelled_name}
use Rattle.hurd_words.proofs.Bytes.{all_both, first_same}
use Rattle.hurd_words.proofs.SpellsBack.{spells_back}
use Rattle.hurd_sight.specs.Found.{found_from}
use Rattle.hurd_sight.specs.declared.found.Why.{Why}
use Rattle.hurd_sight.specs.declared.found.Why.TheVariants as why
use Rattle.hurd_views.specs.Views.{row_at}
use Rattle.hurd_views.specs.declared.view.View.{View}
use Rattle.hurd_places.specs.Places.{underlying, count_to, holder_word, is_covered, label_of, label_or, level_by, covered_path, name_in, name_text, names_tasks, numbered, step_by, target_at}
use Rattle.hurd_places.specs.declared.labels.Holder.{Holder}
use Rattle.hurd_places.specs.declared.labels.Holder.TheVariants as holder
use Rattle.hurd_places.specs.declared.labels.Label.{Label}
use Rattle.hurd_places.specs.declared.labels.Wanted.TheVariants as wanted
use Rattle.hurd_places.proofs.CutLaws.{decimal_whole, is_cut, is_inner, is_whole, last_step, name_whole, numbered_whole, spelled_some}

-- whether a step of its own says why a node was found
abbrev pub is_stem : Why → Bool
is_stem why.Root = false
is_stem (why.Active m) = false
is_stem _ = true

-- a node is the root, or an active server's root, or has a step of its own
pub data Sort : Why → Type 0 where
  OfRoot : Sort why.Root
  OfActive : (m : Name) → Sort (why.Active m)
  OfStem : (y : Why) → is_stem y ≡ true → Sort y

pub sort : (y : Why) → Sort y
sort why.Root = OfRoot
sort (why.Active m) = OfActive m
sort y = OfStem y refl

pub stem_level : (y : Why) (k : ℕ) → is_stem y ≡ true → level_by (Some y) k ≡ 0
stem_level (why.Active m) k is = absurd (true≢false (sym is))
stem_level _ k is = refl

-- the last step of a node, and what comes before it

abbrev pub child_front : List ℕ → List ℕ → List ℕ
child_front [] path = path ++ 47 ∷ []
child_front (b ∷ bs) path = path

abbrev pub child_last : List ℕ → List ℕ
child_last [] = codes "(unseen)"
child_last (b ∷ bs) = 47 ∷ spelled_name (b ∷ bs)

abbrev pub held_rest : View → Name → List ℕ
held_rest v n = label_or (names_tasks v) (codes "held") (label_of v (wanted.Node n)) ++ 41 ∷ []

abbrev pub front : View → Name → List ℕ → ℕ → Why → List ℕ
front v n path k (why.Child d) = child_front (name_in (row_at v.rows d).body n) (covered_path (is_covered v d) path k)
front v n path k (why.Parent d) = covered_path (is_covered v d) path k
front v n path k (why.ServerRoot d) = covered_path (is_covered v d) path k
front v n path k (why.Target d) = covered_path (is_covered v d) path k
front v n path k _ = []

abbrev pub last : View → Name → Why → List ℕ
last v n why.Root = []
last v n (why.Active m) = []
last v n why.Held = 40 ∷ held_rest v n
last v n why.Way = numbered (codes "way") (count_to why.Way n v.sight.found)
last v n why.Controlled = numbered (codes "controlled") (count_to why.Controlled n v.sight.found)
last v n why.Pending = numbered (codes "pending") (count_to why.Pending n v.sight.found)
last v n (why.Child d) = child_last (name_in (row_at v.rows d).body n)
last v n (why.Parent d) = codes "(parent)"
last v n (why.ServerRoot d) = codes "(root)"
last v n (why.Target d) = numbered (codes "target") (target_at v d n)

child_split : (name path : List ℕ) → path ++ (47 ∷ name_text name) ≡ child_front name path ++ child_last name
child_split [] path = sym (append_assoc path (47 ∷ []) (codes "(unseen)"))
child_split (b ∷ bs) path = refl

pub split : (v : View) (n : Name) (path : List ℕ) (k : ℕ) (y : Why) → is_stem y ≡ true → step_by v n path k (Some y) ≡ front v n path k y ++ last v n y
split v n path k why.Root is = absurd (true≢false (sym is))
split v n path k (why.Active m) is = absurd (true≢false (sym is))
split v n path k (why.Child d) is = child_split (name_in (row_at v.rows d).body n) (covered_path (is_covered v d) path k)
split v n path k _ is = refl

-- it begins with a slash or a bracket, and has no other

pub record IsLast (t : List ℕ) : Type 0 where
  pub first : ℕ
  pub rest : List ℕ
  pub is : t ≡ first ∷ rest
  pub cuts : is_cut first ≡ true
  pub whole : is_whole rest ≡ true

pub cut_same : (s t x y : List ℕ) → IsLast x → IsLast y → s ++ x ≡ t ++ y → (s ≡ t) × (x ≡ y)
cut_same s t x y p q is =
    let both = last_step s t p.rest q.rest p.first q.first p.cuts q.cuts p.whole q.whole (ap (λ (z : List ℕ). s ++ z) (sym p.is) ∙ (is ∙ ap (λ (z : List ℕ). t ++ z) q.is)) in
    (both.0, p.is ∙ (ap (λ (z : ℕ). z ∷ p.rest) both.1 ∙ (ap (λ (zs : List ℕ). q.first ∷ zs) both.2 ∙ sym q.is)))

pub numbered_last : (word : List ℕ) (k : ℕ) → is_whole word ≡ true → IsLast (numbered word k)
numbered_last word k whole = record { first = 40; rest = word ++ (spaced k ++ 41 ∷ []); is = refl; cuts = refl; whole = numbered_whole word k whole }

spaced_whole : (k : ℕ) → is_whole (spaced k) ≡ true
spaced_whole k = decimal_whole k

if_whole : (b : Bool) (text : List ℕ) → is_whole text ≡ true → is_whole (text_if b text) ≡ true
if_whole true text whole = whole
if_whole false text whole = refl

holder_whole : (h : Holder) → is_whole (holder_word h) ≡ true
holder_whole holder.Port = refl
holder_whole holder.Inbox = refl

label_whole : (many : Bool) (l : Option Label) → is_whole (label_or many (codes "held") l) ≡ true
label_whole many None = refl
label_whole many (Some l) =
    all_both is_inner (text_if many (codes "task" ++ (spaced l.task.0 ++ codes " "))) (holder_word l.holder ++ spaced l.number)
    (if_whole many (codes "task" ++ (spaced l.task.0 ++ codes " ")) (all_both is_inner (codes "task") (spaced l.task.0 ++ codes " ") refl (all_both is_inner (spaced l.task.0) (codes " ") (spaced_whole l.task.0) refl)))
    (all_both is_inner (holder_word l.holder) (spaced l.number) (holder_whole l.holder) (spaced_whole l.number))

child_is_last : (name : List ℕ) → IsLast (child_last name)
child_is_last [] = record { first = 40; rest = codes "unseen)"; is = refl; cuts = refl; whole = refl }
child_is_last (b ∷ bs) = record { first = 47; rest = spelled_name (b ∷ bs); is = refl; cuts = refl; whole = name_whole (b ∷ bs) }

pub is_last : (v : View) (n : Name) (y : Why) → is_stem y ≡ true → IsLast (last v n y)
is_last v n why.Root is = absurd (true≢false (sym is))
is_last v n (why.Active m) is = absurd (true≢false (sym is))
is_last v n why.Held is =
    record { first = 40; rest = held_rest v n; is = refl; cuts = refl; whole = all_both is_inner (label_or (names_tasks v) (codes "held") (label_of v (wanted.Node n))) (41 ∷ []) (label_whole (names_tasks v) (label_of v (wanted.Node n))) refl }
is_last v n why.Way is = numbered_last (codes "way") (count_to why.Way n v.sight.found) refl
is_last v n why.Controlled is = numbered_last (codes "controlled") (count_to why.Controlled n v.sight.found) refl
is_last v n why.Pending is = numbered_last (codes "pending") (count_to why.Pending n v.sight.found) refl
is_last v n (why.Child d) is = child_is_last (name_in (row_at v.rows d).body n)
is_last v n (why.Parent d) is = record { first = 40; rest = codes "parent)"; is = refl; cuts = refl; whole = refl }
is_last v n (why.ServerRoot d) is = record { first = 40; rest = codes "root)"; is = refl; cuts = refl; whole = refl }
is_last v n (why.Target d) is = numbered_last (codes "target") (target_at v d n) refl

-- its letters say which kind it is of

abbrev pub inner_tag : ℕ → ℕ → ℕ → ℕ
inner_tag a b c =
    if a == 117 then (if c == 100 then 9 else 1)
    else if a == 112 then (if b == 97 then 2 else if b == 101 then 3 else 4)
    else if a == 114 then 5
    else if a == 116 then (if c == 114 then 6 else 4)
    else if a == 105 then 4
    else if a == 104 then 4
    else if a == 119 then 7
    else if a == 99 then 8
    else 9

abbrev pub tag : List ℕ → ℕ
tag t = if get_or t 0 0 == 47 then 1 else inner_tag (get_or t 1 0) (get_or t 2 0) (get_or t 3 0)

abbrev pub kind : Why → ℕ
kind why.Root = 10
kind (why.Active m) = 11
kind why.Held = 4
kind why.Way = 7
kind why.Controlled = 8
kind why.Pending = 3
kind (why.Child d) = 1
kind (why.Parent d) = 2
kind (why.ServerRoot d) = 5
kind (why.Target d) = 6

child_kind : (name : List ℕ) → tag (child_last name) ≡ 1
child_kind [] = refl
child_kind (b ∷ bs) = refl

held_kind : (many : Bool) (l : Option Label) → tag (40 ∷ (label_or many (codes "held") l ++ 41 ∷ [])) ≡ 4
held_kind many None = refl
held_kind true (Some l) = refl
held_kind false (Some l) = go l.holder
  where
    go : (h : Holder) → tag (40 ∷ ((holder_word h ++ spaced l.number) ++ 41 ∷ [])) ≡ 4
    go holder.Port = refl
    go holder.Inbox = refl

pub last_kind : (v : View) (n : Name) (y : Why) → is_stem y ≡ true → tag (last v n y) ≡ kind y
last_kind v n why.Root is = absurd (true≢false (sym is))
last_kind v n (why.Active m) is = absurd (true≢false (sym is))
last_kind v n why.Held is = held_kind (names_tasks v) (label_of v (wanted.Node n))
last_kind v n (why.Child d) is = child_kind (name_in (row_at v.rows d).body n)
last_kind v n _ is = refl

pub kind_small : (y : Why) → kind y ≡ 9 → ⊥
kind_small why.Root is = omega (arith, is)
kind_small _ is = omega (arith, is)

-- a step by an entry says its name

pub child_name : (names others : List ℕ) → child_last names ≡ child_last others → names ≡ others
child_name [] [] lasts = refl
child_name [] (c ∷ cs) lasts = let first = ap (λ (t : List ℕ). get_or t 0 0) lasts in absurd (omega (arith, first))
child_name (b ∷ bs) [] lasts = let first = ap (λ (t : List ℕ). get_or t 0 0) lasts in absurd (omega (arith, first))
child_name (b ∷ bs) (c ∷ cs) lasts = spells_back true (b ∷ bs) (c ∷ cs) (first_same 47 47 (spelled_name (b ∷ bs)) (spelled_name (c ∷ cs)) lasts).1

child_path : (names others path more : List ℕ) → names ≡ others → child_front names path ≡ child_front others more → path ≡ more
child_path names others path more same fronts = go names (fronts ∙ ap (λ (name : List ℕ). child_front name more) (sym same))
  where
    go : (name : List ℕ) → child_front name path ≡ child_front name more → path ≡ more
    go [] is = append_cancel_right path more (47 ∷ []) is
    go (b ∷ bs) is = is

-- steps that are alike have one reason, where the nodes from which they go are told apart
pub one_why : (v : View) (n m : Name) (p q : List ℕ) (k j : ℕ) (y z : Why) → is_stem y ≡ true → kind y ≡ kind z → front v n p k y ≡ front v m q j z → last v n y ≡ last v m z
    → ((d e : Name) → found_from y ≡ Some d → found_from z ≡ Some e → covered_path (is_covered v d) p k ≡ covered_path (is_covered v e) q j → d ≡ e) → y ≡ z
one_why v n m p q k j why.Root z stem is fronts lasts from = absurd (true≢false (sym stem))
one_why v n m p q k j (why.Active d) z stem is fronts lasts from = absurd (true≢false (sym stem))
one_why v n m p q k j why.Held why.Held stem is fronts lasts from = refl
one_why v n m p q k j why.Way why.Way stem is fronts lasts from = refl
one_why v n m p q k j why.Controlled why.Controlled stem is fronts lasts from = refl
one_why v n m p q k j why.Pending why.Pending stem is fronts lasts from = refl
one_why v n m p q k j (why.Child d) (why.Child e) stem is fronts lasts from =
    let names = name_in (row_at v.rows d).body n in
    let others = name_in (row_at v.rows e).body m in
    ap (λ (x : Name). why.Child x) (from d e refl refl (child_path names others (covered_path (is_covered v d) p k) (covered_path (is_covered v e) q j) (child_name names others lasts) fronts))
one_why v n m p q k j (why.Parent d) (why.Parent e) stem is fronts lasts from = ap (λ (x : Name). why.Parent x) (from d e refl refl fronts)
one_why v n m p q k j (why.ServerRoot d) (why.ServerRoot e) stem is fronts lasts from = ap (λ (x : Name). why.ServerRoot x) (from d e refl refl fronts)
one_why v n m p q k j (why.Target d) (why.Target e) stem is fronts lasts from = ap (λ (x : Name). why.Target x) (from d e refl refl fronts)
one_why v n m p q k j _ _ stem is fronts lasts from = absurd (omega (arith, is))

-- no step by an entry is a slash alone
pub not_slash : (v : View) (n : Name) (y : Why) → is_stem y ≡ true → last v n y ≡ 47 ∷ [] → ⊥
not_slash v n why.Root stem is = true≢false (sym stem)
not_slash v n (why.Active m) stem is = true≢false (sym stem)
not_slash v n (why.Child d) stem is = go (name_in (row_at v.rows d).body n) is
  where
    go : (name : List ℕ) → child_last name ≡ 47 ∷ [] → ⊥
    go [] same = let first = ap (λ (t : List ℕ). get_or t 0 0) same in omega (arith, first)
    go (b ∷ bs) same = spelled_some b bs (first_same 47 47 (spelled_name (b ∷ bs)) [] same).1
not_slash v n _ stem is = let first = ap (λ (t : List ℕ). get_or t 0 0) is in omega (arith, first)

-- a number in brackets is that of one number
pub numbered_once : (word : List ℕ) (a b : ℕ) → a < 2 ^ 64 → b < 2 ^ 64 → numbered word a ≡ numbered word b → a ≡ b
numbered_once word a b small few is =
    let rest = append_cancel_left word (spaced a ++ 41 ∷ []) (spaced b ++ 41 ∷ []) (first_same 40 40 (word ++ (spaced a ++ 41 ∷ [])) (word ++ (spaced b ++ 41 ∷ [])) is).1 in
    let digits = append_cancel_right (spaced a) (spaced b) (41 ∷ []) rest in
    decimal_injective a b small few (first_same 32 32 (decimal a) (decimal b) digits).1

-- what is underlying an active server

pub underlying_last : (k : ℕ) → IsLast (underlying k)
underlying_last k = go (k == 0)
  where
    go : (t : Bool) → IsLast (if t then codes "(underlying)" else numbered (codes "underlying") k)
    go true = record { first = 40; rest = codes "underlying)"; is = refl; cuts = refl; whole = refl }
    go false = numbered_last (codes "underlying") k refl

pub underlying_kind : (k : ℕ) → tag (underlying k) ≡ 9
underlying_kind k = go (k == 0)
  where
    go : (t : Bool) → tag (if t then codes "(underlying)" else numbered (codes "underlying") k) ≡ 9
    go true = refl
    go false = refl

pub underlying_once : (a b : ℕ) → a < 2 ^ 64 → b < 2 ^ 64 → underlying a ≡ underlying b → a ≡ b
underlying_once a b small few is = go (a == 0) (b == 0) refl refl is
  where
    go : (s t : Bool) → (a == 0) ≡ s → (b == 0) ≡ t → (if s then codes "(underlying)" else numbered (codes "underlying") a) ≡ (if t then codes "(underlying)" else numbered (codes "underlying") b) → a ≡ b
    go true true p q same = eqb-true a 0 p ∙ sym (eqb-true b 0 q)
    go true false p q same = let end = ap (λ (t : List ℕ). get_or t 11 0) same in absurd (omega (arith, end))
    go false true p q same = let end = ap (λ (t : List ℕ). get_or t 11 0) same in absurd (omega (arith, end))
    go false false p q same = numbered_once (codes "underlying") a b small few same
