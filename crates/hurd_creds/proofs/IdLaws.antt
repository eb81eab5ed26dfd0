-- What the sets of listed ids hold, how many they are, and which is the least.
use Rattle.std.proofs.Common.{◌≡◌, ◌==◌, ◌||◌, ◌&&◌, ap₂, ◌⊎◌, inl, inr, ℕ, zero, suc, ◌+◌, ◌≤◌, ◌<◌, Bool, true, false, cond, List, [], ◌∷◌, ◌++◌, length, refl, sym, ap, ◌∙◌, arith, min, nat_eq, length-append, append_assoc, append-nil, take, drop, slice_index_or}
use Rattle.std.proofs.lemmas.List.{take_more, take-append-drop}
use Rattle.std.proofs.lemmas.Bool.{cases_lt, or_right, or_cases}
use Rattle.std.proofs.Math.Nat.{min-le_left, min-le_right}
use Rattle.std.specs.Prelude.{Option, Some, None, IsNone, IfSome}
use Rattle.std.specs.List.{All, Contains, filter, list_all, list_any, fold}
use Rattle.std.proofs.lemmas.Bool.Decides.{nat_tests}
use Rattle.std.proofs.lemmas.List.Elements.{All-contains}
use Rattle.std.proofs.lemmas.Map.Views.{list_any-from_Contains, Contains-from_any}
use Rattle.std.specs.Ordering.{nat_cmp, eq_by_cmp, is_eq}
use Rattle.std.specs.Cmp.{nat_cmp_total, tied_itself, eq_by_cmp_equiv, Equal-is}
use Rattle.std.specs.FinMap.{nat_cmp-IsAntisymmetric}
use Rattle.std.specs.FinSet as set
use Rattle.hurd_creds.specs.Access.{IdSet, least_of, most_ids, HasEachOnce, is_among}

-- the set of these ids
abbrev ids : List ℕ → IdSet
ids us = set.from_list us

abbrev is_listed : ℕ → List ℕ → Bool
is_listed q us = list_any (eq_by_cmp nat_cmp q) us

ties : (q : ℕ) → eq_by_cmp nat_cmp q q ≡ true
ties q = ap is_eq (tied_itself nat_cmp_total q)

equal_if_tied : (a b : ℕ) → eq_by_cmp nat_cmp a b ≡ true → a ≡ b
equal_if_tied a b h = nat_cmp-IsAntisymmetric a b ((Equal-is (nat_cmp a b)).0 h)

-- a set that holds something isn't empty
len-held : (s : IdSet) (u : ℕ) → set.contains s u ≡ true → (set.len s == 0) ≡ false
len-held s u h = go (set.len s) refl
  where
    go : (n : ℕ) → set.len s ≡ n → (n == 0) ≡ false
    go zero e = let none = set.contains-empty nat_cmp u in let is_empty = set.empty_of_len s e in absurd (cc (ap (λ t. set.contains t u) is_empty))
    go (suc n) e = grind (arith, nat_tests)

-- what was put in last is held
held_first : (s : IdSet) (u : ℕ) → set.contains (set.insert s u) u ≡ true
held_first s u = set.contains-insert nat_cmp_total s u u ∙ ap (λ b. b || set.contains s u) (ties u)

-- no id is listed exactly where the set has none
pub no_ids : (us : List ℕ) → (length us == 0) ≡ (set.len (set.from_list {R = nat_cmp} us) == 0)
no_ids [] = ap (λ n. n == 0) (sym (set.len-empty nat_cmp))
no_ids (u ∷ us) =
    let some : (suc (length us) == 0) ≡ false = grind (arith, nat_tests) in
    some ∙ sym (len-held (set.insert (ids us) u) u (held_first (ids us) u))

-- the least of a list is one of it and none of it is below

min_is : (x y : ℕ) → (min x y ≡ x) ⊎ (min x y ≡ y)
min_is x y = elim (cases_lt x y) [ inl h ↦ inl (omega arith) | inr h ↦ inr (omega arith) ]

fold-min_is : (x : ℕ) (xs : List ℕ) → (fold min x xs ≡ x) ⊎ (is_listed (fold min x xs) xs ≡ true)
fold-min_is x [] = inl refl
fold-min_is x (y ∷ ys) = elim (fold-min_is (min x y) ys) [
  | inl e ↦ elim (min_is x y) [
    | inl is_x ↦ inl (e ∙ is_x)
    | inr is_y ↦ inr (ap (λ q. eq_by_cmp nat_cmp q y || is_listed q ys) (e ∙ is_y) ∙ ap (λ b. b || is_listed y ys) (ties y))
  ]
  | inr h ↦ inr (or_right (eq_by_cmp nat_cmp (fold min (min x y) ys) y) _ h)
]

fold-min_le : (x : ℕ) (xs : List ℕ) → fold min x xs ≤ x
fold-min_le x [] = omega arith
fold-min_le x (y ∷ ys) = omega (arith, fold-min_le (min x y) ys, min-le_left x y)

fold-min_below : (x : ℕ) (xs : List ℕ) (q : ℕ) → is_listed q xs ≡ true → fold min x xs ≤ q
fold-min_below x [] q h = absurd (cc)
fold-min_below x (y ∷ ys) q h = elim (or_cases (eq_by_cmp nat_cmp q y) (is_listed q ys) h) [
  | inl t ↦ let e = equal_if_tied q y t in omega (arith, fold-min_le (min x y) ys, min-le_right x y)
  | inr t ↦ fold-min_below (min x y) ys q t
]

least-is : (xs : List ℕ) (m : ℕ) → is_listed m xs ≡ true → ((q : ℕ) → is_listed q xs ≡ true → m ≤ q) → least_of xs ≡ Some m
least-is [] m h below = absurd (cc)
least-is (x ∷ xs) m h below =
    let r : ℕ = fold min x xs in
    let among : is_listed r (x ∷ xs) ≡ true = elim (fold-min_is x xs) [
      | inl e ↦ ap (λ q. eq_by_cmp nat_cmp q x || is_listed q xs) e ∙ ap (λ b. b || is_listed x xs) (ties x)
      | inr t ↦ or_right (eq_by_cmp nat_cmp r x) _ t
    ] in
    let above : m ≤ r = below r among in
    let under : r ≤ m = elim (or_cases (eq_by_cmp nat_cmp m x) (is_listed m xs) h) [
      | inl t ↦ let e = equal_if_tied m x t in omega (arith, fold-min_le x xs)
      | inr t ↦ fold-min_below x xs m t
    ] in
    let same : r ≡ m = omega arith in
    ap (λ (n : ℕ). Some n) same

no_least : (xs : List ℕ) → ((q : ℕ) → is_listed q xs ≡ false) → least_of xs ≡ None
no_least [] none = refl
no_least (x ∷ xs) none = let here = ap (λ b. b || is_listed x xs) (ties x) in absurd (cc (none x))

listed-items : (us : List ℕ) (q : ℕ) → is_listed q (set.items (ids us)) ≡ is_listed q us
listed-items us q = sym (set.contains-items (ids us) q) ∙ set.contains-from_list nat_cmp_total us q

-- the least of the listed ids is the least of the set
least-listed : (us : List ℕ) (m : ℕ) → Contains us m → All (λ u. m ≤ u) us → least_of (set.items (set.from_list {R = nat_cmp} us)) ≡ Some m
least-listed us m among below =
    least-is (set.items (ids us)) m
    (listed-items us m ∙ list_any-from_Contains (eq_by_cmp_equiv nat_cmp_total) m us among)
    (λ q h. All-contains (λ u. m ≤ u) us q below (Contains-from_any equal_if_tied q us (sym (listed-items us q) ∙ h)))

-- where none is listed the set has no least
least-none : least_of (set.items (set.from_list {R = nat_cmp} [])) ≡ None
least-none = no_least (set.items (ids [])) (listed-items [])

-- a scan for the least answers as the set does
pub least-answer : (us : List ℕ) (r : Option ℕ) → (IsNone r → us ≡ []) → IfSome r (λ m. Contains us m × All (λ u. m ≤ u) us) → r ≡ least_of (set.items (set.from_list {R = nat_cmp} us))
least-answer us None none some = rw (none refl) (sym least-none)
least-answer us (Some m) none some = sym (least-listed us m some.0 some.1)

-- how many ids a set has

by_one : (b : Bool) (n m : ℕ) → n ≤ m → cond b n (n + 1) ≤ suc m
by_one true n m h = omega arith
by_one false n m h = omega arith

-- a set has no more ids than were listed
pub len-listed : (us : List ℕ) → set.len (set.from_list {R = nat_cmp} us) ≤ length us
len-listed [] = omega (arith, set.len-empty nat_cmp)
len-listed (u ∷ us) = let rest = len-listed us in rw (set.len-insert nat_cmp_total (ids us) u) (by_one (set.contains (ids us) u) (set.len (ids us)) (length us) rest)

-- one id more in the list
pub len-push : (us : List ℕ) (u : ℕ) → set.len (set.from_list {R = nat_cmp} (us ++ u ∷ [])) ≡ cond (set.contains (set.from_list {R = nat_cmp} us) u) (set.len (set.from_list {R = nat_cmp} us)) (set.len (set.from_list {R = nat_cmp} us) + 1)
len-push us u = ap set.len (set.from_list_push nat_cmp_total nat_cmp-IsAntisymmetric us u) ∙ set.len-insert nat_cmp_total (ids us) u

grown : (b : Bool) (n : ℕ) → n ≤ cond b n (n + 1)
grown true n = omega arith
grown false n = omega arith

-- a longer list has no fewer
pub len-longer : (us vs : List ℕ) → set.len (set.from_list {R = nat_cmp} us) ≤ set.len (set.from_list {R = nat_cmp} (us ++ vs))
len-longer us [] = rw append-nil (omega arith)
len-longer us (v ∷ vs) =
    let one = grown (set.contains (ids us) v) (set.len (ids us)) in
    let more : set.len (ids (us ++ v ∷ [])) ≤ set.len (ids (us ++ v ∷ vs)) = rw append_assoc at (len-longer (us ++ v ∷ []) vs) in
    omega (arith, len-push us v)

-- gathering each id once

or_held : (s : IdSet) (u q : ℕ) → set.contains s u ≡ true → (eq_by_cmp nat_cmp q u || set.contains s q) ≡ set.contains s q
or_held s u q held = go (eq_by_cmp nat_cmp q u) refl
  where
    go : (b : Bool) → eq_by_cmp nat_cmp q u ≡ b → (b || set.contains s q) ≡ set.contains s q
    go true t = sym (rw (equal_if_tied q u t) held)
    go false t = refl

-- to put in what is held changes nothing
insert_held : (s : IdSet) (u : ℕ) → set.contains s u ≡ true → set.insert s u ≡ s
insert_held s u held = set.same_set nat_cmp_total nat_cmp-IsAntisymmetric _ s (λ q. set.contains-insert nat_cmp_total s u q ∙ or_held s u q held)

abbrev has : List ℕ → ℕ → Bool
has us q = list_any (λ y. nat_eq y q) us

len-push_at : (us : List ℕ) (u : ℕ) (b : Bool) → set.contains (ids us) u ≡ b → set.len (ids (us ++ u ∷ [])) ≡ cond b (set.len (ids us)) (set.len (ids us) + 1)
len-push_at us u b h = len-push us u ∙ ap (λ c. cond c (set.len (ids us)) (set.len (ids us) + 1)) h

-- whether one is found already is whether it was asked for already
found_before : (us found : List ℕ) (u : ℕ) → HasEachOnce us found → set.contains (ids us) u ≡ has found u
found_before us found u once = ap (λ s. set.contains s u) (sym once.same) ∙ set.contains-from_list_nat found u

-- one more that is found already
once-again : (us found : List ℕ) (u : ℕ) → HasEachOnce us found → has found u ≡ true → HasEachOnce (us ++ u ∷ []) found
once-again us found u once h =
    let before : set.contains (ids us) u ≡ true = found_before us found u once ∙ h in
    let kept : ids (us ++ u ∷ []) ≡ ids us = set.from_list_push nat_cmp_total nat_cmp-IsAntisymmetric us u ∙ insert_held (ids us) u before in
    record { same = once.same ∙ sym kept; counted = once.counted ∙ ap set.len (sym kept) }

-- one more that is new
once-more : (us found : List ℕ) (u : ℕ) → HasEachOnce us found → has found u ≡ false → HasEachOnce (us ++ u ∷ []) (found ++ u ∷ [])
once-more us found u once h = record {
  same =
      set.from_list_push nat_cmp_total nat_cmp-IsAntisymmetric found u ∙ ap (λ s. set.insert s u) once.same
      ∙ sym (set.from_list_push nat_cmp_total nat_cmp-IsAntisymmetric us u);
  counted = length-append found (u ∷ []) ∙ ap (λ n. n + 1) once.counted ∙ sym (len-push_at us u false (found_before us found u once ∙ h));
}

-- no room for one more: there are too many
too_many : (us found rest : List ℕ) (u : ℕ) → HasEachOnce us found → has found u ≡ false → length found ≡ most_ids → most_ids < set.len (ids (us ++ u ∷ rest))
too_many us found rest u once h full =
    let more : set.len (ids (us ++ u ∷ [])) ≤ set.len (ids (us ++ u ∷ rest)) = rw append_assoc at (len-longer (us ++ u ∷ []) rest) in
    omega (arith, len-push_at us u false (found_before us found u once ∙ h), once.counted)

pub once-none : HasEachOnce [] []
once-none = record { same = refl; counted = sym (set.len-empty nat_cmp) }

-- there are no more than were asked for
pub length-each_once : (us found : List ℕ) → HasEachOnce us found → length found ≤ length us
length-each_once us found once = omega (arith, once.counted, len-listed us)

-- a scan of the list asked for, at index i
module _ (asked found : List ℕ) (i : ℕ) where
  pub scan-again : i < length asked → HasEachOnce (take i asked) found → has found (slice_index_or asked i 0) ≡ true → HasEachOnce (take (i + 1) asked) found
  scan-again below once h = rw (take_more asked i 0 below) (once-again (take i asked) found (slice_index_or asked i 0) once h)

  pub scan-more : i < length asked → HasEachOnce (take i asked) found → has found (slice_index_or asked i 0) ≡ false → HasEachOnce (take (i + 1) asked) (found ++ slice_index_or asked i 0 ∷ [])
  scan-more below once h = rw (take_more asked i 0 below) (once-more (take i asked) found (slice_index_or asked i 0) once h)

  pub scan-full : i < length asked → HasEachOnce (take i asked) found → has found (slice_index_or asked i 0) ≡ false → length found ≡ most_ids → most_ids < set.len (set.from_list {R = nat_cmp} asked)
  scan-full below once h full =
      let rest : List ℕ = drop (i + 1) asked in
      let u : ℕ = slice_index_or asked i 0 in
      let whole : take i asked ++ (u ∷ rest) ≡ asked =
      sym (append_assoc (take i asked) (u ∷ []) rest) ∙ ap (λ us. us ++ rest) (sym (take_more asked i 0 below)) ∙ take-append-drop (i + 1) asked in
      rw whole at (too_many (take i asked) found rest u once h full)

-- ids asked for that are held

both_listed : (asked held : List ℕ) (q : ℕ) → is_listed q (filter (is_among held) asked) ≡ (is_listed q asked && is_among held q)
both_listed [] held q = refl
both_listed (u ∷ us) held q = go (both_listed us held q) (eq_by_cmp nat_cmp q u) refl (is_among held u) refl
  where
    and_false : (b : Bool) → (b && false) ≡ false
    and_false true = refl
    and_false false = refl

    go : is_listed q (filter (is_among held) us) ≡ (is_listed q us && is_among held q) → (t : Bool) → eq_by_cmp nat_cmp q u ≡ t → (b : Bool) → is_among held u ≡ b
        → is_listed q (filter (is_among held) (u ∷ us)) ≡ ((eq_by_cmp nat_cmp q u || is_listed q us) && is_among held q)
    go rest true et true eb = let same : is_among held q ≡ true = ap (is_among held) (equal_if_tied q u et) ∙ eb in rw (eb, et, same) refl
    go rest true et false eb = let same : is_among held q ≡ false = ap (is_among held) (equal_if_tied q u et) ∙ eb in rw (eb, et, same) (rest ∙ rw same (and_false (is_listed q us)))
    go rest false et true eb = rw (eb, et) rest
    go rest false et false eb = rw (eb, et) rest

-- those that are held are both asked for and held
pub filter_intersects : (asked held : List ℕ) → set.from_list {R = nat_cmp} (filter (is_among held) asked) ≡ set.intersection (set.from_list {R = nat_cmp} asked) (set.from_list held)
filter_intersects asked held = set.same_set nat_cmp_total nat_cmp-IsAntisymmetric _ _ (λ q.
    set.contains-from_list nat_cmp_total (filter (is_among held) asked) q ∙ both_listed asked held q
    ∙ sym (set.contains-intersection nat_cmp_total (ids asked) (ids held) q ∙ ap₂ (λ a b. a && b) (set.contains-from_list nat_cmp_total asked q) (set.contains-from_list_nat held q)))

-- all are held where the set of them is a subset of those that are

listed_held : (asked held : List ℕ) → list_all (is_among held) asked ≡ true → (q : ℕ) → is_listed q asked ≡ true → is_among held q ≡ true
listed_held [] held all q h = absurd (cc)
listed_held (u ∷ us) held all q h =
    let l = and_parts (is_among held u) (list_all (is_among held) us) all in
    elim (or_cases (eq_by_cmp nat_cmp q u) (is_listed q us) h) [
      | inl t ↦ ap (is_among held) (equal_if_tied q u t) ∙ l.0
      | inr t ↦ listed_held us held l.1 q t
    ]
  where
    and_parts : (a b : Bool) → (a && b) ≡ true → (a ≡ true) × (b ≡ true)
    and_parts true true e = (refl, refl)
    and_parts true false e = absurd (cc)
    and_parts false b e = absurd (cc)

held_all : (asked held : List ℕ) → ((q : ℕ) → is_listed q asked ≡ true → is_among held q ≡ true) → list_all (is_among held) asked ≡ true
held_all [] held each = refl
held_all (u ∷ us) held each =
    rw (each u (ap (λ b. b || is_listed u us) (ties u))) (held_all us held (λ q h. each q (or_right (eq_by_cmp nat_cmp q u) _ h)))

pub all_subset : (asked held : List ℕ) → list_all (is_among held) asked ≡ set.is_subset (set.from_list {R = nat_cmp} asked) (set.from_list held)
all_subset asked held = same_test (list_all (is_among held) asked) (set.is_subset (ids asked) (ids held)) to from
  where
    to : list_all (is_among held) asked ≡ true → set.is_subset (ids asked) (ids held) ≡ true
    to all = set.contains-is_subset nat_cmp_total (ids asked) (ids held) (λ q h.
        set.contains-from_list_nat held q ∙ listed_held asked held all q (sym (set.contains-from_list nat_cmp_total asked q) ∙ h))

    from : set.is_subset (ids asked) (ids held) ≡ true → list_all (is_among held) asked ≡ true
    from sub = held_all asked held (λ q h.
        sym (set.contains-from_list_nat held q) ∙ set.is_subset-contains nat_cmp_total (ids asked) (ids held) sub q (set.contains-from_list nat_cmp_total asked q ∙ h))

    same_test : (a b : Bool) → (a ≡ true → b ≡ true) → (b ≡ true → a ≡ true) → a ≡ b
    same_test true true f g = refl
    same_test true false f g = sym (f refl)
    same_test false true f g = g refl
    same_test false false f g = refl
