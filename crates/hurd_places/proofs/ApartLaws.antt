-- Two nodes of one path are one node.
use Rattle.std.proofs.Common.{◌≡◌, ◌⊎◌, inl, inr, ◌∙◌, refl, sym, ap, subst, ℕ, zero, suc, ◌==◌, ◌<◌, ◌≤◌, ◌^◌, Bool, true, false, true≢false, List, [], ◌∷◌, ◌++◌, length, Option, Some, None, arith, nat_lt, ◌≢◌}
use Rattle.std.proofs.lemmas.Bool.{cases_Bool, eq-eqb, eqb-true, ltb-false, ltb-true}
use Rattle.hurd_creds.specs.declared.name.Name.{Name}
use Rattle.hurd_sight.specs.Found.{found_from, why_of}
use Rattle.hurd_sight.specs.declared.found.Why.{Why}
use Rattle.hurd_sight.specs.declared.found.Why.TheVariants as why
use Rattle.hurd_views.specs.declared.view.View.{View}
use Rattle.hurd_places.specs.Places.{underlying, is_covered, level_along, level_by, covered_path, or_root, path_along, step_by}
use Rattle.hurd_words.proofs.Bytes.{first_same}
use Rattle.hurd_places.proofs.PlaceLaws.{level_most}
use Rattle.hurd_places.proofs.StepLaws.{IsLast, OfActive, OfRoot, OfStem, Sort, underlying_kind, underlying_last, underlying_once, cut_same, front, is_last, is_stem, kind, kind_small, last, last_kind, not_slash, one_why, sort, split, stem_level, tag}

-- a way on which a node was found, of such steps
abbrev pub IsWay : View → Name → List Name → Type 0
IsWay v n [] = (y : Why) × (why_of n v.sight.found ≡ Some y) × (found_from y ≡ None)
IsWay v n (d ∷ ds) = (y : Why) × (why_of n v.sight.found ≡ Some y) × (found_from y ≡ Some d) × IsWay v d ds

-- what tells nodes apart: their last steps, and that a node is covered from which an active server was found
pub record Apart (v : View) : Type 0 where
  pub once : (y : Why) (n m : Name) → why_of n v.sight.found ≡ Some y → why_of m v.sight.found ≡ Some y → last v n y ≡ last v m y → n ≡ m
  pub covered : (d n : Name) → why_of n v.sight.found ≡ Some (why.Active d) → is_covered v d ≡ true

-- the path that goes on from a node
abbrev pub full : View → Name → List Name → List ℕ
full v n ns = covered_path (is_covered v n) (path_along v (n ∷ ns)) (level_along v (n ∷ ns))

-- a node's way, by why it was found
pub record Found (v : View) (n : Name) (ns : List Name) (y : Why) : Type 0 where
  pub why : why_of n v.sight.found ≡ Some y
  pub path : path_along v (n ∷ ns) ≡ step_by v n (path_along v ns) (level_along v ns) (Some y)
  pub level : level_along v (n ∷ ns) ≡ level_by (Some y) (level_along v ns)
  pub from : (d : Name) → found_from y ≡ Some d → (ds : List Name) × (ns ≡ d ∷ ds) × IsWay v d ds

some_same : (a b : Name) → Some a ≡ Some b → a ≡ b
some_same a b is = cc

found : (v : View) (n : Name) (ns : List Name) → IsWay v n ns → (y : Why) × Found v n ns y
found v n [] (y, is, none) = (
  y,
  record {
    why = is;
    path = ap (λ (z : Option Why). step_by v n [] 0 z) is;
    level = ap (λ (z : Option Why). level_by z 0) is;
    from = λ d some. absurd (cc);
  },
)
found v n (e ∷ es) (y, is, from, rest) = (
  y,
  record {
    why = is;
    path = ap (λ (z : Option Why). step_by v n (path_along v (e ∷ es)) (level_along v (e ∷ es)) z) is;
    level = ap (λ (z : Option Why). level_by z (level_along v (e ∷ es))) is;
    from = λ d some. let same = some_same e d (sym from ∙ some) in (es, ap (λ (x : Name). x ∷ es) same, subst (λ (x : Name). IsWay v x es) same rest);
  },
)

-- a path is the root's, or ends with a step

pub record Ends (path : List ℕ) : Type 0 where
  pub before : List ℕ
  pub step : List ℕ
  pub is : path ≡ before ++ step
  pub last : IsLast step
  pub kind : tag step ≡ 9 → ⊥
  pub more : step ≡ 47 ∷ [] → ⊥

stem_ends : (v : View) (n : Name) (ns : List Name) (y : Why) → Found v n ns y → is_stem y ≡ true → Ends (path_along v (n ∷ ns))
stem_ends v n ns y f stem = record {
  before = front v n (path_along v ns) (level_along v ns) y;
  step = last v n y;
  is = f.path ∙ split v n (path_along v ns) (level_along v ns) y stem;
  last = is_last v n y stem;
  kind = λ nine. kind_small y (sym (last_kind v n y stem) ∙ nine);
  more = not_slash v n y stem;
}

ends_by : (v : View) (n : Name) (ns : List Name) (y : Why) → Found v n ns y → Sort y
    → ((m : Name) (ms : List Name) → ns ≡ m ∷ ms → IsWay v m ms → (path_along v (m ∷ ms) ≡ []) ⊎ Ends (path_along v (m ∷ ms)))
    → (path_along v (n ∷ ns) ≡ []) ⊎ Ends (path_along v (n ∷ ns))
ends_by v n ns _ f OfRoot below = inl f.path
ends_by v n ns _ f (OfActive m) below =
    let back = f.from m refl in
    let same : path_along v (n ∷ ns) ≡ path_along v (m ∷ back.0) = f.path ∙ ap (path_along v) back.1 in
    subst (λ (p : List ℕ). (p ≡ []) ⊎ Ends p) (sym same) (below m back.0 back.1 back.2)
ends_by v n ns _ f (OfStem y stem) below = inr (stem_ends v n ns y f stem)

ends : (v : View) (n : Name) (ns : List Name) → IsWay v n ns → (path_along v (n ∷ ns) ≡ []) ⊎ Ends (path_along v (n ∷ ns))
ends v n [] way = let f = found v n [] way in ends_by v n [] f.0 f.1 (sort f.0) (λ m ms is rest. absurd (cc))
ends v n (d ∷ ds) way =
    let f = found v n (d ∷ ds) way in
    ends_by v n (d ∷ ds) f.0 f.1 (sort f.0)
    (λ m ms is rest.
    subst (λ (ns : List Name). (path_along v ns ≡ []) ⊎ Ends (path_along v ns)) is (ends v d ds (way.3)))

-- a node is another, where their paths and their levels are the same
abbrev pub ComesBy : View → ℕ → Name → List Name → Type 0
ComesBy v k n ns =
    (e : Name) (es : List Name) → length es < k → IsWay v e es → path_along v (n ∷ ns) ≡ path_along v (e ∷ es) → level_along v (n ∷ ns) ≡ level_along v (e ∷ es) → n ≡ e

differ_if : (a b : ℕ) → (a == b) ≡ false → a ≢ b
differ_if a b differ same = true≢false (sym (eq-eqb a b same) ∙ differ)

-- a node of a greater level on the same path is on the active server of the other, which is covered then

later_by : (v : View) (k : ℕ) (n m : Name) (ns ms : List Name) (y : Why) → Apart v → ComesBy v k n ns → length ms ≤ k → Found v m ms y → Sort y
    → path_along v (n ∷ ns) ≡ path_along v (m ∷ ms) → level_along v (n ∷ ns) < level_along v (m ∷ ms)
    → ((e : Name) (es : List Name) → ms ≡ e ∷ es → path_along v (n ∷ ns) ≡ path_along v (e ∷ es) → level_along v (n ∷ ns) < level_along v (e ∷ es) → is_covered v n ≡ true)
    → is_covered v n ≡ true
later_by v k n m ns ms _ apart meets few f OfRoot paths less rest = let none = f.level in absurd (omega (arith, none, less))
later_by v k n m ns ms _ apart meets few f (OfStem y stem) paths less rest = let none = f.level ∙ stem_level y (level_along v ms) stem in absurd (omega (arith, none, less))
later_by v k n m ns ms _ apart meets few f (OfActive e) paths less rest = go (cases_Bool (level_along v (n ∷ ns) == level_along v (e ∷ es)))
  where
    back : (ds : List Name) × (ms ≡ e ∷ ds) × IsWay v e ds
    back = f.from e refl

    es : List Name
    es = back.0

    on : path_along v (n ∷ ns) ≡ path_along v (e ∷ es)
    on = paths ∙ (f.path ∙ ap (path_along v) back.1)

    one_less : level_along v (m ∷ ms) ≡ suc (level_along v (e ∷ es))
    one_less = f.level ∙ ap (λ (xs : List Name). suc (level_along v xs)) back.1

    shorter : length es < k
    shorter = let size = ap length back.1 in omega (arith, size, few)

    go : ((level_along v (n ∷ ns) == level_along v (e ∷ es)) ≡ true) ⊎ ((level_along v (n ∷ ns) == level_along v (e ∷ es)) ≡ false) → is_covered v n ≡ true
    go (inl same) = ap (is_covered v) (meets e es shorter back.2 on (eqb-true (level_along v (n ∷ ns)) (level_along v (e ∷ es)) same)) ∙ apart.covered e m f.why
    go (inr differ) = let apart_levels = differ_if (level_along v (n ∷ ns)) (level_along v (e ∷ es)) differ in rest e es back.1 on (omega (arith, less, one_less, apart_levels))

later : (v : View) (k : ℕ) (n m : Name) (ns ms : List Name) → Apart v → ComesBy v k n ns → length ms ≤ k → IsWay v m ms
    → path_along v (n ∷ ns) ≡ path_along v (m ∷ ms) → level_along v (n ∷ ns) < level_along v (m ∷ ms) → is_covered v n ≡ true
later v k n m ns [] apart meets few way paths less =
    let f = found v m [] way in later_by v k n m ns [] f.0 apart meets few f.1 (sort f.0) paths less (λ e es is. absurd (cc))
later v k n m ns (d ∷ ds) apart meets few way paths less =
    let f = found v m (d ∷ ds) way in
    let size : length (d ∷ ds) ≤ k = few in
    later_by v k n m ns (d ∷ ds) f.0 apart meets few f.1 (sort f.0) paths less
    (λ e es is.
    subst (λ (xs : List Name). path_along v (n ∷ ns) ≡ path_along v xs → level_along v (n ∷ ns) < level_along v xs → is_covered v n ≡ true) is
    (later v k n d ns ds apart meets (omega (arith, size)) way.3))

-- nodes whose ways are shorter are told apart by their paths and their levels
abbrev pub Shorter : View → ℕ → Type 0
Shorter v k =
    (n m : Name) (ns ms : List Name) → length ns < k → length ms < 2 ^ 63 → IsWay v n ns → IsWay v m ms → path_along v (n ∷ ns) ≡ path_along v (m ∷ ms)
    → level_along v (n ∷ ns) ≡ level_along v (m ∷ ms) → n ≡ m

-- a path that is none or ends with a step is no slash

some_step : (before step : List ℕ) → IsLast step → before ++ step ≡ [] → ⊥
some_step [] step l is = let first = sym l.is ∙ is in cc
some_step (b ∷ before) step l is = cc

slash_alone : (before step : List ℕ) → IsLast step → before ++ step ≡ 47 ∷ [] → step ≡ 47 ∷ []
slash_alone [] step l is = is
slash_alone (b ∷ before) step l is = absurd (some_step before step l (first_same b 47 (before ++ step) [] is).1)

no_slash : (path : List ℕ) → (path ≡ []) ⊎ Ends path → path ≡ 47 ∷ [] → ⊥
no_slash path (inl none) is = let both = sym none ∙ is in cc
no_slash path (inr e) is = e.more (slash_alone e.before e.step e.last (sym e.is ∙ is))

root_once : (p q : List ℕ) → (p ≡ 47 ∷ [] → ⊥) → (q ≡ 47 ∷ [] → ⊥) → or_root p ≡ or_root q → p ≡ q
root_once [] [] a b is = refl
root_once [] (c ∷ q) a b is = absurd (b (sym is))
root_once (c ∷ p) [] a b is = absurd (a is)
root_once (c ∷ p) (d ∷ q) a b is = is

-- a mark is no other step

covered_apart : (p q : List ℕ) (k : ℕ) → (q ≡ []) ⊎ Ends q → or_root p ++ underlying k ≡ q → ⊥
covered_apart p q k (inl none) is = some_step (or_root p) (underlying k) (underlying_last k) (is ∙ none)
covered_apart p q k (inr e) is =
    let both = cut_same (or_root p) e.before (underlying k) e.step (underlying_last k) e.last (is ∙ e.is) in e.kind (sym (ap tag both.1) ∙ underlying_kind k)

-- paths that go on from nodes

full_once : (v : View) (k : ℕ) (n m : Name) (ns ms : List Name) → Apart v → Shorter v k → k ≤ 2 ^ 63 → length ns < k → length ms < 2 ^ 63 → IsWay v n ns
    → IsWay v m ms → full v n ns ≡ full v m ms → n ≡ m
full_once v k n m ns ms apart short small shorter few way_n way_m is = go (is_covered v n) (is_covered v m) refl refl is
  where
    ends_n : (path_along v (n ∷ ns) ≡ []) ⊎ Ends (path_along v (n ∷ ns))
    ends_n = ends v n ns way_n

    ends_m : (path_along v (m ∷ ms) ≡ []) ⊎ Ends (path_along v (m ∷ ms))
    ends_m = ends v m ms way_m

    few_n : level_along v (n ∷ ns) < 2 ^ 64
    few_n = let most = level_most v (n ∷ ns) in omega (arith, most, shorter, small)

    few_m : level_along v (m ∷ ms) < 2 ^ 64
    few_m = let most = level_most v (m ∷ ms) in omega (arith, most, few)

    compared : is_covered v n ≡ false → is_covered v m ≡ false → path_along v (n ∷ ns) ≡ path_along v (m ∷ ms)
        → ((level_along v (n ∷ ns) == level_along v (m ∷ ms)) ≡ true) ⊎ ((level_along v (n ∷ ns) == level_along v (m ∷ ms)) ≡ false)
        → (nat_lt (level_along v (n ∷ ns)) (level_along v (m ∷ ms)) ≡ true) ⊎ (nat_lt (level_along v (n ∷ ns)) (level_along v (m ∷ ms)) ≡ false) → n ≡ m
    compared bare_n bare_m paths (inl same) order = short n m ns ms shorter few way_n way_m paths (eqb-true (level_along v (n ∷ ns)) (level_along v (m ∷ ms)) same)
    compared bare_n bare_m paths (inr differ) (inl less) =
        absurd (true≢false (sym (later v (length ms) n m ns ms apart
        (λ e es size way_e on levels. short n e ns es shorter (omega (arith, size, few)) way_n way_e on levels)
        (omega arith) way_m paths (ltb-true (level_along v (n ∷ ns)) (level_along v (m ∷ ms)) less)) ∙ bare_n))
    compared bare_n bare_m paths (inr differ) (inr more) =
        let above = ltb-false (level_along v (n ∷ ns)) (level_along v (m ∷ ms)) more in
        let apart_levels = differ_if (level_along v (n ∷ ns)) (level_along v (m ∷ ms)) differ in
        absurd (true≢false (sym (later v (length ns) m n ms ns apart
        (λ e es size way_e on levels. sym (short e m es ms (omega (arith, size, shorter)) few way_e way_m (sym on) (sym levels)))
        (omega arith) way_n (sym paths) (omega (arith, above, apart_levels))) ∙ bare_m))

    go : (s t : Bool) → is_covered v n ≡ s → is_covered v m ≡ t
        → covered_path s (path_along v (n ∷ ns)) (level_along v (n ∷ ns)) ≡ covered_path t (path_along v (m ∷ ms)) (level_along v (m ∷ ms)) → n ≡ m
    go true true p q same =
        let both = cut_same (or_root (path_along v (n ∷ ns))) (or_root (path_along v (m ∷ ms))) (underlying (level_along v (n ∷ ns))) (underlying (level_along v (m ∷ ms)))
        (underlying_last (level_along v (n ∷ ns))) (underlying_last (level_along v (m ∷ ms))) same in
        short n m ns ms shorter few way_n way_m (root_once (path_along v (n ∷ ns)) (path_along v (m ∷ ms)) (no_slash (path_along v (n ∷ ns)) ends_n) (no_slash (path_along v (m ∷ ms)) ends_m) both.0)
        (underlying_once (level_along v (n ∷ ns)) (level_along v (m ∷ ms)) few_n few_m both.1)
    go true false p q same = absurd (covered_apart (path_along v (n ∷ ns)) (path_along v (m ∷ ms)) (level_along v (n ∷ ns)) ends_m same)
    go false true p q same = absurd (covered_apart (path_along v (m ∷ ms)) (path_along v (n ∷ ns)) (level_along v (m ∷ ms)) ends_n (sym same))
    go false false p q same =
        compared p q same (cases_Bool (level_along v (n ∷ ns) == level_along v (m ∷ ms))) (cases_Bool (nat_lt (level_along v (n ∷ ns)) (level_along v (m ∷ ms))))

-- two nodes with steps of their own

stems_once : (v : View) (k : ℕ) (n m : Name) (ns ms : List Name) (y z : Why) → Apart v → Shorter v k → k ≤ 2 ^ 63 → length ns ≤ k → length ms < 2 ^ 63
    → Found v n ns y → Found v m ms z → is_stem y ≡ true → is_stem z ≡ true → path_along v (n ∷ ns) ≡ path_along v (m ∷ ms) → n ≡ m
stems_once v k n m ns ms y z apart short small shorter few f g stem_y stem_z paths =
    apart.once y n m f.why (g.why ∙ ap (λ (x : Why). Some x) (sym one)) (both.1 ∙ ap (last v m) (sym one))
  where
    both : (front v n (path_along v ns) (level_along v ns) y ≡ front v m (path_along v ms) (level_along v ms) z) × (last v n y ≡ last v m z)
    both =
        cut_same (front v n (path_along v ns) (level_along v ns) y) (front v m (path_along v ms) (level_along v ms) z) (last v n y) (last v m z) (is_last v n y stem_y) (is_last v m z stem_z)
        (sym (split v n (path_along v ns) (level_along v ns) y stem_y) ∙ (sym f.path ∙ (paths ∙ (g.path ∙ split v m (path_along v ms) (level_along v ms) z stem_z))))

    kinds : kind y ≡ kind z
    kinds = sym (last_kind v n y stem_y) ∙ (ap tag both.1 ∙ last_kind v m z stem_z)

    -- the nodes from which they were found
    same_from : (d e : Name) → ((ds : List Name) × (ns ≡ d ∷ ds) × IsWay v d ds) → ((es : List Name) × (ms ≡ e ∷ es) × IsWay v e es)
        → covered_path (is_covered v d) (path_along v ns) (level_along v ns) ≡ covered_path (is_covered v e) (path_along v ms) (level_along v ms) → d ≡ e
    same_from d e (ds, is_d, way_d) (es, is_e, way_e) same =
        let size_d = ap length is_d in
        let size_e = ap length is_e in
        full_once v k d e ds es apart short small (omega (arith, size_d, shorter)) (omega (arith, size_e, few)) way_d way_e
        (ap (λ (xs : List Name). covered_path (is_covered v d) (path_along v xs) (level_along v xs)) (sym is_d)
        ∙ (same ∙ ap (λ (xs : List Name). covered_path (is_covered v e) (path_along v xs) (level_along v xs)) is_e))

    one : y ≡ z
    one = one_why v n m (path_along v ns) (path_along v ms) (level_along v ns) (level_along v ms) y z stem_y kinds both.0 both.1 (λ d e from_d from_e. same_from d e (f.from d from_d) (g.from e from_e))

-- and any two

stem_path : (v : View) (n : Name) (ns : List Name) (y : Why) → Found v n ns y → is_stem y ≡ true → path_along v (n ∷ ns) ≡ [] → ⊥
stem_path v n ns y f stem none = let e = stem_ends v n ns y f stem in some_step e.before e.step e.last (sym e.is ∙ none)

by_sorts : (v : View) (k : ℕ) (n m : Name) (ns ms : List Name) (y z : Why) → Apart v → Shorter v k → k ≤ 2 ^ 63 → length ns ≤ k → length ms < 2 ^ 63
    → Found v n ns y → Found v m ms z → Sort y → Sort z → path_along v (n ∷ ns) ≡ path_along v (m ∷ ms) → level_along v (n ∷ ns) ≡ level_along v (m ∷ ms) → n ≡ m
by_sorts v k n m ns ms _ _ apart short small shorter few f g OfRoot OfRoot paths levels = apart.once why.Root n m f.why g.why refl
by_sorts v k n m ns ms _ _ apart short small shorter few f g OfRoot (OfActive e) paths levels = let a = f.level in let b = g.level in absurd (omega (arith, a, b, levels))
by_sorts v k n m ns ms _ _ apart short small shorter few f g OfRoot (OfStem z stem) paths levels = absurd (stem_path v m ms z g stem (sym paths ∙ f.path))
by_sorts v k n m ns ms _ _ apart short small shorter few f g (OfActive d) OfRoot paths levels = let a = f.level in let b = g.level in absurd (omega (arith, a, b, levels))
by_sorts v k n m ns ms _ _ apart short small shorter few f g (OfActive d) (OfStem z stem) paths levels =
    let a = f.level in let b = g.level ∙ stem_level z (level_along v ms) stem in absurd (omega (arith, a, b, levels))
by_sorts v k n m ns ms _ _ apart short small shorter few f g (OfStem y stem) OfRoot paths levels = absurd (stem_path v n ns y f stem (paths ∙ g.path))
by_sorts v k n m ns ms _ _ apart short small shorter few f g (OfStem y stem) (OfActive e) paths levels =
    let a = f.level ∙ stem_level y (level_along v ns) stem in let b = g.level in absurd (omega (arith, a, b, levels))
by_sorts v k n m ns ms _ _ apart short small shorter few f g (OfStem y stem_y) (OfStem z stem_z) paths levels =
    stems_once v k n m ns ms y z apart short small shorter few f g stem_y stem_z paths
by_sorts v k n m ns ms _ _ apart short small shorter few f g (OfActive d) (OfActive e) paths levels =
    let x = f.from d refl in
    let y = g.from e refl in
    let size_x = ap length x.1 in
    let size_y = ap length y.1 in
    let on = sym (f.path ∙ ap (path_along v) x.1) ∙ (paths ∙ (g.path ∙ ap (path_along v) y.1)) in
    let a = f.level ∙ ap (λ (xs : List Name). suc (level_along v xs)) x.1 in
    let b = g.level ∙ ap (λ (xs : List Name). suc (level_along v xs)) y.1 in
    let same = short d e x.0 y.0 (omega (arith, size_x, shorter)) (omega (arith, size_y, few)) x.2 y.2 on (omega (arith, a, b, levels)) in
    apart.once (why.Active d) n m f.why (subst (λ (q : Name). why_of m v.sight.found ≡ Some (why.Active q)) (sym same) g.why) refl

all_shorter : (v : View) (k : ℕ) → Apart v → k ≤ 2 ^ 63 → Shorter v k
all_shorter v zero apart small n m ns ms less few way_n way_m paths levels = absurd (omega (arith, less))
all_shorter v (suc k) apart small n m ns ms less few way_n way_m paths levels =
    let f = found v n ns way_n in
    let g = found v m ms way_m in
    by_sorts v k n m ns ms f.0 g.0 apart (all_shorter v k apart (omega (arith, small))) (omega (arith, small)) (omega (arith, less)) few f.1 g.1 (sort f.0) (sort g.0) paths levels

-- nodes of such ways whose paths go on in the same way are one node
pub ways_once : (v : View) (n m : Name) (ns ms : List Name) → Apart v → length ns < 2 ^ 63 → length ms < 2 ^ 63 → IsWay v n ns → IsWay v m ms
    → or_root (full v n ns) ≡ or_root (full v m ms) → n ≡ m
ways_once v n m ns ms apart few_n few_m way_n way_m is =
    full_once v (2 ^ 63) n m ns ms apart (all_shorter v (2 ^ 63) apart (omega arith)) (omega arith) few_n few_m way_n way_m
    (root_once (full v n ns) (full v m ms) (no_full n ns way_n (is_covered v n)) (no_full m ms way_m (is_covered v m)) is)
  where
    no_full : (x : Name) (xs : List Name) → IsWay v x xs → (t : Bool) → covered_path t (path_along v (x ∷ xs)) (level_along v (x ∷ xs)) ≡ 47 ∷ [] → ⊥
    no_full x xs way false same = no_slash (path_along v (x ∷ xs)) (ends v x xs way) same
    no_full x xs way true same =
        let alone = slash_alone (or_root (path_along v (x ∷ xs))) (underlying (level_along v (x ∷ xs))) (underlying_last (level_along v (x ∷ xs))) same in
        let nine = sym (underlying_kind (level_along v (x ∷ xs))) ∙ ap tag alone in
        omega (arith, nine)
