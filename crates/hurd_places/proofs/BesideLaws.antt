-- What is beside a path is told from it: it begins with a space and a bracket.
use Rattle.std.proofs.Common.{◌≡◌, ◌⊎◌, inl, inr, ◌∙◌, refl, sym, ap, subst, ℕ, ◌==◌, ◌&&◌, ◌||◌, not, Bool, true, false, true≢false, List, [], ◌∷◌, ◌++◌, append_assoc, Option, Some, None, if◌then◌else◌, codes}
use Rattle.std.proofs.lemmas.Bool.{and_from, and_parts, cases_Bool, eqb-true}
use Rattle.hurd_creds.specs.declared.name.Name.{Name}
use Rattle.hurd_words.specs.Printing.{spaced}
use Rattle.hurd_words.specs.Sentences.{is_letter, is_word}
use Rattle.hurd_words.specs.Spelling.{spelled_name}
use Rattle.hurd_words.proofs.Bytes.{all_first, all_rest, first_same}
use Rattle.hurd_words.proofs.WordLaws.{spelled_is_word}
use Rattle.hurd_sight.specs.Found.{why_of}
use Rattle.hurd_sight.specs.declared.found.Why.{Why}
use Rattle.hurd_sight.specs.declared.found.Why.TheVariants as why
use Rattle.hurd_views.specs.Views.{row_at}
use Rattle.hurd_views.specs.declared.view.View.{View}
use Rattle.hurd_places.specs.Places.{underlying, beside, count_to, is_covered, label_of, label_or, level_along, covered_path, name_in, names_tasks, node_path, node_place, numbered, or_root, path_along, step_by, target_at, way_of}
use Rattle.hurd_places.specs.declared.labels.Wanted.TheVariants as wanted
use Rattle.hurd_places.proofs.CutLaws.{is_cut, is_inner, is_whole}
use Rattle.hurd_places.proofs.EachBeside.{each_beside}
use Rattle.hurd_places.proofs.StepLaws.{IsLast, underlying_last, child_front, child_last, front, is_last, is_stem, last, split}

-- whether a text begins with a bracket; whether no bracket comes after a space; and whether no space comes last

abbrev opens : List ℕ → Bool
opens [] = false
opens (b ∷ bs) = b == 40

abbrev apart : List ℕ → Bool
apart [] = true
apart (b ∷ bs) = not (b == 32 && opens bs) && apart bs

abbrev closed : List ℕ → Bool
closed [] = true
closed (b ∷ []) = not (b == 32)
closed (b ∷ c ∷ bs) = closed (c ∷ bs)

-- whether a text begins with a slash or a bracket, if with anything
abbrev pub heads : List ℕ → Bool
heads [] = true
heads (b ∷ bs) = is_cut b

pub record Clean (s : List ℕ) : Type 0 where
  pub apart : apart s ≡ true
  pub closed : closed s ≡ true
  pub heads : heads s ≡ true

not_both : (b c : Bool) → not b ≡ true → not (b && c) ≡ true
not_both true c is = absurd (true≢false (sym is))
not_both false c is = refl

apart_both : (s t : List ℕ) → apart s ≡ true → closed s ≡ true → apart t ≡ true → apart (s ++ t) ≡ true
apart_both [] t a c b = b
apart_both (x ∷ []) t a c b = and_from (not (x == 32 && opens t)) (apart t) (not_both (x == 32) (opens t) c) b
apart_both (x ∷ y ∷ s) t a c b =
    let parts = and_parts (not (x == 32 && y == 40)) (apart (y ∷ s)) a in
    and_from (not (x == 32 && y == 40)) (apart ((y ∷ s) ++ t)) parts.0 (apart_both (y ∷ s) t parts.1 c b)

closed_both : (s t : List ℕ) → closed s ≡ true → closed t ≡ true → closed (s ++ t) ≡ true
closed_both [] t a b = b
closed_both (x ∷ []) [] a b = a
closed_both (x ∷ []) (y ∷ t) a b = b
closed_both (x ∷ y ∷ s) t a b = closed_both (y ∷ s) t a b

heads_both : (s t : List ℕ) → heads s ≡ true → heads t ≡ true → heads (s ++ t) ≡ true
heads_both [] t a b = b
heads_both (x ∷ s) t a b = a

clean_both : (s t : List ℕ) → Clean s → Clean t → Clean (s ++ t)
clean_both s t a b = record {
  apart = apart_both s t a.apart a.closed b.apart;
  closed = closed_both s t a.closed b.closed;
  heads = heads_both s t a.heads b.heads;
}

-- a step is

no_bracket : (w : List ℕ) → is_whole w ≡ true → opens w ≡ false
no_bracket [] whole = refl
no_bracket (b ∷ w) whole = go (b == 47) (b == 40) (all_first is_inner b w whole)
  where
    go : (s t : Bool) → not (s || t) ≡ true → t ≡ false
    go true t is = absurd (true≢false (sym is))
    go false true is = absurd (true≢false (sym is))
    go false false is = refl

whole_apart : (x : ℕ) (w : List ℕ) → is_whole w ≡ true → apart (x ∷ w) ≡ true
whole_apart x [] whole = ap (λ (t : Bool). not t && true) (and_none (x == 32))
  where
    and_none : (b : Bool) → (b && false) ≡ false
    and_none true = refl
    and_none false = refl
whole_apart x (b ∷ w) whole =
    and_from (not (x == 32 && b == 40)) (apart (b ∷ w)) (none (x == 32) (b == 40) (no_bracket (b ∷ w) whole)) (whole_apart b w (all_rest is_inner b w whole))
  where
    none : (s t : Bool) → t ≡ false → not (s && t) ≡ true
    none true true is = absurd (true≢false is)
    none true false is = refl
    none false t is = refl

last_clean : (t : List ℕ) → IsLast t → closed t ≡ true → Clean t
last_clean t l closed = record { apart = ap apart l.is ∙ whole_apart l.first l.rest l.whole; closed = closed; heads = ap heads l.is ∙ l.cuts }

ended : (s : List ℕ) → closed (s ++ 41 ∷ []) ≡ true
ended [] = refl
ended (x ∷ []) = refl
ended (x ∷ y ∷ s) = ended (y ∷ s)

numbered_closed : (word : List ℕ) (k : ℕ) → closed (numbered word k) ≡ true
numbered_closed word k = ap closed (ap (λ (t : List ℕ). 40 ∷ t) (sym (append_assoc word (spaced k) (41 ∷ [])))) ∙ ended (40 ∷ (word ++ spaced k))

letter_no_space : (b : ℕ) → is_letter b ≡ true → not (b == 32) ≡ true
letter_no_space b is = go (cases_Bool (b == 32))
  where
    go : ((b == 32) ≡ true) ⊎ ((b == 32) ≡ false) → not (b == 32) ≡ true
    go (inl same) = absurd (true≢false (sym is ∙ ap is_letter (eqb-true b 32 same)))
    go (inr other) = ap not other

word_closed : (w : List ℕ) → is_word w ≡ true → closed w ≡ true
word_closed [] is = refl
word_closed (b ∷ []) is = letter_no_space b (all_first is_letter b [] is)
word_closed (b ∷ c ∷ w) is = word_closed (c ∷ w) (all_rest is_letter b (c ∷ w) is)

slash_closed : (w : List ℕ) → closed w ≡ true → closed (47 ∷ w) ≡ true
slash_closed [] is = refl
slash_closed (b ∷ w) is = is

last_closed : (v : View) (n : Name) (y : Why) → is_stem y ≡ true → closed (last v n y) ≡ true
last_closed v n why.Root is = refl
last_closed v n (why.Active m) is = refl
last_closed v n why.Held is = ended (40 ∷ label_or (names_tasks v) (codes "held") (label_of v (wanted.Node n)))
last_closed v n why.Way is = numbered_closed (codes "way") (count_to why.Way n v.sight.found)
last_closed v n why.Controlled is = numbered_closed (codes "controlled") (count_to why.Controlled n v.sight.found)
last_closed v n why.Pending is = numbered_closed (codes "pending") (count_to why.Pending n v.sight.found)
last_closed v n (why.Child d) is = go (name_in (row_at v.rows d).body n)
  where
    go : (name : List ℕ) → closed (child_last name) ≡ true
    go [] = refl
    go (b ∷ bs) = slash_closed (spelled_name (b ∷ bs)) (word_closed (spelled_name (b ∷ bs)) (spelled_is_word true (b ∷ bs)))
last_closed v n (why.Parent d) is = refl
last_closed v n (why.ServerRoot d) is = refl
last_closed v n (why.Target d) is = numbered_closed (codes "target") (target_at v d n)

root_clean : (p : List ℕ) → Clean p → Clean (or_root p)
root_clean [] c = record { apart = refl; closed = refl; heads = refl }
root_clean (b ∷ p) c = c

underlying_clean : (k : ℕ) → Clean (underlying k)
underlying_clean k = last_clean (underlying k) (underlying_last k) (go (k == 0))
  where
    go : (t : Bool) → closed (if t then codes "(underlying)" else numbered (codes "underlying") k) ≡ true
    go true = refl
    go false = numbered_closed (codes "underlying") k

covered_clean : (t : Bool) (p : List ℕ) (k : ℕ) → Clean p → Clean (covered_path t p k)
covered_clean false p k c = c
covered_clean true p k c = clean_both (or_root p) (underlying k) (root_clean p c) (underlying_clean k)

nothing : Clean []
nothing = record { apart = refl; closed = refl; heads = refl }

front_clean : (v : View) (n : Name) (path : List ℕ) (k : ℕ) (y : Why) → Clean path → Clean (front v n path k y)
front_clean v n path k (why.Child d) c = go (name_in (row_at v.rows d).body n)
  where
    go : (name : List ℕ) → Clean (child_front name (covered_path (is_covered v d) path k))
    go [] = clean_both (covered_path (is_covered v d) path k) (47 ∷ []) (covered_clean (is_covered v d) path k c) (record { apart = refl; closed = refl; heads = refl })
    go (b ∷ bs) = covered_clean (is_covered v d) path k c
front_clean v n path k (why.Parent d) c = covered_clean (is_covered v d) path k c
front_clean v n path k (why.ServerRoot d) c = covered_clean (is_covered v d) path k c
front_clean v n path k (why.Target d) c = covered_clean (is_covered v d) path k c
front_clean v n path k _ c = nothing

stem_clean : (v : View) (n : Name) (path : List ℕ) (k : ℕ) (y : Why) → is_stem y ≡ true → Clean path → Clean (step_by v n path k (Some y))
stem_clean v n path k y stem c =
    subst Clean (sym (split v n path k y stem))
    (clean_both (front v n path k y) (last v n y) (front_clean v n path k y c) (last_clean (last v n y) (is_last v n y stem) (last_closed v n y stem)))

step_clean : (v : View) (n : Name) (path : List ℕ) (k : ℕ) (o : Option Why) → Clean path → Clean (step_by v n path k o)
step_clean v n path k None c = record { apart = refl; closed = refl; heads = refl }
step_clean v n path k (Some why.Root) c = nothing
step_clean v n path k (Some (why.Active m)) c = c
step_clean v n path k (Some y) c = stem_clean v n path k y refl c

along_clean : (v : View) (ns : List Name) → Clean (path_along v ns)
along_clean v [] = nothing
along_clean v (n ∷ ns) = step_clean v n (path_along v ns) (level_along v ns) (why_of n v.sight.found) (along_clean v ns)

pub covered_path_clean : (v : View) (n : Name) → Clean (covered_path (is_covered v n) (path_along v (way_of v n)) (level_along v (way_of v n)))
covered_path_clean v n = covered_clean (is_covered v n) (path_along v (way_of v n)) (level_along v (way_of v n)) (along_clean v (way_of v n))

path_clean : (v : View) (n : Name) → Clean (node_path v n)
path_clean v n = root_clean (covered_path (is_covered v n) (path_along v (way_of v n)) (level_along v (way_of v n))) (covered_path_clean v n)

-- what is beside a path begins with a space and a bracket

abbrev pub spaces : List ℕ → Bool
spaces [] = true
spaces (b ∷ c ∷ bs) = b == 32 && c == 40
spaces _ = false

spaces_both : (s t : List ℕ) → spaces s ≡ true → spaces t ≡ true → spaces (s ++ t) ≡ true
spaces_both [] t a b = b
spaces_both (x ∷ []) t a b = absurd (true≢false (sym a))
spaces_both (x ∷ y ∷ s) t a b = a

is_beside : (v : View) (n : Name) → spaces (beside v n) ≡ true
is_beside v n = each_beside (λ (b : List ℕ). spaces b ≡ true) (record { none = refl; both = spaces_both; label = λ many l. refl }) v n

-- two clean texts with something beside them

longer : (x : ℕ) (q c : List ℕ) → spaces ((x ∷ q) ++ c) ≡ true → apart (x ∷ q) ≡ true → closed (x ∷ q) ≡ true → ⊥
longer x [] [] s a d = true≢false (sym s)
longer x [] (y ∷ c) s a d = true≢false (sym d ∙ ap not (and_parts (x == 32) (y == 40) s).0)
longer x (y ∷ q) c s a d = true≢false (sym (and_parts (not (x == 32 && y == 40)) (apart (y ∷ q)) a).0 ∙ ap not s)

closed_rest : (x : ℕ) (s : List ℕ) → closed (x ∷ s) ≡ true → closed s ≡ true
closed_rest x [] is = refl
closed_rest x (y ∷ s) is = is

clean_same : (p q b c : List ℕ) → apart p ≡ true → closed p ≡ true → apart q ≡ true → closed q ≡ true → spaces b ≡ true → spaces c ≡ true → p ++ b ≡ q ++ c → p ≡ q
clean_same [] [] b c ap_p cl_p ap_q cl_q b_is c_is is = refl
clean_same [] (x ∷ q) b c ap_p cl_p ap_q cl_q b_is c_is is = absurd (longer x q c (sym (ap spaces is) ∙ b_is) ap_q cl_q)
clean_same (x ∷ p) [] b c ap_p cl_p ap_q cl_q b_is c_is is = absurd (longer x p b (ap spaces is ∙ c_is) ap_p cl_p)
clean_same (x ∷ p) (y ∷ q) b c ap_p cl_p ap_q cl_q b_is c_is is =
    let both = first_same x y (p ++ b) (q ++ c) is in
    let rest = clean_same p q b c (and_parts (not (x == 32 && opens p)) (apart p) ap_p).1 (closed_rest x p cl_p) (and_parts (not (y == 32 && opens q)) (apart q) ap_q).1 (closed_rest y q cl_q) b_is c_is both.1 in
    ap (λ (z : ℕ). z ∷ p) both.0 ∙ ap (λ (s : List ℕ). y ∷ s) rest

-- a node has the path that something is beside
pub path_alone : (v : View) (n m : Name) (c : List ℕ) → spaces c ≡ true → node_place v n ≡ node_path v m ++ c → node_path v n ≡ node_path v m
path_alone v n m c c_is is =
    let a = path_clean v n in
    let b = path_clean v m in
    clean_same (node_path v n) (node_path v m) (beside v n) c a.apart a.closed b.apart b.closed (is_beside v n) c_is is

-- so nodes of one place have one path
pub paths_alike : (v : View) (n m : Name) → node_place v n ≡ node_place v m → node_path v n ≡ node_path v m
paths_alike v n m is = path_alone v n m (beside v m) (is_beside v m) is
