-- Texts that are cut at a byte.
use Rattle.std.proofs.Common.{◌≡◌, ◌≢◌, ◌⊎◌, inl, inr, ◌∙◌, refl, sym, ap, ℕ, ◌==◌, not, Bool, true, true≢false, List, [], ◌∷◌, ◌++◌, map}
use Rattle.std.specs.List.{list_all}
use Rattle.std.proofs.lemmas.Bool.{and_from, and_parts, eq-eqb, not_from_true}
use Rattle.std.proofs.lemmas.List.{append_cancel_left}
use Rattle.std.proofs.lemmas.List.Folds.{list_all-append}
use Rattle.hurd_words.specs.Sentences.{behind, joined}

-- each of a list passes

pub all_first : {A : Type 0} (p : A → Bool) (x : A) (xs : List A) → list_all p (x ∷ xs) ≡ true → p x ≡ true
all_first p x xs all = (and_parts (p x) (list_all p xs) all).0

pub all_rest : {A : Type 0} (p : A → Bool) (x : A) (xs : List A) → list_all p (x ∷ xs) ≡ true → list_all p xs ≡ true
all_rest p x xs all = (and_parts (p x) (list_all p xs) all).1

pub all_both : {A : Type 0} (p : A → Bool) (xs ys : List A) → list_all p xs ≡ true → list_all p ys ≡ true → list_all p (xs ++ ys) ≡ true
all_both p xs ys x y = list_all-append p xs ys ∙ and_from (list_all p xs) (list_all p ys) x y

pub all_weaker : {A : Type 0} (p q : A → Bool) → ((x : A) → p x ≡ true → q x ≡ true) → (xs : List A) → list_all p xs ≡ true → list_all q xs ≡ true
all_weaker p q weaker [] all = refl
all_weaker p q weaker (x ∷ xs) all = and_from (q x) (list_all q xs) (weaker x (all_first p x xs all)) (all_weaker p q weaker xs (all_rest p x xs all))

pub all_mapped : {A B : Type 0} (p : A → Bool) (q : B → Bool) (f : A → B) → ((x : A) → p x ≡ true → q (f x) ≡ true) → (xs : List A) → list_all p xs ≡ true → list_all q (map f xs) ≡ true
all_mapped p q f each [] all = refl
all_mapped p q f each (x ∷ xs) all = and_from (q (f x)) (list_all q (map f xs)) (each x (all_first p x xs all)) (all_mapped p q f each xs (all_rest p x xs all))

-- what differs is told apart

pub first_same : {A : Type 0} (a b : A) (s t : List A) → a ∷ s ≡ b ∷ t → (a ≡ b) × (s ≡ t)
first_same a b s t is = (cc, cc)

-- a byte is another one
abbrev pub is_other : ℕ → ℕ → Bool
is_other d b = not (b == d)

pub other : (d b : ℕ) → is_other d b ≡ true → d ≢ b
other d b is same = true≢false (sym is ∙ not_from_true (b == d) (eq-eqb b d (sym same)))

-- nothing, or a byte and more
abbrev pub Begins : ℕ → List ℕ → Type 0
Begins d r = (r ≡ []) ⊎ ((t : List ℕ) × (r ≡ d ∷ t))

-- what comes before the first such byte
pub cut : (d : ℕ) (x y r s : List ℕ) → list_all (is_other d) x ≡ true → list_all (is_other d) y ≡ true → Begins d r → Begins d s → x ++ r ≡ y ++ s → (x ≡ y) × (r ≡ s)
cut d [] [] r s a b r_begins s_begins is = (refl, is)
cut d [] (c ∷ y) r s a b (inl none) s_begins is = absurd (cc)
cut d [] (c ∷ y) r s a b (inr (t, more)) s_begins is =
    absurd (other d c (all_first (is_other d) c y b) (first_same d c t (y ++ s) (sym more ∙ is)).0)
cut d (c ∷ x) [] r s a b r_begins (inl none) is = absurd (cc)
cut d (c ∷ x) [] r s a b r_begins (inr (t, more)) is =
    absurd (other d c (all_first (is_other d) c x a) (sym (first_same c d (x ++ r) t (is ∙ more)).0))
cut d (c ∷ x) (e ∷ y) r s a b r_begins s_begins is =
    let both = first_same c e (x ++ r) (y ++ s) is in
    let rest = cut d x y r s (all_rest (is_other d) c x a) (all_rest (is_other d) e y b) r_begins s_begins both.1 in
    (ap (λ (z : ℕ). z ∷ x) both.0 ∙ ap (λ (zs : List ℕ). e ∷ zs) rest.0, rest.1)

-- texts with another between them

pub begins_behind : (d : ℕ) (e : List ℕ) (xs : List (List ℕ)) → Begins d (behind (d ∷ e) xs)
begins_behind d e [] = inl refl
begins_behind d e (x ∷ xs) = inr (e ++ (x ++ behind (d ∷ e) xs), refl)

-- texts that lack a byte
abbrev pub lack : ℕ → List (List ℕ) → Bool
lack d xs = list_all (list_all (is_other d)) xs

pub behind_once : (d : ℕ) (e : List ℕ) (xs ys : List (List ℕ)) → lack d xs ≡ true → lack d ys ≡ true → behind (d ∷ e) xs ≡ behind (d ∷ e) ys → xs ≡ ys
behind_once d e [] [] a b is = refl
behind_once d e [] (y ∷ ys) a b is = absurd (cc)
behind_once d e (x ∷ xs) [] a b is = absurd (cc)
behind_once d e (x ∷ xs) (y ∷ ys) a b is =
    let same = append_cancel_left (d ∷ e) (x ++ behind (d ∷ e) xs) (y ++ behind (d ∷ e) ys) is in
    let both =
    cut d x y (behind (d ∷ e) xs) (behind (d ∷ e) ys) (all_first (list_all (is_other d)) x xs a) (all_first (list_all (is_other d)) y ys b)
    (begins_behind d e xs) (begins_behind d e ys) same in
    ap (λ (z : List ℕ). z ∷ xs) both.0
    ∙ ap (λ (zs : List (List ℕ)). y ∷ zs) (behind_once d e xs ys (all_rest (list_all (is_other d)) x xs a) (all_rest (list_all (is_other d)) y ys b) both.1)

pub joined_once : (d : ℕ) (e : List ℕ) (x y : List ℕ) (xs ys : List (List ℕ)) → lack d (x ∷ xs) ≡ true → lack d (y ∷ ys) ≡ true
    → joined (d ∷ e) (x ∷ xs) ≡ joined (d ∷ e) (y ∷ ys) → x ∷ xs ≡ y ∷ ys
joined_once d e x y xs ys a b is =
    let both =
    cut d x y (behind (d ∷ e) xs) (behind (d ∷ e) ys) (all_first (list_all (is_other d)) x xs a) (all_first (list_all (is_other d)) y ys b)
    (begins_behind d e xs) (begins_behind d e ys) is in
    ap (λ (z : List ℕ). z ∷ xs) both.0
    ∙ ap (λ (zs : List (List ℕ)). y ∷ zs) (behind_once d e xs ys (all_rest (list_all (is_other d)) x xs a) (all_rest (list_all (is_other d)) y ys b) both.1)

-- a test of bytes, of texts with another between them

pub all_behind : (q : ℕ → Bool) (between : List ℕ) (xs : List (List ℕ)) → list_all q between ≡ true → list_all (list_all q) xs ≡ true → list_all q (behind between xs) ≡ true
all_behind q between [] b all = refl
all_behind q between (x ∷ xs) b all =
    all_both q between (x ++ behind between xs) b
    (all_both q x (behind between xs) (all_first (list_all q) x xs all) (all_behind q between xs b (all_rest (list_all q) x xs all)))

pub all_joined : (q : ℕ → Bool) (between : List ℕ) (xs : List (List ℕ)) → list_all q between ≡ true → list_all (list_all q) xs ≡ true → list_all q (joined between xs) ≡ true
all_joined q between [] b all = refl
all_joined q between (x ∷ xs) b all = all_both q x (behind between xs) (all_first (list_all q) x xs all) (all_behind q between xs b (all_rest (list_all q) x xs all))

-- a list of which each thing has its text

pub map_once : {A B : Type 0} (test : A → Bool) (f : A → B) → ((x y : A) → test x ≡ true → test y ≡ true → f x ≡ f y → x ≡ y)
    → (xs ys : List A) → list_all test xs ≡ true → list_all test ys ≡ true → map f xs ≡ map f ys → xs ≡ ys
map_once test f once [] [] a b is = refl
map_once test f once [] (y ∷ ys) a b is = absurd (cc)
map_once test f once (x ∷ xs) [] a b is = absurd (cc)
map_once test f once (x ∷ xs) (y ∷ ys) a b is =
    let both = first_same (f x) (f y) (map f xs) (map f ys) is in
    ap (λ z. z ∷ xs) (once x y (all_first test x xs a) (all_first test y ys b) both.0)
    ∙ ap (λ zs. y ∷ zs) (map_once test f once xs ys (all_rest test x xs a) (all_rest test y ys b) both.1)
