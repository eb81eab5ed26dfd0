-- What is paired is of one sort, and each is the other's mate.
use Rattle.std.proofs.Common.{◌≡◌, ◌∙◌, refl, sym, ap, subst, ℕ, Bool, true, false, true≢false, List, [], ◌∷◌, ◌++◌, Some, None, if◌then◌else◌, codes, is_some, arith}
use Rattle.std.specs.Prelude.{Option, bytes_eq}
use Rattle.std.specs.Map.{lookup}
use Rattle.std.proofs.lemmas.Slice.Eq.{bytes_eq-Decides}
use Rattle.hurd_creds.specs.declared.name.Name.{Name}
use Rattle.hurd_creds.specs.Names.{is_one, same_name}
use Rattle.hurd_creds.proofs.NameLaws.{equal_if_same, same_name-itself}
use Rattle.hurd_views.specs.Views.{row_at}
use Rattle.hurd_views.specs.declared.rows.Row.{Row}
use Rattle.hurd_views.specs.declared.view.View.{View}
use Rattle.hurd_lessons.specs.Beside.{MatesAreMutual, key_of, mate_by, mate_of, sort_of, thing_at, told_by, with_key, with_thing, with_things}
use Rattle.hurd_lessons.specs.Changes.{shows}
use Rattle.hurd_lessons.specs.Values.{names_of}

-- each of these names has its key
abbrev HaveKeys : View → List (List ℕ × Name) → Type 0
HaveKeys v [] = Unit {0}
HaveKeys v (e ∷ es) = (e.0 ≡ key_of v e.1) × HaveKeys v es

one_more : (v : View) (es : List (List ℕ × Name)) (n : Name) → HaveKeys v es → HaveKeys v (es ++ (key_of v n, n) ∷ [])
one_more v [] n have = (refl, tt)
one_more v (e ∷ es) n have = (have.0, one_more v es n have.1)

thing_has : (v : View) (es : List (List ℕ × Name)) (n : Name) → HaveKeys v es → HaveKeys v (with_thing v es n)
thing_has v es n have = go (shows (row_at v.rows n)) (is_some (lookup (bytes_eq (key_of v n)) es))
  where
    go : (t u : Bool) → HaveKeys v (if t then (if u then es else es ++ (key_of v n, n) ∷ []) else es)
    go false u = have
    go true true = have
    go true false = one_more v es n have

things_have : (v : View) (es : List (List ℕ × Name)) (ns : List Name) → HaveKeys v es → HaveKeys v (with_things v es ns)
things_have v es [] have = have
things_have v es (n ∷ ns) have = things_have v (with_thing v es n) ns (thing_has v es n have)

-- what is found by a key has it
found_has : (v : View) (es : List (List ℕ × Name)) (k : List ℕ) (n : Name) → HaveKeys v es → lookup (bytes_eq k) es ≡ Some n → k ≡ key_of v n
found_has v [] k n have is = absurd (cc)
found_has v (e ∷ es) k n have is = go (bytes_eq k e.0) refl is (found_has v es k n have.1)
  where
    inside : (x y : Name) → Some x ≡ Some y → x ≡ y
    inside x y eq = cc

    go : (t : Bool) → bytes_eq k e.0 ≡ t → (if t then Some e.1 else lookup (bytes_eq k) es) ≡ Some n → (lookup (bytes_eq k) es ≡ Some n → k ≡ key_of v n) → k ≡ key_of v n
    go true same at later = (bytes_eq-Decides k e.0).0 same ∙ (have.0 ∙ ap (key_of v) (inside e.1 n at))
    go false other at later = later at

thing_has_key : (v : View) (k : List ℕ) (n : Name) → thing_at v k ≡ Some n → k ≡ key_of v n
thing_has_key v k n = found_has v (with_things v [] (names_of v)) k n (things_have v [] (names_of v) tt)

-- sorts differ at their first byte
abbrev word : Bool → Bool → List ℕ
word a o = if a then codes "node" else if o then codes "open" else codes "server"

first_byte : (x y : ℕ) (s t : List ℕ) → x ∷ s ≡ y ∷ t → x ≡ y
first_byte x y s t is = cc

one_word : (a o b p : Bool) (s t : List ℕ) → word a o ++ s ≡ word b p ++ t → word a o ≡ word b p
one_word true o true p s t is = refl
one_word true o false true s t is = absurd (omega (arith, first_byte 110 111 _ _ is))
one_word true o false false s t is = absurd (omega (arith, first_byte 110 115 _ _ is))
one_word false true true p s t is = absurd (omega (arith, first_byte 111 110 _ _ is))
one_word false true false true s t is = refl
one_word false true false false s t is = absurd (omega (arith, first_byte 111 115 _ _ is))
one_word false false true p s t is = absurd (omega (arith, first_byte 115 110 _ _ is))
one_word false false false true s t is = absurd (omega (arith, first_byte 115 111 _ _ is))
one_word false false false false s t is = refl

one_sort : (x y : Row) (s t : List ℕ) → sort_of x ++ s ≡ sort_of y ++ t → sort_of x ≡ sort_of y
one_sort x y = one_word (is_some x.attributes) (is_some x.opened) (is_some y.attributes) (is_some y.opened)

-- a name that is one is there
is_there : (n : Name) (o : Option Name) → is_one n o ≡ true → o ≡ Some n
is_there n None is = absurd (true≢false (sym is))
is_there n (Some m) is = ap (λ (x : Name). Some x) (sym (equal_if_same n m is))

both_found : (v w : View) (n m : Name) (k : List ℕ) → mate_by v w n k ≡ Some m → (thing_at v k ≡ Some n) × (thing_at w k ≡ Some m)
both_found v w n m k is = go (is_one n (thing_at v k)) refl is
  where
    go : (t : Bool) → is_one n (thing_at v k) ≡ t → (if t then thing_at w k else None) ≡ Some m → (thing_at v k ≡ Some n) × (thing_at w k ≡ Some m)
    go true one at = (is_there n (thing_at v k) one, at)
    go false other at = absurd (cc)

mate_back : (v w : View) (n m : Name) (k : List ℕ) → thing_at v k ≡ Some n → thing_at w k ≡ Some m → mate_by w v m k ≡ Some n
mate_back v w n m k here there = ap (λ (o : Option Name). if is_one m o then thing_at v k else None) there ∙ (ap (λ (t : Bool). if t then thing_at v k else None) (same_name-itself m) ∙ here)

pub mates_are_mutual : MatesAreMutual
mates_are_mutual v w n m is =
    let both = both_found v w n m (key_of v n) is in
    let key : key_of v n ≡ key_of w m = thing_has_key w (key_of v n) m both.1 in (
      subst (λ (k : List ℕ). mate_by w v m k ≡ Some n) key (mate_back v w n m (key_of v n) both.0 both.1),
      one_sort (row_at v.rows n) (row_at w.rows m) (told_by v n (row_at v.rows n)) (told_by w m (row_at w.rows m)) key,
    )
