-- Letters of flags, and the words that they stand in.
use Rattle.std.proofs.Common.{ℕ, suc, arith, map, ◌≡◌, ◌+◌, ◌++◌, ◌∷◌, ◌||◌, [], List, Bool, true, false, not, refl, sym, ◌∙◌, ap, ◌<◌, drop, get_or, length, nat_eq, subst, take}
use Rattle.std.specs.List.{list_all}
use Rattle.std.proofs.lemmas.Bool.{and_parts, eqb-false, eqb-true, ne_eqb, not-true, or_parts}
use Rattle.std.proofs.lemmas.List.{at_drop_more, drop-map}
use Rattle.std.proofs.lemmas.List.Folds.{list_any-append}
use Rattle.clap.specs.Words.{Text}
use Rattle.hurd_script.specs.Flags.{is_flag_word}
use Rattle.hurd_script.specs.Settrans.{are_known_once, flag_count, from_node, has_letter, is_known, leading_flags}

-- what holds of the eight letters holds of each that is known
try_letter : (P : ℕ → Type 0) (m l : ℕ) (others : Bool) → P m → (others ≡ true → P l) → (nat_eq m l || others) ≡ true → P l
try_letter P m l others here next h = elim (nat_eq m l) as (λ is. nat_eq m l ≡ is → (is || others) ≡ true → P l) [
  | true ↦ λ e t. subst P (eqb-true m l e) here
  | false ↦ λ e t. next t
] refl h

pub each_letter : (P : ℕ → Type 0) → P 97 → P 112 → P 99 → P 120 → P 103 → P 107 → P 102 → P 111 → (l : ℕ) → is_known l ≡ true → P l
each_letter P a p c x g k f o l =
    try_letter P 97 l _ a (try_letter P 112 l _ p (try_letter P 99 l _ c (try_letter P 120 l _ x
    (try_letter P 103 l _ g (try_letter P 107 l _ k (try_letter P 102 l _ f (try_letter P 111 l _ o (λ e. absurd (cc)))))))))

nat_eq-sym : (m l : ℕ) → nat_eq m l ≡ false → nat_eq l m ≡ false
nat_eq-sym m l h = ne_eqb l m (λ e. eqb-false m l h (sym e))

-- a letter among letters that are known and there once is known, and is none of those in front of it
pub letter_next : (seen ls : List ℕ) (l : ℕ) → are_known_once (seen ++ l ∷ ls) ≡ true → (is_known l ≡ true) × (has_letter seen l ≡ false)
letter_next [] ls l h = ((and_parts (is_known l) _ h).0, refl)
letter_next (m ∷ seen) ls l h =
    let p = and_parts (is_known m) _ h in
    let q = and_parts (not (has_letter (seen ++ l ∷ ls) m)) _ p.1 in
    let r = letter_next seen ls l q.1 in
    let among = sym (list_any-append (λ other. nat_eq other m) seen (l ∷ ls)) ∙ not-true (has_letter (seen ++ l ∷ ls) m) q.0 in
    let behind = or_parts (has_letter seen m) _ among in
    let here = or_parts (nat_eq l m) _ behind.1 in
    (r.0, rw (nat_eq-sym l m here.0, r.1) refl)

-- the front of letters that are known and there once
pub known_front : (xs ys : List ℕ) → are_known_once (xs ++ ys) ≡ true → are_known_once xs ≡ true
known_front [] ys h = refl
known_front (m ∷ xs) ys h =
    let p = and_parts (is_known m) _ h in
    let q = and_parts (not (has_letter (xs ++ ys) m)) _ p.1 in
    let among = sym (list_any-append (λ other. nat_eq other m) xs ys) ∙ not-true (has_letter (xs ++ ys) m) q.0 in
    rw (p.0, (or_parts (has_letter xs m) _ among).0, known_front xs ys q.1) refl

-- a flag word is a hyphen and letters
pub data IsFlag : Text → Type 0 where
  flag : (l : ℕ) (ls : Text) → IsFlag (45 ∷ l ∷ ls)

pub is_flag : (word : Text) → is_flag_word word ≡ true → IsFlag word
is_flag [] h = absurd (cc)
is_flag (b ∷ []) h = let p = and_parts (nat_eq b 45) false h in absurd (cc)
is_flag (b ∷ l ∷ ls) h =
    let e = eqb-true b 45 (and_parts (nat_eq b 45) true h).0 in
    subst (λ (x : ℕ). IsFlag (x ∷ l ∷ ls)) (sym e) (flag l ls)

-- flag words in front, and after them a word that is none
pub record IsFront (ws : List Text) (node : Text) (words : List Text) : Type 0 where
  pub flags : list_all is_flag_word (leading_flags ws) ≡ true
  pub plain : is_flag_word node ≡ false
  pub front : take (flag_count ws + 1) ws ≡ leading_flags ws ++ node ∷ []
  pub behind : drop (flag_count ws + 1) ws ≡ words

flag_counted : (w : Text) (ws : List Text) → is_flag_word w ≡ true → flag_count (w ∷ ws) ≡ suc (flag_count ws)
flag_counted w ws e = let step : flag_count (w ∷ ws) ≡ 1 + flag_count ws = rw e refl in omega (arith, step)

-- one flag more in front of the front
flag_first : (w : Text) (ws : List Text) (node : Text) (words : List Text) → is_flag_word w ≡ true → IsFront ws node words → IsFront (w ∷ ws) node words
flag_first w ws node words e t =
    let count = flag_counted w ws e in
    let more : flag_count (w ∷ ws) + 1 ≡ suc (flag_count ws + 1) = omega (arith, count) in
    record { flags = rw (count, e) t.flags; plain = t.plain; front = rw (more, count) (ap (λ (x : List Text). w ∷ x) t.front); behind = rw more t.behind }

node_first : (w : Text) (ws : List Text) → is_flag_word w ≡ false → IsFront (w ∷ ws) w ws
node_first w ws e = record { flags = rw e refl; plain = e; front = rw e refl; behind = rw e refl }

pub front_of : (ws : List Text) (node : Text) (words : List Text) → from_node ws ≡ node ∷ words → IsFront ws node words
front_of [] node words h = absurd (cc)
front_of (w ∷ ws) node words h = elim (is_flag_word w) as (λ is. is_flag_word w ≡ is → IsFront (w ∷ ws) node words) [
  | true ↦ λ e. flag_first w ws node words e (front_of ws node words (sym (ap (λ n. drop n (w ∷ ws)) (flag_counted w ws e)) ∙ h))
  | false ↦ λ e.
      let count : flag_count (w ∷ ws) ≡ 0 = rw e refl in
      let t : w ∷ ws ≡ node ∷ words = sym (ap (λ n. drop n (w ∷ ws)) count) ∙ h in
      let first : w ≡ node = ap (λ (x : List Text). get_or x 0 w) t in
      let rest : ws ≡ words = ap (drop 1) t in
      subst (λ (x : Text). IsFront (w ∷ ws) x words) first (subst (IsFront (w ∷ ws) w) rest (node_first w ws e))
] refl

-- how many flags are in front, one word on
one_on : {X : Type 0} (text : X → Text) (xs : List X) (i : ℕ) (x : X) → i < length xs → x ≡ get_or xs i x
    → flag_count (drop i (map text xs)) ≡ flag_count (text x ∷ drop (i + 1) (map text xs))
one_on text xs i x within is =
    let step = at_drop_more (λ ys. flag_count (map text ys)) xs i x within in
    rw (drop-map text i xs, drop-map text (i + 1) xs) (step ∙ ap (λ y. flag_count (text y ∷ map text (drop (i + 1) xs))) (sym is))

pub count_flag : {X : Type 0} (text : X → Text) (xs : List X) (i total : ℕ) (x : X) → i < length xs → x ≡ get_or xs i x → true ≡ is_flag_word (text x)
    → i + flag_count (drop i (map text xs)) ≡ total → i + 1 + flag_count (drop (i + 1) (map text xs)) ≡ total
count_flag text xs i total x within is h so_far =
    let step : flag_count (drop i (map text xs)) ≡ 1 + flag_count (drop (i + 1) (map text xs)) = one_on text xs i x within is ∙ rw (sym h) refl in
    omega (arith, step, so_far)

pub count_node : {X : Type 0} (text : X → Text) (xs : List X) (i total : ℕ) (x : X) → i < length xs → x ≡ get_or xs i x → false ≡ is_flag_word (text x)
    → i + flag_count (drop i (map text xs)) ≡ total → i ≡ total
count_node text xs i total x within is h so_far =
    let step : flag_count (drop i (map text xs)) ≡ 0 = one_on text xs i x within is ∙ rw (sym h) refl in
    omega (arith, step, so_far)
