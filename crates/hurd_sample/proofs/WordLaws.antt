-- Words as a sample writes them are good words of a script.
use Rattle.std.proofs.Common.{ℕ, ◌≡◌, ◌<◌, ◌+◌, ◌++◌, ◌∷◌, ◌==◌, ◌&&◌, ◌||◌, [], if◌then◌else◌, List, Option, Some, None, Bool, true, false, not, refl, sym, ◌∙◌, ap, append_assoc, append-nil, drop, get_or, is_none, length, map, nat_eq, nat_le, option_map}
use Rattle.std.specs.List.{All, list_any}
use Rattle.std.proofs.lemmas.Bool.{ne_eqb, or_parts}
use Rattle.std.proofs.lemmas.List.{at_drop_more}
use Rattle.std.proofs.lemmas.List.Elements.{All-cons, All-nil}
use Rattle.std.proofs.lemmas.List.Folds.{list_any-append}
use Rattle.hurd_words.specs.Words.{has_hidden_byte, is_bad_word, is_hidden, onto, text_after, text_of}
use Rattle.hurd_sample.specs.Written.{spaced, written, written_byte}

-- what may stand in a word, whatever follows it
pub record IsGoodPart (part : List ℕ) : Type 0 where
  pub visible : has_hidden_byte part ≡ false
  pub spelled : (rest : List ℕ) → is_none (text_after false rest) ≡ false → is_none (text_after false (part ++ rest)) ≡ false

both_false : (a b : Bool) → a ≡ false → b ≡ false → (a || b) ≡ false
both_false a b e f = rw (e, f) refl

nothing_good : IsGoodPart []
nothing_good = record { visible = refl; spelled = λ rest h. h }

append_good : (x y : List ℕ) → IsGoodPart x → IsGoodPart y → IsGoodPart (x ++ y)
append_good x y p q = record {
  visible = list_any-append is_hidden x y ∙ both_false _ _ p.visible q.visible;
  spelled = λ rest h. rw (append_assoc x y rest) (p.spelled (y ++ rest) (q.spelled rest h));
}

mapped : {X Y : Type 0} (f : X → Y) (o : Option X) → is_none (option_map f o) ≡ is_none o
mapped f None = refl
mapped f (Some x) = refl

-- one byte that is put in front
onto_one : (b : ℕ) (o : Option (List ℕ)) → is_none o ≡ false → is_none (onto (Some b) o) ≡ false
onto_one b o h = mapped (λ (ns : List ℕ). b ∷ ns) o ∙ h

space_good : IsGoodPart (92 ∷ 115 ∷ [])
unfolding text_after
space_good = record { visible = refl; spelled = λ rest h. onto_one 32 (text_after false rest) h }

newline_good : IsGoodPart (92 ∷ 110 ∷ [])
unfolding text_after
newline_good = record { visible = refl; spelled = λ rest h. onto_one 10 (text_after false rest) h }

backslash_good : IsGoodPart (92 ∷ 92 ∷ [])
unfolding text_after
backslash_good = record { visible = refl; spelled = λ rest h. onto_one 92 (text_after false rest) h }

mark_good : IsGoodPart (63 ∷ [])
unfolding text_after
mark_good = record { visible = refl; spelled = λ rest h. onto_one 63 (text_after false rest) h }

plain_good : (b : ℕ) → nat_eq b 92 ≡ false → (nat_le 33 b && nat_le b 126) ≡ true → IsGoodPart (b ∷ [])
unfolding text_after
plain_good b n v = record { visible = rw v refl; spelled = λ rest h. rw n (onto_one b (text_after false rest) h) }

-- what holds of each way to write a byte holds of the one that is chosen
chosen : (P : List ℕ → Type 0) (is_space is_newline is_backslash is_visible : Bool) (b : ℕ) → P (92 ∷ 115 ∷ []) → P (92 ∷ 110 ∷ []) → P (92 ∷ 92 ∷ [])
    → (is_backslash ≡ false → is_visible ≡ true → P (b ∷ [])) → P (63 ∷ [])
    → P (if is_space then 92 ∷ 115 ∷ [] else if is_newline then 92 ∷ 110 ∷ [] else if is_backslash then 92 ∷ 92 ∷ [] else if is_visible then b ∷ [] else 63 ∷ [])
chosen P true newline backslash visible b s n k v q = s
chosen P false true backslash visible b s n k v q = n
chosen P false false true visible b s n k v q = k
chosen P false false false true b s n k v q = v refl refl
chosen P false false false false b s n k v q = q

byte_good : (b : ℕ) → IsGoodPart (written_byte b)
byte_good b =
    chosen IsGoodPart (b == 32) (b == 10) (b == 92) (nat_le 33 b && nat_le b 126) b space_good newline_good backslash_good (plain_good b) mark_good

pub written_good : (word : List ℕ) → IsGoodPart (written word)
written_good [] = nothing_good
written_good (b ∷ bs) = append_good (written_byte b) (written bs) (byte_good b) (written_good bs)

good_word : (w : List ℕ) → IsGoodPart w → is_bad_word text_of w ≡ false
unfolding text_after
good_word w p = both_false _ _ p.visible (let e = p.spelled [] refl in rw (append-nil w) at e)

pub written_word_good : (word : List ℕ) → is_bad_word text_of (written word) ≡ false
written_word_good word = good_word (written word) (written_good word)

-- a byte that no word has is in no visible word
pub not_hidden : (c : ℕ) → is_hidden c ≡ true → (w : List ℕ) → has_hidden_byte w ≡ false → All (λ b. nat_eq b c ≡ false) w
not_hidden c h [] v = All-nil (λ b. nat_eq b c ≡ false)
not_hidden c h (b ∷ bs) v =
    let p = or_parts (is_hidden b) (has_hidden_byte bs) v in
    All-cons (λ x. nat_eq x c ≡ false) b bs (ne_eqb b c (λ e. let clash : true ≡ false = sym h ∙ (ap is_hidden (sym e) ∙ p.0) in absurd (cc))) (not_hidden c h bs p.1)

-- one word more was written
pub spaced_more : {X : Type 0} (view : X → List ℕ) (xs : List X) (i : ℕ) (x : X) (before after all : List ℕ) → i < length xs → x ≡ get_or xs i x
    → before ++ spaced (map view (drop i xs)) ≡ all → after ≡ (before ++ 32 ∷ []) ++ written (view x) → after ++ spaced (map view (drop (i + 1) xs)) ≡ all
spaced_more {X} view xs i x before after all within is so_far e =
    let rest = spaced (map view (drop (i + 1) xs)) in
    let step = at_drop_more (λ (ys : List X). spaced (map view ys)) xs i x within ∙ ap (λ (y : X). spaced (map view (y ∷ drop (i + 1) xs))) (sym is) in
    ap (λ (t : List ℕ). t ++ rest) e
    ∙ (append_assoc (before ++ 32 ∷ []) (written (view x)) rest
    ∙ (append_assoc before (32 ∷ []) (written (view x) ++ rest) ∙ (ap (λ (t : List ℕ). before ++ t) (sym step) ∙ so_far)))
