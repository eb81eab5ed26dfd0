-- An answer that is printed with marks is read in one way.
use Rattle.std.proofs.Common.{◌≡◌, ◌≢◌, ◌⊎◌, inl, inr, ◌∙◌, refl, sym, ap, ℕ, ◌≤◌, ◌<◌, ◌==◌, Bool, true, false, true≢false, List, [], ◌∷◌, ◌++◌, append_assoc, codes, arith, if◌then◌else◌}
use Rattle.std.specs.List.{list_all}
use Rattle.std.proofs.lemmas.Bool.{and_from, cases_Bool, eq-eqb, eqb-true, not_from_false}
use Rattle.std.proofs.lemmas.List.{append_cancel_left}
use Rattle.hurd_creds.specs.Errors.{name_of}
use Rattle.hurd_creds.specs.declared.errno.Errno.{Errno}
use Rattle.hurd_words.specs.Answers.{as_lines}
use Rattle.hurd_words.specs.Marks.{AreReadAlike, ReadsAlike, marked, marked_content, marked_ending, marked_from, marked_names, spread, spread_byte, spread_bytes}
use Rattle.hurd_words.specs.declared.answers.Answer.{Answer}
use Rattle.hurd_words.specs.declared.answers.Content.{Content}
use Rattle.hurd_words.specs.declared.answers.Content.TheVariants.{Text, Names}
use Rattle.hurd_words.specs.declared.answers.Ending.{Ending}
use Rattle.hurd_words.specs.declared.answers.Ending.TheVariants.{Done, Refused, Usage}
use Rattle.hurd_words.proofs.Bytes.{cut, first_same, is_other}
use Rattle.hurd_words.proofs.ErrorNames.{error_begins, error_line, error_once}
use Rattle.hurd_words.proofs.MarkLaws.{mark, mark_more, mark_none}

-- a text begins with a byte up to k
pub record BeginsBelow (k : ℕ) (r : List ℕ) : Type 0 where
  pub first : ℕ
  pub rest : List ℕ
  pub low : first ≤ k
  pub is : r ≡ first ∷ rest

-- sentences and empty lines are quiet; what comes after what was put out is quiet, or begins with an exclamation mark
abbrev pub IsQuiet : List ℕ → Type 0
IsQuiet r = BeginsBelow 32 r

abbrev pub IsAfter : List ℕ → Type 0
IsAfter r = BeginsBelow 33 r

loud : (k b : ℕ) (t r : List ℕ) → k < b → BeginsBelow k r → r ≢ b ∷ t
loud k b t r high below is = let same = (first_same below.first b below.rest t (sym below.is ∙ is)).0 in let low = below.low in omega (arith, same, low, high)

-- a text without a colon at its beginning
abbrev NoColon : List ℕ → Type 0
NoColon r = (t : List ℕ) → r ≢ 58 ∷ t

-- NAMES

spread_more : (b : ℕ) (bs r : List ℕ) → spread (b ∷ bs) ++ r ≡ spread_byte b ++ (spread bs ++ r)
spread_more b bs r =
    append_assoc (spread_byte b ++ spread_bytes bs) (10 ∷ []) r
    ∙ (append_assoc (spread_byte b) (spread_bytes bs) (10 ∷ r) ∙ ap (λ (t : List ℕ). spread_byte b ++ t) (sym (append_assoc (spread_bytes bs) (10 ∷ []) r)))

spread_newline : (b : ℕ) (bs r : List ℕ) → (b == 10) ≡ true → spread (b ∷ bs) ++ r ≡ 10 ∷ 58 ∷ 32 ∷ (spread bs ++ r)
spread_newline b bs r newline = spread_more b bs r ∙ ap (λ (t : Bool). (if t then codes "\n: " else b ∷ []) ++ (spread bs ++ r)) newline

spread_plain : (b : ℕ) (bs r : List ℕ) → (b == 10) ≡ false → spread (b ∷ bs) ++ r ≡ b ∷ (spread bs ++ r)
spread_plain b bs r plain = spread_more b bs r ∙ ap (λ (t : Bool). (if t then codes "\n: " else b ∷ []) ++ (spread bs ++ r)) plain

no_newline : (b : ℕ) → (b == 10) ≡ false → 10 ≡ b → ⊥
no_newline b plain same = true≢false (sym (eq-eqb b 10 (sym same)) ∙ plain)

-- a name that ends does not go on
ended : (c : ℕ) (q r s : List ℕ) → NoColon r → 10 ∷ r ≡ spread (c ∷ q) ++ s → ⊥
ended c q r s none is = elim (cases_Bool (c == 10)) [
  | inl newline ↦ none _ (first_same 10 10 r _ (is ∙ spread_newline c q s newline)).1
  | inr plain ↦ no_newline c plain (first_same 10 c r _ (is ∙ spread_plain c q s plain)).0
]

-- two names that begin with a byte each, where what is left of them is read in one way
heads_once : (b c : ℕ) (p q r s : List ℕ) → (spread p ++ r ≡ spread q ++ s → (p ≡ q) × (r ≡ s)) → spread (b ∷ p) ++ r ≡ spread (c ∷ q) ++ s → (b ∷ p ≡ c ∷ q) × (r ≡ s)
heads_once b c p q r s rest is = go (cases_Bool (b == 10)) (cases_Bool (c == 10))
  where
    more : b ≡ c → spread p ++ r ≡ spread q ++ s → (b ∷ p ≡ c ∷ q) × (r ≡ s)
    more same e = let both = rest e in (ap (λ (d : ℕ). d ∷ p) same ∙ ap (λ (t : List ℕ). c ∷ t) both.0, both.1)

    go : ((b == 10) ≡ true) ⊎ ((b == 10) ≡ false) → ((c == 10) ≡ true) ⊎ ((c == 10) ≡ false) → (b ∷ p ≡ c ∷ q) × (r ≡ s)
    go (inl i) (inl j) =
        more (eqb-true b 10 i ∙ sym (eqb-true c 10 j))
        (append_cancel_left (codes "\n: ") (spread p ++ r) (spread q ++ s) (sym (spread_newline b p r i) ∙ (is ∙ spread_newline c q s j)))
    go (inl i) (inr j) = absurd (no_newline c j (first_same 10 c _ _ (sym (spread_newline b p r i) ∙ (is ∙ spread_plain c q s j))).0)
    go (inr i) (inl j) = absurd (no_newline b i (sym (first_same b 10 _ _ (sym (spread_plain b p r i) ∙ (is ∙ spread_newline c q s j))).0))
    go (inr i) (inr j) = let both = first_same b c _ _ (sym (spread_plain b p r i) ∙ (is ∙ spread_plain c q s j)) in more both.0 both.1

spread_once : (p q r s : List ℕ) → NoColon r → NoColon s → spread p ++ r ≡ spread q ++ s → (p ≡ q) × (r ≡ s)
spread_once [] [] r s x y is = (refl, (first_same 10 10 r s is).1)
spread_once [] (c ∷ q) r s x y is = absurd (ended c q r s x is)
spread_once (b ∷ p) [] r s x y is = absurd (ended b p s r y (sym is))
spread_once (b ∷ p) (c ∷ q) r s x y is = heads_once b c p q r s (spread_once p q r s x y) is

-- a name has a first line, and more comes after it
pub first_line : (p r : List ℕ) (d : ℕ) (t : List ℕ) → r ≡ d ∷ t → (l : List ℕ) × (c : ℕ) × (m : List ℕ) × (list_all (is_other 10) l ≡ true) × (spread p ++ r ≡ l ++ 10 ∷ c ∷ m)
first_line [] r d t is = ([], d, t, refl, ap (λ (x : List ℕ). 10 ∷ x) is)
first_line (b ∷ p) r d t is = elim (cases_Bool (b == 10)) [
  | inl newline ↦ ([], 58, 32 ∷ (spread p ++ r), refl, spread_newline b p r newline)
  | inr plain ↦
      let rest = first_line p r d t is in (
        b ∷ rest.0,
        rest.1,
        rest.2,
        and_from (is_other 10 b) (list_all (is_other 10) rest.0) (not_from_false (b == 10) plain) rest.3,
        spread_plain b p r plain ∙ ap (λ (x : List ℕ). b ∷ x) rest.4,
      )
]

names_more : (n : List ℕ) (ns : List (List ℕ)) (r : List ℕ) → marked_names (n ∷ ns) ++ r ≡ codes "| " ++ (spread n ++ (marked_names ns ++ r))
names_more n ns r =
    append_assoc (codes "| ") (spread n ++ marked_names ns) r ∙ ap (λ (t : List ℕ). codes "| " ++ t) (append_assoc (spread n) (marked_names ns) r)

names_clear : (ns : List (List ℕ)) (r : List ℕ) → IsAfter r → NoColon (marked_names ns ++ r)
names_clear [] r after t is = loud 33 58 t r (omega arith) after is
names_clear (n ∷ ns) r after t is = let bar = (first_same 124 58 _ _ (sym (names_more n ns r) ∙ is)).0 in omega (arith, bar)

names_once : (ms ns : List (List ℕ)) (r s : List ℕ) → IsAfter r → IsAfter s → marked_names ms ++ r ≡ marked_names ns ++ s → (ms ≡ ns) × (r ≡ s)
names_once [] [] r s x y is = (refl, is)
names_once [] (n ∷ ns) r s x y is = absurd (loud 33 124 _ r (omega arith) x (is ∙ names_more n ns s))
names_once (m ∷ ms) [] r s x y is = absurd (loud 33 124 _ s (omega arith) y (sym is ∙ names_more m ms r))
names_once (m ∷ ms) (n ∷ ns) r s x y is =
    let same = append_cancel_left (codes "| ") (spread m ++ (marked_names ms ++ r)) (spread n ++ (marked_names ns ++ s)) (sym (names_more m ms r) ∙ (is ∙ names_more n ns s)) in
    let both = spread_once m n (marked_names ms ++ r) (marked_names ns ++ s) (names_clear ms r x) (names_clear ns s y) same in
    let rest = names_once ms ns r s x y both.1 in
    (ap (λ (z : List ℕ). z ∷ ms) both.0 ∙ ap (λ (zs : List (List ℕ)). n ∷ zs) rest.0, rest.1)

-- TEXTS

text_more : (due : Bool) (b : ℕ) (bs r : List ℕ) → marked_from due (b ∷ bs) ++ r ≡ mark due ++ b ∷ (marked_from (b == 10) bs ++ r)
text_more due b bs r = ap (λ (z : List ℕ). z ++ r) (mark_more due b bs) ∙ append_assoc (mark due) (b ∷ marked_from (b == 10) bs) r

text_unended : (r : List ℕ) → marked_from false [] ++ r ≡ 10 ∷ 92 ∷ (codes " no newline\n" ++ r)
text_unended r = ap (λ (t : List ℕ). t ++ r) (mark_none false)

text_ended : (r : List ℕ) → marked_from true [] ++ r ≡ r
text_ended r = ap (λ (t : List ℕ). t ++ r) (mark_none true)

-- where a line begins, a text goes on with a bar or ends
line_begins : (b : ℕ) (t q r : List ℕ) → b ≢ 124 → 33 < b → IsAfter r → marked_from true q ++ r ≡ b ∷ t → ⊥
line_begins b t [] r other high after is = loud 33 b t r high after (sym (text_ended r) ∙ is)
line_begins b t (c ∷ q) r other high after is = other (sym (first_same 124 b _ _ (sym (text_more true c q r) ∙ is)).0)

-- a byte of a text is none of what comes after the text
not_ended : (due : Bool) (c : ℕ) (q r s : List ℕ) → IsAfter r → IsAfter s → marked_from due [] ++ r ≢ marked_from due (c ∷ q) ++ s
not_ended true c q r s x y is = loud 33 124 _ r (omega arith) x (sym (text_ended r) ∙ (is ∙ text_more true c q s))
not_ended false c q r s x y is =
    let both = first_same 10 c _ _ (sym (text_unended r) ∙ (is ∙ text_more false c q s)) in
    line_begins 92 _ q s (λ e. omega (arith, e)) (omega arith) y
    (ap (λ (t : Bool). marked_from t q ++ s) (sym (eq-eqb c 10 (sym both.0))) ∙ sym both.1)

text_once : (due : Bool) (p q r s : List ℕ) → IsAfter r → IsAfter s → marked_from due p ++ r ≡ marked_from due q ++ s → (p ≡ q) × (r ≡ s)
text_once due [] [] r s x y is = (refl, append_cancel_left (marked_from due []) r s is)
text_once due [] (c ∷ q) r s x y is = absurd (not_ended due c q r s x y is)
text_once due (b ∷ p) [] r s x y is = absurd (not_ended due b p s r y x (sym is))
text_once due (b ∷ p) (c ∷ q) r s x y is =
    let same = append_cancel_left (mark due) (b ∷ (marked_from (b == 10) p ++ r)) (c ∷ (marked_from (c == 10) q ++ s)) (sym (text_more due b p r) ∙ (is ∙ text_more due c q s)) in
    let both = first_same b c (marked_from (b == 10) p ++ r) (marked_from (c == 10) q ++ s) same in
    let rest = text_once (c == 10) p q r s x y (ap (λ (d : ℕ). marked_from (d == 10) p ++ r) (sym both.0) ∙ both.1) in
    (ap (λ (d : ℕ). d ∷ p) both.0 ∙ ap (λ (t : List ℕ). c ∷ t) rest.0, rest.1)

-- A TEXT AND NAMES

-- a line of a text, and a name
abbrev LineIsName : List ℕ → List ℕ → List (List ℕ) → List ℕ → List ℕ → Type 0
LineIsName s n ns r q = (s ≡ n ++ 10 ∷ as_lines ns) × (r ≡ q)

none_as_name : (n : List ℕ) (ns : List (List ℕ)) (r q : List ℕ) → IsAfter q → marked_from false [] ++ r ≡ spread n ++ (marked_names ns ++ q) → ⊥
none_as_name [] [] r q y is = loud 33 92 _ q (omega arith) y (sym (first_same 10 10 _ _ (sym (text_unended r) ∙ is)).1)
none_as_name [] (m ∷ ms) r q y is =
    let bar = (first_same 92 124 _ _ ((first_same 10 10 _ _ (sym (text_unended r) ∙ is)).1 ∙ names_more m ms q)).0 in omega (arith, bar)
none_as_name (c ∷ n) ns r q y is = elim (cases_Bool (c == 10)) [
  | inl newline ↦ let colon = (first_same 92 58 _ _ (first_same 10 10 _ _ (sym (text_unended r) ∙ (is ∙ spread_newline c n (marked_names ns ++ q) newline))).1).0 in omega (arith, colon)
  | inr plain ↦ no_newline c plain (first_same 10 c _ _ (sym (text_unended r) ∙ (is ∙ spread_plain c n (marked_names ns ++ q) plain))).0
]

-- where the name ends, the line does
name_ended : (b : ℕ) (s : List ℕ) (ns : List (List ℕ)) (r q : List ℕ) → marked_from false (b ∷ s) ++ r ≡ spread [] ++ (marked_names ns ++ q) → (b ≡ 10) × (marked_from true s ++ r ≡ marked_names ns ++ q)
name_ended b s ns r q is =
    let both = first_same b 10 _ _ (sym (text_more false b s r) ∙ is) in
    (both.0, ap (λ (t : Bool). marked_from t s ++ r) (sym (eq-eqb b 10 both.0)) ∙ both.1)

last_as_name : (b : ℕ) (ns : List (List ℕ)) (r q : List ℕ) → IsAfter r → (b ≡ 10) × (marked_from true [] ++ r ≡ marked_names ns ++ q) → LineIsName (b ∷ []) [] ns r q
last_as_name b [] r q x (same, e) = (ap (λ (d : ℕ). d ∷ []) same, sym (text_ended r) ∙ e)
last_as_name b (m ∷ ms) r q x (same, e) = absurd (loud 33 124 _ r (omega arith) x (sym (text_ended r) ∙ (e ∙ names_more m ms q)))

-- the next line of the text, and the next name
next_as_name : (c : ℕ) (t m : List ℕ) (ms : List (List ℕ)) (r q : List ℕ) → marked_from true (c ∷ t) ++ r ≡ marked_names (m ∷ ms) ++ q
    → marked_from false (c ∷ t) ++ r ≡ spread m ++ (marked_names ms ++ q)
next_as_name c t m ms r q e =
    text_more false c t r
    ∙ append_cancel_left (codes "| ") (c ∷ (marked_from (c == 10) t ++ r)) (spread m ++ (marked_names ms ++ q)) (sym (text_more true c t r) ∙ (e ∙ names_more m ms q))

line_as_name : (s n : List ℕ) (ns : List (List ℕ)) (r q : List ℕ) → IsAfter r → IsAfter q → marked_from false s ++ r ≡ spread n ++ (marked_names ns ++ q) → LineIsName s n ns r q
line_as_name [] n ns r q x y is = absurd (none_as_name n ns r q y is)
line_as_name (b ∷ []) [] ns r q x y is = last_as_name b ns r q x (name_ended b [] ns r q is)
line_as_name (b ∷ c ∷ t) [] [] r q x y is = absurd (loud 33 124 _ q (omega arith) y (sym (name_ended b (c ∷ t) [] r q is).1 ∙ text_more true c t r))
line_as_name (b ∷ c ∷ t) [] (m ∷ ms) r q x y is =
    let both = name_ended b (c ∷ t) (m ∷ ms) r q is in
    let rest = line_as_name (c ∷ t) m ms r q x y (next_as_name c t m ms r q both.1) in
    (ap (λ (d : ℕ). d ∷ c ∷ t) both.0 ∙ ap (λ (u : List ℕ). 10 ∷ u) rest.0, rest.1)
line_as_name (b ∷ s) (d ∷ n) ns r q x y is = elim (cases_Bool (d == 10)) [
  | inl newline ↦
      let both = first_same b 10 _ _ (sym (text_more false b s r) ∙ (is ∙ spread_newline d n (marked_names ns ++ q) newline)) in
      absurd (line_begins 58 _ s r (λ e. omega (arith, e)) (omega arith) x (ap (λ (t : Bool). marked_from t s ++ r) (sym (eq-eqb b 10 both.0)) ∙ both.1))
  | inr plain ↦
      let both = first_same b d _ _ (sym (text_more false b s r) ∙ (is ∙ spread_plain d n (marked_names ns ++ q) plain)) in
      let rest = line_as_name s n ns r q x y (ap (λ (t : Bool). marked_from t s ++ r) (sym (ap (λ (c : ℕ). c == 10) both.0 ∙ plain)) ∙ both.1) in
      (ap (λ (c : ℕ). c ∷ s) both.0 ∙ ap (λ (t : List ℕ). d ∷ t) rest.0, rest.1)
]

text_as_names : (s : List ℕ) (ns : List (List ℕ)) (r q : List ℕ) → IsAfter r → IsAfter q → marked_from true s ++ r ≡ marked_names ns ++ q → (s ≡ as_lines ns) × (r ≡ q)
text_as_names [] [] r q x y is = (refl, sym (text_ended r) ∙ is)
text_as_names [] (m ∷ ms) r q x y is = absurd (loud 33 124 _ r (omega arith) x (sym (text_ended r) ∙ (is ∙ names_more m ms q)))
text_as_names (c ∷ t) [] r q x y is = absurd (loud 33 124 _ q (omega arith) y (sym is ∙ text_more true c t r))
text_as_names (c ∷ t) (m ∷ ms) r q x y is = line_as_name (c ∷ t) m ms r q x y (next_as_name c t m ms r q is)

-- CONTENTS, ENDINGS, ANSWERS

content_once : (a b : Content) (r s : List ℕ) → IsAfter r → IsAfter s → marked_content a ++ r ≡ marked_content b ++ s → ReadsAlike a b × (r ≡ s)
content_once (Text p) (Text q) r s x y is = text_once true p q r s x y is
content_once (Names ms) (Names ns) r s x y is = names_once ms ns r s x y is
content_once (Text p) (Names ns) r s x y is = text_as_names p ns r s x y is
content_once (Names ms) (Text q) r s x y is = let both = text_as_names q ms s r y x (sym is) in (sym both.0, sym both.1)

refused_laid : (e r : List ℕ) → (codes "! " ++ (e ++ 10 ∷ [])) ++ r ≡ codes "! " ++ (e ++ 10 ∷ r)
refused_laid e r = append_assoc (codes "! ") (e ++ 10 ∷ []) r ∙ ap (λ (t : List ℕ). codes "! " ++ t) (append_assoc e (10 ∷ []) r)

-- no error is called `usage`
not_usage : (e : Errno) (r s : List ℕ) → codes "! " ++ (name_of e ++ 10 ∷ r) ≡ codes "! usage\n" ++ s → ⊥
not_usage e r s is =
    let begins = error_begins e in
    let same = append_cancel_left (codes "! ") (name_of e ++ 10 ∷ r) (codes "usage\n" ++ s) is in
    let letter = (first_same 69 117 _ _ (ap (λ (t : List ℕ). t ++ 10 ∷ r) (sym begins.1) ∙ same)).0 in omega (arith, letter)

ending_once : (e f : Ending) (r s : List ℕ) → IsQuiet r → IsQuiet s → marked_ending e ++ r ≡ marked_ending f ++ s → (e ≡ f) × (r ≡ s)
ending_once Done Done r s x y is = (refl, is)
ending_once Usage Usage r s x y is = (refl, append_cancel_left (codes "! usage\n") r s is)
ending_once (Refused e) (Refused f) r s x y is =
    let same = append_cancel_left (codes "! ") (name_of e ++ 10 ∷ r) (name_of f ++ 10 ∷ s) (sym (refused_laid (name_of e) r) ∙ (is ∙ refused_laid (name_of f) s)) in
    let both = cut 10 (name_of e) (name_of f) (10 ∷ r) (10 ∷ s) (error_line e) (error_line f) (inr (r, refl)) (inr (s, refl)) same in
    (ap Refused (error_once e f both.0), (first_same 10 10 r s both.1).1)
ending_once Done Usage r s x y is = absurd (loud 32 33 _ r (omega arith) x is)
ending_once Usage Done r s x y is = absurd (loud 32 33 _ s (omega arith) y (sym is))
ending_once Done (Refused f) r s x y is = absurd (loud 32 33 _ r (omega arith) x (is ∙ refused_laid (name_of f) s))
ending_once (Refused e) Done r s x y is = absurd (loud 32 33 _ s (omega arith) y (sym is ∙ refused_laid (name_of e) r))
ending_once (Refused e) Usage r s x y is = absurd (not_usage e r s (sym (refused_laid (name_of e) r) ∙ is))
ending_once Usage (Refused f) r s x y is = absurd (not_usage f s r (sym (refused_laid (name_of f) s) ∙ sym is))

ending_after : (e : Ending) (r : List ℕ) → IsQuiet r → IsAfter (marked_ending e ++ r)
ending_after Done r x = record { first = x.first; rest = x.rest; low = (let low = x.low in omega (arith, low)); is = x.is }
ending_after (Refused e) r x = record { first = 33; rest = 32 ∷ ((name_of e ++ 10 ∷ []) ++ r); low = omega arith; is = refl }
ending_after Usage r x = record { first = 33; rest = codes " usage\n" ++ r; low = omega arith; is = refl }

content_clear : (a : Content) (r : List ℕ) → IsAfter r → NoColon (marked_content a ++ r)
content_clear (Text p) r after t is = line_begins 58 t p r (λ e. omega (arith, e)) (omega arith) after is
content_clear (Names ns) r after t is = names_clear ns r after t is

-- an answer, and what comes after it
pub laid_marked : (a : Answer) (r : List ℕ) → marked a ++ r ≡ spread a.line ++ (marked_content a.content ++ (marked_ending a.ending ++ r))
laid_marked a r =
    append_assoc (spread a.line) (marked_content a.content ++ marked_ending a.ending) r
    ∙ ap (λ (t : List ℕ). spread a.line ++ t) (append_assoc (marked_content a.content) (marked_ending a.ending) r)

pub marked_once : (a b : Answer) (r s : List ℕ) → IsQuiet r → IsQuiet s → marked a ++ r ≡ marked b ++ s → AreReadAlike a b × (r ≡ s)
marked_once a b r s x y is =
    let x_after = ending_after a.ending r x in
    let y_after = ending_after b.ending s y in
    let lines = spread_once a.line b.line (marked_content a.content ++ (marked_ending a.ending ++ r)) (marked_content b.content ++ (marked_ending b.ending ++ s))
    (content_clear a.content (marked_ending a.ending ++ r) x_after) (content_clear b.content (marked_ending b.ending ++ s) y_after)
    (sym (laid_marked a r) ∙ (is ∙ laid_marked b s)) in
    let contents = content_once a.content b.content (marked_ending a.ending ++ r) (marked_ending b.ending ++ s) x_after y_after lines.1 in
    let endings = ending_once a.ending b.ending r s x y contents.1 in
    (record { line = lines.0; content = contents.0; ending = endings.0 }, endings.1)

-- something comes after the line of an answer
after_line : (a : Content) (r : List ℕ) → IsAfter r → (d : ℕ) × (t : List ℕ) × (marked_content a ++ r ≡ d ∷ t)
after_line (Text []) r x = (x.first, x.rest, text_ended r ∙ x.is)
after_line (Text (b ∷ bs)) r x = (124, _, text_more true b bs r)
after_line (Names []) r x = (x.first, x.rest, x.is)
after_line (Names (n ∷ ns)) r x = (124, _, names_more n ns r)

-- an answer has a first line, and more comes after it
pub marked_line : (a : Answer) (r : List ℕ) → IsQuiet r → (l : List ℕ) × (c : ℕ) × (m : List ℕ) × (list_all (is_other 10) l ≡ true) × (marked a ++ r ≡ l ++ 10 ∷ c ∷ m)
marked_line a r x =
    let after = after_line a.content (marked_ending a.ending ++ r) (ending_after a.ending r x) in
    let l = first_line a.line (marked_content a.content ++ (marked_ending a.ending ++ r)) after.0 after.1 after.2 in
    (l.0, l.1, l.2, l.3, laid_marked a r ∙ l.4)
