-- A sentence is read in one way.
use Rattle.std.proofs.Common.{◌≡◌, ◌≢◌, inl, inr, ◌∙◌, refl, sym, ap, ℕ, ◌==◌, ◌&&◌, Bool, true, false, true≢false, List, [], ◌∷◌, ◌++◌, append_assoc, map, codes}
use Rattle.std.specs.List.{list_all}
use Rattle.std.proofs.lemmas.Bool.{cases_Bool, eqb-true, not_from_false}
use Rattle.std.proofs.lemmas.List.{append_cancel_left}
use Rattle.hurd_words.specs.Sentences.{Clause, Part, Sentence, are_sentences, behind, clause_text, is_clause, is_letter, is_part, is_sentence, is_word, part_text, sentence_line, sentence_lines, some}
use Rattle.hurd_words.proofs.Bytes.{all_behind, all_first, all_joined, all_mapped, all_rest, all_weaker, behind_once, cut, first_same, is_other, joined_once, lack, map_once}

-- what is no letter is in no word
letter_other : (d b : ℕ) → is_letter d ≡ false → is_letter b ≡ true → is_other d b ≡ true
letter_other d b none letter = elim (cases_Bool (b == d)) [
  | inl same ↦ absurd (true≢false (sym letter ∙ (ap is_letter (eqb-true b d same) ∙ none)))
  | inr differ ↦ not_from_false (b == d) differ
]

-- a test that letters, spaces, commas and colons pass, as far as they stand in such a text

each_of : {A : Type 0} (test : A → Bool) (xs : List A) → some test xs ≡ true → list_all test xs ≡ true
each_of test [] is = absurd (true≢false (sym is))
each_of test (x ∷ xs) is = is

word_passes : (q : ℕ → Bool) → ((b : ℕ) → is_letter b ≡ true → q b ≡ true) → (w : List ℕ) → is_word w ≡ true → list_all q w ≡ true
word_passes q letters w is = all_weaker is_letter q letters w is

part_passes : (q : ℕ → Bool) → ((b : ℕ) → is_letter b ≡ true → q b ≡ true) → q 32 ≡ true → (p : Part) → is_part p ≡ true → list_all q (part_text p) ≡ true
part_passes q letters space p is =
    all_joined q (codes " ") p (one_passes space) (all_weaker is_word (list_all q) (word_passes q letters) p (each_of is_word p is))
  where
    one_passes : q 32 ≡ true → list_all q (codes " ") ≡ true
    one_passes e = ap (λ (t : Bool). t && true) e

clause_passes : (q : ℕ → Bool) → ((b : ℕ) → is_letter b ≡ true → q b ≡ true) → q 32 ≡ true → q 44 ≡ true → (c : Clause) → is_clause c ≡ true → list_all q (clause_text c) ≡ true
clause_passes q letters space comma c is =
    all_joined q (codes ", ") (map part_text c) two_pass (all_mapped is_part (list_all q) part_text (part_passes q letters space) c (each_of is_part c is))
  where
    two_pass : list_all q (codes ", ") ≡ true
    two_pass = ap (λ (t : Bool). t && (q 32 && true)) comma ∙ ap (λ (t : Bool). t && true) space

sentence_passes : (q : ℕ → Bool) → ((b : ℕ) → is_letter b ≡ true → q b ≡ true) → q 32 ≡ true → q 44 ≡ true → q 58 ≡ true → (s : Sentence) → list_all is_clause s ≡ true
    → list_all q (behind (codes ": ") (map clause_text s)) ≡ true
sentence_passes q letters space comma colon s is =
    all_behind q (codes ": ") (map clause_text s) two_pass (all_mapped is_clause (list_all q) clause_text (clause_passes q letters space comma) s is)
  where
    two_pass : list_all q (codes ": ") ≡ true
    two_pass = ap (λ (t : Bool). t && (q 32 && true)) colon ∙ ap (λ (t : Bool). t && true) space

-- parts, clauses and sentences

part_once : (v w : Part) → is_part v ≡ true → is_part w ≡ true → part_text v ≡ part_text w → v ≡ w
part_once [] w a b is = absurd (true≢false (sym a))
part_once (v ∷ vs) [] a b is = absurd (true≢false (sym b))
part_once (v ∷ vs) (w ∷ ws) a b is = joined_once 32 [] v w vs ws (lacks (v ∷ vs) a) (lacks (w ∷ ws) b) is
  where
    lacks : (xs : List (List ℕ)) → list_all is_word xs ≡ true → lack 32 xs ≡ true
    lacks xs all = all_weaker is_word (list_all (is_other 32)) (word_passes (is_other 32) (λ c. letter_other 32 c refl)) xs all

clause_once : (v w : Clause) → is_clause v ≡ true → is_clause w ≡ true → clause_text v ≡ clause_text w → v ≡ w
clause_once [] w a b is = absurd (true≢false (sym a))
clause_once (v ∷ vs) [] a b is = absurd (true≢false (sym b))
clause_once (v ∷ vs) (w ∷ ws) a b is =
    map_once is_part part_text part_once (v ∷ vs) (w ∷ ws) a b
    (joined_once 44 (codes " ") (part_text v) (part_text w) (map part_text vs) (map part_text ws) (lacks (v ∷ vs) a) (lacks (w ∷ ws) b) is)
  where
    lacks : (xs : Clause) → list_all is_part xs ≡ true → lack 44 (map part_text xs) ≡ true
    lacks xs all = all_mapped is_part (list_all (is_other 44)) part_text (part_passes (is_other 44) (λ c. letter_other 44 c refl) refl) xs all

sentence_once : (v w : Sentence) → is_sentence v ≡ true → is_sentence w ≡ true → behind (codes ": ") (map clause_text v) ≡ behind (codes ": ") (map clause_text w) → v ≡ w
sentence_once v w a b is =
    map_once is_clause clause_text clause_once v w (each_of is_clause v a) (each_of is_clause w b)
    (behind_once 58 (codes " ") (map clause_text v) (map clause_text w) (lacks v (each_of is_clause v a)) (lacks w (each_of is_clause w b)) is)
  where
    lacks : (xs : Sentence) → list_all is_clause xs ≡ true → lack 58 (map clause_text xs) ≡ true
    lacks xs all = all_mapped is_clause (list_all (is_other 58)) clause_text (clause_passes (is_other 58) (λ c. letter_other 58 c refl) refl refl) xs all

-- a line of somebody, before other text

pub opened : (who inner r : List ℕ) → (codes "  " ++ (who ++ (inner ++ 10 ∷ []))) ++ r ≡ codes "  " ++ (who ++ (inner ++ 10 ∷ r))
opened who inner r =
    append_assoc (codes "  ") (who ++ (inner ++ 10 ∷ [])) r
    ∙ ap (λ (t : List ℕ). codes "  " ++ t) (append_assoc who (inner ++ 10 ∷ []) r ∙ ap (λ (t : List ℕ). who ++ t) (append_assoc inner (10 ∷ []) r))

pub line_once : (who : List ℕ) (v w : Sentence) (r s : List ℕ) → is_sentence v ≡ true → is_sentence w ≡ true → sentence_line who v ++ r ≡ sentence_line who w ++ s → (v ≡ w) × (r ≡ s)
line_once who v w r s a b is =
    let x : List ℕ = behind (codes ": ") (map clause_text v) in
    let y : List ℕ = behind (codes ": ") (map clause_text w) in
    let same = append_cancel_left (codes "  " ++ who) (x ++ 10 ∷ r) (y ++ 10 ∷ s)
    (append_assoc (codes "  ") who (x ++ 10 ∷ r) ∙ (sym (opened who x r) ∙ (is ∙ (opened who y s ∙ sym (append_assoc (codes "  ") who (y ++ 10 ∷ s)))))) in
    let both = cut 10 x y (10 ∷ r) (10 ∷ s) (lacks v (each_of is_clause v a)) (lacks w (each_of is_clause w b)) (inr (r, refl)) (inr (s, refl)) same in
    (sentence_once v w a b both.0, (first_same 10 10 r s both.1).1)
  where
    lacks : (xs : Sentence) → list_all is_clause xs ≡ true → list_all (is_other 10) (behind (codes ": ") (map clause_text xs)) ≡ true
    lacks xs all = sentence_passes (is_other 10) (λ c. letter_other 10 c refl) refl refl refl xs all

-- lines of somebody, before a text that begins with none

abbrev pub NoneOf : List ℕ → List ℕ → Type 0
NoneOf who r = (t : List ℕ) → r ≢ codes "  " ++ (who ++ t)

pub lines_once : (who : List ℕ) (vs ws : List Sentence) (r s : List ℕ) → are_sentences vs ≡ true → are_sentences ws ≡ true → NoneOf who r → NoneOf who s
    → sentence_lines who vs ++ r ≡ sentence_lines who ws ++ s → (vs ≡ ws) × (r ≡ s)
lines_once who [] [] r s a b x y is = (refl, is)
lines_once who [] (w ∷ ws) r s a b x y is =
    absurd (x _ (is ∙ (append_assoc (sentence_line who w) (sentence_lines who ws) s ∙ opened who (behind (codes ": ") (map clause_text w)) (sentence_lines who ws ++ s))))
lines_once who (v ∷ vs) [] r s a b x y is =
    absurd (y _ (sym is ∙ (append_assoc (sentence_line who v) (sentence_lines who vs) r ∙ opened who (behind (codes ": ") (map clause_text v)) (sentence_lines who vs ++ r))))
lines_once who (v ∷ vs) (w ∷ ws) r s a b x y is =
    let both = line_once who v w (sentence_lines who vs ++ r) (sentence_lines who ws ++ s) (all_first is_sentence v vs a) (all_first is_sentence w ws b)
    (sym (append_assoc (sentence_line who v) (sentence_lines who vs) r) ∙ (is ∙ append_assoc (sentence_line who w) (sentence_lines who ws) s)) in
    let rest = lines_once who vs ws r s (all_rest is_sentence v vs a) (all_rest is_sentence w ws b) x y both.1 in
    (ap (λ (z : Sentence). z ∷ vs) both.0 ∙ ap (λ (zs : List Sentence). w ∷ zs) rest.0, rest.1)
