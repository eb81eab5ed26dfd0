-- Texts that are sentences, by what they are put together of.
use Rattle.std.proofs.Common.{◌≡◌, ◌⊎◌, inl, inr, ◌∙◌, refl, sym, ap, ℕ, ◌==◌, ◌||◌, Bool, true, false, true≢false, List, [], ◌∷◌, ◌++◌, append_assoc, append-nil, map, codes}
use Rattle.std.specs.List.{list_all}
use Rattle.std.proofs.lemmas.Bool.{and_from, cases_Bool, eqb-true, or_left}
use Rattle.hurd_words.specs.Sentences.{Clause, InSentences, Part, Sentence, behind, clause_text, is_clause, is_fit, is_letter, is_part, is_sentence, is_word, part_text, sentence_line, sentence_lines}
use Rattle.hurd_words.proofs.Bytes.{all_both, all_first, all_rest, all_weaker}

-- a text that may be a part
abbrev pub fits : List ℕ → Bool
fits text = list_all is_fit text

pub word_fits : (w : List ℕ) → is_word w ≡ true → fits w ≡ true
word_fits w is = all_weaker is_letter is_fit (λ b letter. or_left (is_letter b) (b == 32) letter) w is

pub both_fit : (s t : List ℕ) → fits s ≡ true → fits t ≡ true → fits (s ++ t) ≡ true
both_fit s t a b = all_both is_fit s t a b

-- it is one, by its words

pub part_from : (text : List ℕ) → fits text ≡ true → (p : Part) × (is_part p ≡ true) × (text ≡ part_text p)
part_from [] fit = ([] ∷ [], refl, refl)
part_from (b ∷ text) fit = more (part_from text (all_rest is_fit b text fit)) (cases_Bool (is_letter b)) (all_first is_fit b text fit)
  where
    more : ((p : Part) × (is_part p ≡ true) × (text ≡ part_text p)) → (is_letter b ≡ true) ⊎ (is_letter b ≡ false) → is_fit b ≡ true
        → (p : Part) × (is_part p ≡ true) × (b ∷ text ≡ part_text p)
    more ([], is, same) known fit_b = absurd (true≢false (sym is))
    more (w ∷ ws, is, same) (inl letter) fit_b =
        ((b ∷ w) ∷ ws, and_from (is_word (b ∷ w)) (list_all is_word ws) (and_from (is_letter b) (is_word w) letter (all_first is_word w ws is)) (all_rest is_word w ws is), ap (λ (t : List ℕ). b ∷ t) same)
    more (w ∷ ws, is, same) (inr none) fit_b =
        let space : b ≡ 32 = eqb-true b 32 (sym (ap (λ (t : Bool). t || b == 32) none) ∙ fit_b) in
        ([] ∷ w ∷ ws, is, ap (λ (c : ℕ). c ∷ text) space ∙ ap (λ (t : List ℕ). 32 ∷ t) same)

-- a clause, by its parts
abbrev pub IsClauseText : List ℕ → Type 0
IsClauseText text = (c : Clause) × (is_clause c ≡ true) × (text ≡ clause_text c)

pub clause_of_part : (text : List ℕ) → fits text ≡ true → IsClauseText text
clause_of_part text fit =
    let it = part_from text fit in
    (it.0 ∷ [], and_from (is_part it.0) true it.1 refl, it.2 ∙ sym (append-nil (part_text it.0)))

behind_more : (between last : List ℕ) (xs : List (List ℕ)) → behind between xs ++ (between ++ last) ≡ behind between (xs ++ last ∷ [])
behind_more between last [] = ap (λ (t : List ℕ). between ++ t) (sym (append-nil last))
behind_more between last (x ∷ xs) =
    append_assoc between (x ++ behind between xs) (between ++ last)
    ∙ ap (λ (t : List ℕ). between ++ t) (append_assoc x (behind between xs) (between ++ last) ∙ ap (λ (t : List ℕ). x ++ t) (behind_more between last xs))

mapped_more : (ps : List Part) (p : Part) → map part_text (ps ++ p ∷ []) ≡ map part_text ps ++ part_text p ∷ []
mapped_more [] p = refl
mapped_more (q ∷ ps) p = ap (λ (ts : List (List ℕ)). part_text q ∷ ts) (mapped_more ps p)

-- a part more, after a comma
pub clause_more : (text part : List ℕ) → IsClauseText text → fits part ≡ true → IsClauseText (text ++ (codes ", " ++ part))
clause_more text part ([], is, same) fit = absurd (true≢false (sym is))
clause_more text part (p ∷ ps, is, same) fit =
    let it = part_from part fit in (
      p ∷ (ps ++ it.0 ∷ []),
      and_from (is_part p) (list_all is_part (ps ++ it.0 ∷ [])) (all_first is_part p ps is)
          (all_both is_part ps (it.0 ∷ []) (all_rest is_part p ps is) (and_from (is_part it.0) true it.1 refl)),
      ap (λ (t : List ℕ). t ++ (codes ", " ++ part)) same
          ∙ (append_assoc (part_text p) (behind (codes ", ") (map part_text ps)) (codes ", " ++ part)
          ∙ ap (λ (t : List ℕ). part_text p ++ t)
          (ap (λ (t : List ℕ). behind (codes ", ") (map part_text ps) ++ (codes ", " ++ t)) it.2
          ∙ (behind_more (codes ", ") (part_text it.0) (map part_text ps) ∙ ap (behind (codes ", ")) (sym (mapped_more ps it.0))))),
    )

-- sentences of one, two and three clauses

pub one_clause : (who a : List ℕ) → IsClauseText a → InSentences who (codes "  " ++ (who ++ (codes ": " ++ (a ++ 10 ∷ []))))
one_clause who a (c, is, same) = (
  (c ∷ []) ∷ [],
  and_from (is_sentence (c ∷ [])) true (and_from (is_clause c) true is refl) refl,
  ap (λ (t : List ℕ). codes "  " ++ (who ++ (codes ": " ++ (t ++ 10 ∷ [])))) (same ∙ sym (append-nil (clause_text c)))
      ∙ sym (append-nil (sentence_line who (c ∷ []))),
)

pub two_clauses : (who a b : List ℕ) → IsClauseText a → IsClauseText b → InSentences who (codes "  " ++ (who ++ (codes ": " ++ (a ++ (codes ": " ++ (b ++ 10 ∷ []))))))
two_clauses who a b (c, is, same) (d, js, alike) = (
  (c ∷ d ∷ []) ∷ [],
  and_from (is_sentence (c ∷ d ∷ [])) true (and_from (is_clause c) (list_all is_clause (d ∷ [])) is (and_from (is_clause d) true js refl)) refl,
  (λ i. codes "  " ++ (who ++ (codes ": " ++ (same i ++ (codes ": " ++ (alike i ++ 10 ∷ []))))))
      ∙ (ap (λ (t : List ℕ). codes "  " ++ (who ++ t)) (laid (clause_text c) (clause_text d)) ∙ sym (append-nil (sentence_line who (c ∷ d ∷ [])))),
)
  where
    laid : (x y : List ℕ) → codes ": " ++ (x ++ (codes ": " ++ (y ++ 10 ∷ []))) ≡ behind (codes ": ") (x ∷ y ∷ []) ++ 10 ∷ []
    laid x y =
        ap (λ (t : List ℕ). codes ": " ++ t)
        (ap (λ (t : List ℕ). x ++ (codes ": " ++ t)) (ap (λ (t : List ℕ). t ++ 10 ∷ []) (sym (append-nil y))) ∙ sym (append_assoc x (codes ": " ++ (y ++ [])) (10 ∷ [])))

pub three_clauses : (who a b d : List ℕ) → IsClauseText a → IsClauseText b → IsClauseText d
    → InSentences who (codes "  " ++ (who ++ (codes ": " ++ (a ++ (codes ": " ++ ((b ++ (codes ": " ++ d)) ++ 10 ∷ []))))))
three_clauses who a b d (c, is, same) (e, js, alike) (f, ks, like) = (
  (c ∷ e ∷ f ∷ []) ∷ [],
  and_from (is_sentence (c ∷ e ∷ f ∷ [])) true
      (and_from (is_clause c) (list_all is_clause (e ∷ f ∷ [])) is (and_from (is_clause e) (list_all is_clause (f ∷ [])) js (and_from (is_clause f) true ks refl))) refl,
  (λ i. codes "  " ++ (who ++ (codes ": " ++ (same i ++ (codes ": " ++ ((alike i ++ (codes ": " ++ like i)) ++ 10 ∷ []))))))
      ∙ (ap (λ (t : List ℕ). codes "  " ++ (who ++ t)) (laid (clause_text c) (clause_text e) (clause_text f)) ∙ sym (append-nil (sentence_line who (c ∷ e ∷ f ∷ [])))),
)
  where
    laid : (x y z : List ℕ) → codes ": " ++ (x ++ (codes ": " ++ ((y ++ (codes ": " ++ z)) ++ 10 ∷ []))) ≡ behind (codes ": ") (x ∷ y ∷ z ∷ []) ++ 10 ∷ []
    laid x y z =
        ap (λ (t : List ℕ). codes ": " ++ t)
        (ap (λ (t : List ℕ). x ++ (codes ": " ++ ((y ++ (codes ": " ++ t)) ++ 10 ∷ []))) (sym (append-nil z))
        ∙ sym (append_assoc x (codes ": " ++ (y ++ (codes ": " ++ (z ++ [])))) (10 ∷ [])))

-- several texts of sentences

pub no_sentences : (who : List ℕ) → InSentences who []
no_sentences who = ([], refl, refl)

lines_both : (who : List ℕ) (vs ws : List Sentence) → sentence_lines who vs ++ sentence_lines who ws ≡ sentence_lines who (vs ++ ws)
lines_both who [] ws = refl
lines_both who (v ∷ vs) ws = append_assoc (sentence_line who v) (sentence_lines who vs) (sentence_lines who ws) ∙ ap (λ (t : List ℕ). sentence_line who v ++ t) (lines_both who vs ws)

pub both_sentences : (who s t : List ℕ) → InSentences who s → InSentences who t → InSentences who (s ++ t)
both_sentences who s t (vs, are, same) (ws, all, alike) =
    (vs ++ ws, all_both is_sentence vs ws are all, (λ i. same i ++ alike i) ∙ lines_both who vs ws)
