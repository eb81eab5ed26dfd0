-- What is printed of things that are done one after another is read in one way.
use Rattle.std.proofs.Common.{◌≡◌, ◌≢◌, ◌⊎◌, inl, inr, ◌∙◌, refl, sym, ap, ℕ, ◌==◌, Bool, true, false, List, [], ◌∷◌, ◌++◌, append_assoc, map, codes, arith}
use Rattle.std.specs.List.{list_all}
use Rattle.std.proofs.lemmas.Bool.{and_from, cases_Bool, eq-eqb, eqb-true, not_from_false}
use Rattle.std.proofs.lemmas.List.{append_cancel_left, append_cancel_right}
use Rattle.hurd_words.specs.Marks.{AreReadAlike, marked}
use Rattle.hurd_words.specs.Sentences.{Sentence, are_sentences, behind, clause_text, sentence_line, sentence_lines}
use Rattle.hurd_words.specs.Turns.{AreApart, ReadsBack, Turn, TurnsAlike, is_line, turn_text, turns_text}
use Rattle.hurd_words.proofs.Bytes.{cut, first_same, is_other}
use Rattle.hurd_words.proofs.AnswersOnce.{IsQuiet, marked_line, marked_once}
use Rattle.hurd_words.proofs.SentenceLaws.{NoneOf, lines_once, opened}

-- what is said in a turn, and what comes after it
abbrev pub said : List ℕ → List ℕ → Turn → List ℕ → List ℕ
said learns sees t r = sentence_lines learns t.learned ++ (sentence_lines sees t.seen ++ 10 ∷ r)

laid_out : (learns sees : List ℕ) (t : Turn) (r : List ℕ) → turn_text learns sees t ++ r ≡ marked t.answer ++ said learns sees t r
laid_out learns sees t r =
    let l : List ℕ = sentence_lines learns t.learned in
    let s : List ℕ = sentence_lines sees t.seen in
    append_assoc (marked t.answer) ((l ++ s) ++ 10 ∷ []) r
    ∙ ap (λ (x : List ℕ). marked t.answer ++ x) (append_assoc (l ++ s) (10 ∷ []) r ∙ append_assoc l s (10 ∷ r))

-- sentences and an empty line are quiet
lines_quiet : (who : List ℕ) (vs : List Sentence) (r : List ℕ) → IsQuiet r → IsQuiet (sentence_lines who vs ++ r)
lines_quiet who [] r quiet = quiet
lines_quiet who (v ∷ vs) r quiet = record { first = 32; rest = _; low = omega arith; is = refl }

said_quiet : (learns sees : List ℕ) (t : Turn) (r : List ℕ) → IsQuiet (said learns sees t r)
said_quiet learns sees t r = lines_quiet learns t.learned _ (lines_quiet sees t.seen (10 ∷ r) (record { first = 10; rest = r; low = omega arith; is = refl }))

-- after what is learned nothing more is
none_behind : (learns sees : List ℕ) (vs : List Sentence) (r : List ℕ) → AreApart learns sees → NoneOf learns (sentence_lines sees vs ++ 10 ∷ r)
none_behind learns sees [] r apart t is = let e = (first_same 10 32 _ _ is).0 in absurd (omega (arith, e))
none_behind learns sees (v ∷ vs) r apart t is =
    let inner : List ℕ = behind (codes ": ") (map clause_text v) in
    let laid = append_assoc (sentence_line sees v) (sentence_lines sees vs) (10 ∷ r) ∙ opened sees inner (sentence_lines sees vs ++ 10 ∷ r) in
    apart t (inner ++ 10 ∷ (sentence_lines sees vs ++ 10 ∷ r))
    (append_cancel_left (codes "  ") (learns ++ t) (sees ++ (inner ++ 10 ∷ (sentence_lines sees vs ++ 10 ∷ r))) (sym is ∙ laid))

none_after : (who r : List ℕ) → NoneOf who (10 ∷ r)
none_after who r t is = let e = (first_same 10 32 r _ is).0 in absurd (omega (arith, e))

-- a turn, and what comes after it
turn_once : (learns sees : List ℕ) (t u : Turn) (r s : List ℕ) → AreApart learns sees
    → are_sentences t.learned ≡ true → are_sentences t.seen ≡ true → are_sentences u.learned ≡ true → are_sentences u.seen ≡ true
    → turn_text learns sees t ++ r ≡ turn_text learns sees u ++ s → AreReadAlike t.answer u.answer × (t.learned ≡ u.learned) × (t.seen ≡ u.seen) × (r ≡ s)
turn_once learns sees t u r s apart a b c d is =
    let parts = marked_once t.answer u.answer (said learns sees t r) (said learns sees u s) (said_quiet learns sees t r) (said_quiet learns sees u s)
    (sym (laid_out learns sees t r) ∙ (is ∙ laid_out learns sees u s)) in
    let first = lines_once learns t.learned u.learned (sentence_lines sees t.seen ++ 10 ∷ r) (sentence_lines sees u.seen ++ 10 ∷ s) a c
    (none_behind learns sees t.seen r apart) (none_behind learns sees u.seen s apart) parts.1 in
    let second = lines_once sees t.seen u.seen (10 ∷ r) (10 ∷ s) b d (none_after sees r) (none_after sees s) first.1 in
    (parts.0, first.0, second.0, (first_same 10 10 r s second.1).1)

-- no last line is a turn
not_last : (learns sees : List ℕ) (u : Turn) (r s : List ℕ) → is_line s ≡ true → s ++ 10 ∷ [] ≢ turn_text learns sees u ++ r
not_last learns sees u r s line is =
    let l = marked_line u.answer (said learns sees u r) (said_quiet learns sees u r) in
    let both = cut 10 s l.0 (10 ∷ []) (10 ∷ l.1 ∷ l.2) line l.3 (inr ([], refl)) (inr (l.1 ∷ l.2, refl)) (is ∙ (laid_out learns sees u r ∙ l.4)) in
    empty l.1 l.2 (first_same 10 10 [] (l.1 ∷ l.2) both.1).1
  where
    empty : (c : ℕ) (m : List ℕ) → [] ≡ c ∷ m → ⊥
    empty c m none = absurd (cc)

pub reads_back : ReadsBack
reads_back learns sees [] [] s t apart a b x y is = (tt, append_cancel_right s t (10 ∷ []) is)
reads_back learns sees [] (u ∷ us) s t apart a b x y is =
    absurd (not_last learns sees u (turns_text learns sees us ++ (t ++ 10 ∷ [])) s x (is ∙ append_assoc (turn_text learns sees u) (turns_text learns sees us) (t ++ 10 ∷ [])))
reads_back learns sees (v ∷ vs) [] s t apart a b x y is =
    absurd (not_last learns sees v (turns_text learns sees vs ++ (s ++ 10 ∷ [])) t y (sym is ∙ append_assoc (turn_text learns sees v) (turns_text learns sees vs) (s ++ 10 ∷ [])))
reads_back learns sees (v ∷ vs) (u ∷ us) s t apart a b x y is =
    let both = turn_once learns sees v u (turns_text learns sees vs ++ (s ++ 10 ∷ [])) (turns_text learns sees us ++ (t ++ 10 ∷ [])) apart a.0 a.1 b.0 b.1
    (sym (append_assoc (turn_text learns sees v) (turns_text learns sees vs) (s ++ 10 ∷ [])) ∙ (is ∙ append_assoc (turn_text learns sees u) (turns_text learns sees us) (t ++ 10 ∷ []))) in
    let rest = reads_back learns sees vs us s t apart a.2 b.2 x y both.3 in
    ((both.0, both.1, both.2, rest.0), rest.1)
