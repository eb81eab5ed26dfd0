-- All that a program of learners prints is read in one way.
use Rattle.std.proofs.Common.{◌≡◌, ◌∙◌, inl, inr, refl, sym, ap, ℕ, ◌==◌, Bool, true, false, true≢false, List, [], ◌∷◌, ◌++◌, append_assoc, length, decimal, codes, if◌then◌else◌, nat_lt, arith}
use Rattle.std.proofs.lemmas.Bool.{cases_Bool, eqb-true, not_from_false}
use Rattle.std.proofs.lemmas.List.{append_cancel_left}
use Rattle.hurd_creds.specs.declared.name.TaskId.{TaskId}
use Rattle.hurd_words.specs.Sentences.{is_letter, sentence_lines}
use Rattle.hurd_words.specs.Turns.{AreApart, AreSaid, Turn, TurnsAlike, is_line, paragraph, turns_text}
use Rattle.hurd_words.specs.declared.answers.Answer.{Answer}
use Rattle.hurd_words.proofs.Bytes.{all_both, all_weaker, first_same, is_other}
use Rattle.hurd_words.proofs.ReadsBack.{reads_back}
use Rattle.hurd_words.proofs.WordLaws.{decimal_is_word}
use Rattle.hurd_lessons.specs.Told.{Said, last_line, of_others, printed}
use Rattle.hurd_lessons.specs.declared.tally.Tally.{Tally}
use Rattle.hurd_teaching.specs.Learners.{see_of, verb_of}
use Rattle.hurd_teaching.specs.Reading.{AreSentences, ReadBack, ReadingsAlike, read_of}

-- what is learned and what is seen are told apart

verbs_apart : (many : Bool) (s t : List ℕ) → (if many then codes " learn" else codes " learns") ++ s ≡ (if many then codes " see" else codes " sees") ++ t → ⊥
verbs_apart true s t is = let e = (first_same 108 115 _ _ (first_same 32 32 _ _ is).1).0 in omega (arith, e)
verbs_apart false s t is = let e = (first_same 108 115 _ _ (first_same 32 32 _ _ is).1).0 in omega (arith, e)

apart : (tasks : List TaskId) (names : List ℕ) → AreApart (names ++ verb_of tasks) (names ++ see_of tasks)
apart tasks names s t is =
    verbs_apart (nat_lt 1 (length tasks)) s t
    (append_cancel_left names (verb_of tasks ++ s) (see_of tasks ++ t) (sym (append_assoc names (verb_of tasks) s) ∙ (is ∙ append_assoc names (see_of tasks) t)))

-- the last line, without its newline

abbrev others_of : ℕ → List ℕ
others_of n = if n == 1 then codes " by others" else codes "s by others"

abbrev line_of : List ℕ → List ℕ → Tally → List ℕ
line_of names thing t = names ++ (codes " learned from " ++ (decimal t.taught ++ (codes " of " ++ (decimal t.others ++ (thing ++ others_of t.others)))))

others_end : (n : ℕ) → of_others n ≡ others_of n ++ 10 ∷ []
others_end n = go (n == 1)
  where
    go : (b : Bool) → (if b then codes " by others\n" else codes "s by others\n") ≡ (if b then codes " by others" else codes "s by others") ++ 10 ∷ []
    go true = refl
    go false = refl

-- one piece more is in front of a line
in_front : (front all line : List ℕ) → all ≡ line ++ 10 ∷ [] → front ++ all ≡ (front ++ line) ++ 10 ∷ []
in_front front all line is = ap (λ (u : List ℕ). front ++ u) is ∙ sym (append_assoc front line (10 ∷ []))

line_end : (names thing : List ℕ) (t : Tally) → last_line names thing t ≡ line_of names thing t ++ 10 ∷ []
line_end names thing t =
    in_front names _ _ (in_front (codes " learned from ") _ _ (in_front (decimal t.taught) _ _ (in_front (codes " of ") _ _ (in_front (decimal t.others) _ _ (in_front thing _ _ (others_end t.others))))))

-- no newline is in it

pub no_newline : (b : ℕ) → is_letter b ≡ true → is_other 10 b ≡ true
no_newline b letter = elim (cases_Bool (b == 10)) [
  | inl same ↦ absurd (true≢false (sym letter ∙ ap is_letter (eqb-true b 10 same)))
  | inr differ ↦ not_from_false (b == 10) differ
]

number_line : (n : ℕ) → is_line (decimal n) ≡ true
number_line n = all_weaker is_letter (is_other 10) no_newline (decimal n) (decimal_is_word n)

others_line : (n : ℕ) → is_line (others_of n) ≡ true
others_line n = go (n == 1)
  where
    go : (b : Bool) → is_line (if b then codes " by others" else codes "s by others") ≡ true
    go true = refl
    go false = refl

in_line : (x y : List ℕ) → is_line x ≡ true → is_line y ≡ true → is_line (x ++ y) ≡ true
in_line x y = all_both (is_other 10) x y

line_is_line : (names thing : List ℕ) (t : Tally) → is_line names ≡ true → is_line thing ≡ true → is_line (line_of names thing t) ≡ true
line_is_line names thing t n g =
    let last : List ℕ = thing ++ others_of t.others in
    let others : List ℕ = decimal t.others ++ last in
    let of : List ℕ = codes " of " ++ others in
    let taught : List ℕ = decimal t.taught ++ of in
    let learned : List ℕ = codes " learned from " ++ taught in
    in_line names learned n
    (in_line (codes " learned from ") taught refl
    (in_line (decimal t.taught) of (number_line t.taught)
    (in_line (codes " of ") others refl (in_line (decimal t.others) last (number_line t.others) (in_line thing (others_of t.others) g (others_line t.others))))))

module _ (tasks : List TaskId) (names : List ℕ) where
  abbrev learns : List ℕ
  learns = names ++ verb_of tasks

  abbrev sees : List ℕ
  sees = names ++ see_of tasks

  -- what is printed, as turns
  abbrev turns_of : (ps : List Answer) (xs : List Said) → AreSentences tasks names xs → List Turn
  turns_of [] xs s = []
  turns_of (p ∷ ps) [] s = []
  turns_of (p ∷ ps) (x ∷ xs) s = record { answer = p; learned = s.0.0; seen = s.1.0 } ∷ turns_of ps xs s.2

  are_said : (ps : List Answer) (xs : List Said) (s : AreSentences tasks names xs) → AreSaid (turns_of ps xs s)
  are_said [] xs s = tt
  are_said (p ∷ ps) [] s = tt
  are_said (p ∷ ps) (x ∷ xs) s = (s.0.1, s.1.1, are_said ps xs s.2)

  same_text : (ps : List Answer) (xs : List Said) (s : AreSentences tasks names xs) → printed ps xs ≡ turns_text learns sees (turns_of ps xs s)
  same_text [] xs s = refl
  same_text (p ∷ ps) [] s = refl
  same_text (p ∷ ps) (x ∷ xs) s = λ i. paragraph p (s.0.2 i ++ s.1.2 i) ++ same_text ps xs s.2 i

  -- turns that are alike are read alike
  turns_read : (ps qs : List Answer) (xs ys : List Said) (s : AreSentences tasks names xs) (t : AreSentences tasks names ys)
      → TurnsAlike (turns_of ps xs s) (turns_of qs ys t) → ReadingsAlike (read_of ps xs) (read_of qs ys)
  turns_read [] [] xs ys s t alike = tt
  turns_read [] (q ∷ qs) xs [] s t alike = tt
  turns_read [] (q ∷ qs) xs (y ∷ ys) s t alike = absurd alike
  turns_read (p ∷ ps) [] [] ys s t alike = tt
  turns_read (p ∷ ps) [] (x ∷ xs) ys s t alike = absurd alike
  turns_read (p ∷ ps) (q ∷ qs) [] [] s t alike = tt
  turns_read (p ∷ ps) (q ∷ qs) [] (y ∷ ys) s t alike = absurd alike
  turns_read (p ∷ ps) (q ∷ qs) (x ∷ xs) [] s t alike = absurd alike
  turns_read (p ∷ ps) (q ∷ qs) (x ∷ xs) (y ∷ ys) s t alike = (
    alike.0,
    s.0.2 ∙ (ap (sentence_lines learns) alike.1 ∙ sym t.0.2),
    s.1.2 ∙ (ap (sentence_lines sees) alike.2 ∙ sym t.1.2),
    turns_read ps qs xs ys s.2 t.2 alike.3,
  )

pub read_back : ReadBack
read_back tasks names thing ps qs xs ys t u n g a b is =
    let both =
    reads_back (learns tasks names) (sees tasks names) (turns_of tasks names ps xs a) (turns_of tasks names qs ys b) (line_of names thing t) (line_of names thing u) (apart tasks names)
    (are_said tasks names ps xs a) (are_said tasks names qs ys b) (line_is_line names thing t n g) (line_is_line names thing u n g)
    (sym (laid ps xs a t) ∙ (is ∙ laid qs ys b u)) in (
      turns_read tasks names ps qs xs ys a b both.0,
      line_end names thing t ∙ (ap (λ (l : List ℕ). l ++ 10 ∷ []) both.1 ∙ sym (line_end names thing u)),
    )
  where
    laid : (rs : List Answer) (zs : List Said) (s : AreSentences tasks names zs) (v : Tally)
        → printed rs zs ++ last_line names thing v ≡ turns_text (learns tasks names) (sees tasks names) (turns_of tasks names rs zs s) ++ (line_of names thing v ++ 10 ∷ [])
    laid rs zs s v = λ i. same_text tasks names rs zs s i ++ line_end names thing v i
