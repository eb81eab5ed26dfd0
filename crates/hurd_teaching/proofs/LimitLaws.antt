-- What is printed if that is limited: whole lines, and so sentences.
use Rattle.std.proofs.Common.{◌≡◌, ◌≤◌, ◌<◌, ◌⊎◌, inl, inr, ◌∙◌, refl, sym, ap, subst, ℕ, suc, ◌+◌, ◌-◌, ◌==◌, ◌||◌, not, Bool, true, false, true≢false, List, [], ◌∷◌, ◌++◌, append_assoc, map, codes, length, decimal, take, drop, get_or, Option, Some, None, if◌then◌else◌, nat_lt, arith}
use Rattle.std.specs.List.{list_all, list_any}
use Rattle.std.proofs.Math.Seq.{take-append-add, take-nil}
use Rattle.std.proofs.lemmas.Bool.{and_from, and_parts, cases_Bool, cases_lt, eqb-true, or_right}
use Rattle.std.proofs.lemmas.List.{take-append-drop, take-append-le, take_more}
use Rattle.std.proofs.lemmas.List.Folds.{list_all-append, list_any-append}
use Rattle.hurd_creds.specs.declared.name.TaskId.{TaskId}
use Rattle.hurd_words.specs.Sentences.{Clause, InSentences, Part, Sentence, are_sentences, behind, clause_text, is_clause, is_letter, is_part, is_sentence, is_word, joined, part_text, sentence_line, sentence_lines}
use Rattle.hurd_words.specs.Turns.{is_line}
use Rattle.hurd_words.proofs.Bytes.{all_both, all_first, all_mapped, all_rest, all_weaker, is_other}
use Rattle.hurd_words.proofs.ClauseLaws.{both_fit, both_sentences, clause_more, clause_of_part, one_clause, word_fits}
use Rattle.hurd_words.proofs.WordLaws.{decimal_is_word}
use Rattle.hurd_teaching.specs.Learners.{see_of, verb_of}
use Rattle.hurd_teaching.proofs.ReadingLaws.{no_newline}
use Rattle.hurd_teaching.specs.Limits.{ShortenedAreSentences, lines_within, more_line, more_text, shortened, whole_lines}

-- THE BYTES UP TO THE LAST NEWLINE

abbrev pub is_newline : ℕ → Bool
is_newline c = c == 10

flips : (b : Bool) → not b ≡ true → b ≡ false
flips true is = absurd (true≢false (sym is))
flips false is = refl

-- bytes that lack a newline have none
none_any : (bs : List ℕ) → list_all (is_other 10) bs ≡ true → list_any is_newline bs ≡ false
none_any [] is = refl
none_any (b ∷ bs) is = rw (flips (b == 10) (all_first (is_other 10) b bs is)) (none_any bs (all_rest (is_other 10) b bs is))

none_whole : (bs : List ℕ) → list_all (is_other 10) bs ≡ true → whole_lines bs ≡ []
none_whole [] is = refl
none_whole (b ∷ bs) is = rw (none_any (b ∷ bs) is) refl

-- a line is kept, and then what follows is as it would be alone
any_here : (l r : List ℕ) → list_any is_newline (l ++ 10 ∷ r) ≡ true
any_here l r = list_any-append is_newline l (10 ∷ r) ∙ or_right (list_any is_newline l) true refl

pub line_whole : (l r : List ℕ) → whole_lines (l ++ 10 ∷ r) ≡ l ++ 10 ∷ whole_lines r
line_whole [] r = refl
line_whole (b ∷ l) r = rw (any_here (b ∷ l) r) (ap (λ (bs : List ℕ). b ∷ bs) (line_whole l r))

alone : (k : Bool) → (k || false) ≡ k
alone true = refl
alone false = refl

-- a byte more that is no newline changes nothing
pub byte_more : (xs : List ℕ) (b : ℕ) → (b == 10) ≡ false → whole_lines (xs ++ b ∷ []) ≡ whole_lines xs
byte_more [] b plain = rw plain refl
byte_more (c ∷ xs) b plain = ap (λ (k : Bool). if k then c ∷ whole_lines (xs ++ b ∷ []) else []) same ∙ go (list_any is_newline (c ∷ xs)) (byte_more xs b plain)
  where
    none : list_any is_newline (b ∷ []) ≡ false
    none = rw plain refl

    same : list_any is_newline (c ∷ (xs ++ b ∷ [])) ≡ list_any is_newline (c ∷ xs)
    same = list_any-append is_newline (c ∷ xs) (b ∷ []) ∙ (ap (λ (k : Bool). list_any is_newline (c ∷ xs) || k) none ∙ alone (list_any is_newline (c ∷ xs)))

    go : (k : Bool) → whole_lines (xs ++ b ∷ []) ≡ whole_lines xs → (if k then c ∷ whole_lines (xs ++ b ∷ []) else []) ≡ (if k then c ∷ whole_lines xs else [])
    go true is = ap (λ (bs : List ℕ). c ∷ bs) is
    go false is = refl

-- one step back from the end of the first bytes

not_equal : (m n : ℕ) → (m ≡ n → ⊥) → (m == n) ≡ false
not_equal m n differ = elim (cases_Bool (m == n)) [
  | inl same ↦ absurd (differ (eqb-true m n same))
  | inr other ↦ other
]

first_more : (bs : List ℕ) (end : ℕ) → 0 < end → end ≤ length bs → take end bs ≡ take (end - 1) bs ++ get_or bs (end - 1) 0 ∷ []
first_more bs end some within =
    let k : ℕ = end - 1 in
    let on : end ≡ k + 1 = omega (arith, some) in
    ap (λ (n : ℕ). take n bs) on ∙ take_more bs k 0 (omega (arith, some, within))

pub step_back : (bs : List ℕ) (end : ℕ) → 0 < end → end ≤ length bs → (get_or bs (end - 1) 0 ≡ 10 → ⊥) → whole_lines (take (end - 1) bs) ≡ whole_lines (take end bs)
step_back bs end some within differs = let plain = not_equal (get_or bs (end - 1) 0) 10 differs in sym (ap whole_lines (first_more bs end some within) ∙ byte_more (take (end - 1) bs) (get_or bs (end - 1) 0) plain)

pub stop_here : (bs : List ℕ) (end : ℕ) → 0 < end → end ≤ length bs → get_or bs (end - 1) 0 ≡ 10 → take end bs ≡ whole_lines (take end bs)
stop_here bs end some within last =
    let split : take end bs ≡ take (end - 1) bs ++ 10 ∷ [] = first_more bs end some within ∙ ap (λ (b : ℕ). take (end - 1) bs ++ b ∷ []) last in
    split ∙ (sym (line_whole (take (end - 1) bs) []) ∙ ap whole_lines (sym split))

pub stop_at_none : (bs : List ℕ) (end : ℕ) → end ≤ 0 → take end bs ≡ whole_lines (take end bs)
stop_at_none bs end none = let is : end ≡ 0 = omega (arith, none) in rw is refl

-- A SENTENCE IS ONE LINE

all_behind : (between : List ℕ) (ts : List (List ℕ)) → list_all (is_other 10) between ≡ true → list_all (list_all (is_other 10)) ts ≡ true → list_all (is_other 10) (behind between ts) ≡ true
all_behind between [] is each = refl
all_behind between (t ∷ ts) is each =
    let here = all_first (list_all (is_other 10)) t ts each in
    let more = all_behind between ts is (all_rest (list_all (is_other 10)) t ts each) in
    all_both (is_other 10) between (t ++ behind between ts) is (all_both (is_other 10) t (behind between ts) here more)

all_joined : (between : List ℕ) (ts : List (List ℕ)) → list_all (is_other 10) between ≡ true → list_all (list_all (is_other 10)) ts ≡ true → list_all (is_other 10) (joined between ts) ≡ true
all_joined between [] is each = refl
all_joined between (t ∷ ts) is each =
    all_both (is_other 10) t (behind between ts) (all_first (list_all (is_other 10)) t ts each) (all_behind between ts is (all_rest (list_all (is_other 10)) t ts each))

word_line : (w : List ℕ) → is_word w ≡ true → list_all (is_other 10) w ≡ true
word_line w is = all_weaker is_letter (is_other 10) no_newline w is

part_line : (p : Part) → is_part p ≡ true → list_all (is_other 10) (part_text p) ≡ true
part_line [] is = refl
part_line (w ∷ ws) is = all_joined (codes " ") (w ∷ ws) refl (all_weaker is_word (list_all (is_other 10)) word_line (w ∷ ws) is)

clause_line : (c : Clause) → is_clause c ≡ true → list_all (is_other 10) (clause_text c) ≡ true
clause_line [] is = refl
clause_line (p ∷ ps) is = all_joined (codes ", ") (map part_text (p ∷ ps)) refl (all_mapped is_part (list_all (is_other 10)) part_text part_line (p ∷ ps) is)

clauses_line : (s : Sentence) → is_sentence s ≡ true → list_all (is_other 10) (behind (codes ": ") (map clause_text s)) ≡ true
clauses_line [] is = refl
clauses_line (c ∷ cs) is = all_behind (codes ": ") (map clause_text (c ∷ cs)) refl (all_mapped is_clause (list_all (is_other 10)) clause_text clause_line (c ∷ cs) is)

module _ (who : List ℕ) where
  -- without its newline
  abbrev open_line : Sentence → List ℕ
  open_line s = codes "  " ++ (who ++ behind (codes ": ") (map clause_text s))

  line_open : (s : Sentence) (r : List ℕ) → sentence_line who s ++ r ≡ open_line s ++ 10 ∷ r
  line_open s r =
      let inner : List ℕ = behind (codes ": ") (map clause_text s) in
      append_assoc (codes "  ") (who ++ (inner ++ 10 ∷ [])) r
      ∙ (ap (λ (t : List ℕ). codes "  " ++ t)
      (append_assoc who (inner ++ 10 ∷ []) r ∙ (ap (λ (t : List ℕ). who ++ t) (append_assoc inner (10 ∷ []) r) ∙ sym (append_assoc who inner (10 ∷ r))))
      ∙ sym (append_assoc (codes "  ") (who ++ inner) (10 ∷ r)))

  open_is_line : is_line who ≡ true → (s : Sentence) → is_sentence s ≡ true → list_all (is_other 10) (open_line s) ≡ true
  open_is_line line s is =
      all_both (is_other 10) (codes "  ") (who ++ behind (codes ": ") (map clause_text s)) refl (all_both (is_other 10) who (behind (codes ": ") (map clause_text s)) line (clauses_line s is))

  -- the whole lines in the first bytes of some sentences are the first of these sentences
  abbrev FirstSentences : ℕ → List Sentence → Type 0
  FirstSentences most ss = (first : List Sentence) × (are_sentences first ≡ true) × (lines_within most (sentence_lines who ss) ≡ sentence_lines who first)

  first_sentences : is_line who ≡ true → (most : ℕ) (ss : List Sentence) → are_sentences ss ≡ true → FirstSentences most ss
  first_sentences line most [] are = ([], refl, ap whole_lines (take-nil most))
  first_sentences line most (s ∷ ss) are = go (λ left. first_sentences line left ss (all_rest is_sentence s ss are)) (cases_lt (length (open_line s)) most)
    where
      rest : List ℕ
      rest = sentence_lines who ss

      laid : lines_within most (sentence_lines who (s ∷ ss)) ≡ lines_within most (open_line s ++ 10 ∷ rest)
      laid = ap (lines_within most) (line_open s rest)

      plain : list_all (is_other 10) (open_line s) ≡ true
      plain = open_is_line line s (all_first is_sentence s ss are)

      go : ((left : ℕ) → FirstSentences left ss) → (length (open_line s) < most) ⊎ (most ≤ length (open_line s)) → FirstSentences most (s ∷ ss)
      go of_rest (inr short) =
          let first = take most (open_line s) in
          let parts = and_parts (list_all (is_other 10) first) (list_all (is_other 10) (drop most (open_line s)))
          (sym (list_all-append (is_other 10) first (drop most (open_line s))) ∙ (ap (list_all (is_other 10)) (take-append-drop most (open_line s)) ∙ plain)) in
          ([], refl, laid ∙ (ap whole_lines (take-append-le most (open_line s) (10 ∷ rest) short) ∙ none_whole first parts.0))
      go of_rest (inl room) =
          let left : ℕ = most - suc (length (open_line s)) in
          let split : most ≡ length (open_line s) + suc left = omega (arith, room) in
          let more = of_rest left in (
            s ∷ more.0,
            and_from (is_sentence s) (are_sentences more.0) (all_first is_sentence s ss are) more.1,
            laid
                ∙ (ap (λ (n : ℕ). lines_within n (open_line s ++ 10 ∷ rest)) split
                ∙ (ap whole_lines (take-append-add (open_line s) (10 ∷ rest) (suc left))
                ∙ (line_whole (open_line s) (take left rest) ∙ (ap (λ (t : List ℕ). open_line s ++ 10 ∷ t) more.2 ∙ sym (line_open s (sentence_lines who more.0)))))),
          )

  -- the line about what is left out is a sentence
  more_said : (count : ℕ) → InSentences who (more_line who count)
  more_said count =
      let number : List ℕ = decimal count ++ codes " more bytes" in
      let fit = both_fit (decimal count) (codes " more bytes") (word_fits (decimal count) (decimal_is_word count)) refl in
      let clause = clause_more number (codes "not shown") (clause_of_part number fit) refl in
      let laid : more_text count ≡ (number ++ codes ", not shown") ++ 10 ∷ [] =
      sym (append_assoc (decimal count) (codes " more bytes, not shown") (10 ∷ []))
      ∙ ap (λ (t : List ℕ). t ++ 10 ∷ []) (sym (append_assoc (decimal count) (codes " more bytes") (codes ", not shown"))) in
      subst (λ (t : List ℕ). InSentences who (codes "  " ++ (who ++ (codes ": " ++ t)))) (sym laid) (one_clause who (number ++ codes ", not shown") clause)

  -- what is printed of sentences is sentences
  shortened_said_so : is_line who ≡ true → (most : Option ℕ) (text : List ℕ) → InSentences who text → InSentences who (shortened most who text)
  shortened_said_so line None text are = are
  shortened_said_so line (Some most) text (ss, are, is) = go (nat_lt most (length text))
    where
      kept : List ℕ
      kept = lines_within most text

      go : (b : Bool) → InSentences who (if b then kept ++ more_line who (length text - length kept) else text)
      go true =
          let first = first_sentences line most ss are in
          both_sentences who kept (more_line who (length text - length kept)) (first.0, first.1, ap (lines_within most) is ∙ first.2) (more_said (length text - length kept))
      go false = (ss, are, is)

verb_line : (tasks : List TaskId) (names : List ℕ) → is_line names ≡ true → is_line (names ++ verb_of tasks) ≡ true
verb_line tasks names line = all_both (is_other 10) names (verb_of tasks) line (go (nat_lt 1 (length tasks)))
  where
    go : (b : Bool) → list_all (is_other 10) (if b then codes " learn" else codes " learns") ≡ true
    go true = refl
    go false = refl

see_line : (tasks : List TaskId) (names : List ℕ) → is_line names ≡ true → is_line (names ++ see_of tasks) ≡ true
see_line tasks names line = all_both (is_other 10) names (see_of tasks) line (go (nat_lt 1 (length tasks)))
  where
    go : (b : Bool) → list_all (is_other 10) (if b then codes " see" else codes " sees") ≡ true
    go true = refl
    go false = refl

pub shortened_are_sentences : ShortenedAreSentences
shortened_are_sentences tasks names most who [] line learns sees are = tt
shortened_are_sentences tasks names most who (s ∷ said) line learns sees are = (
  subst (λ (t : List ℕ). InSentences (names ++ verb_of tasks) (shortened most t s.text)) (sym learns)
      (shortened_said_so (names ++ verb_of tasks) (verb_line tasks names line) most s.text are.0),
  subst (λ (t : List ℕ). InSentences (names ++ see_of tasks) (shortened most t s.shown)) (sym sees)
      (shortened_said_so (names ++ see_of tasks) (see_line tasks names line) most s.shown are.1),
  shortened_are_sentences tasks names most who said line learns sees are.2,
)
