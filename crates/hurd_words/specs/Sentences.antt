-- Sentences of the programs that say what is learned: clauses between colons, of parts between commas, of words between spaces.
use Rattle.std.specs.Prelude.{◌≡◌, ℕ, ◌==◌, ◌&&◌, ◌||◌, not, Bool, true, false, List, [], ◌∷◌, ◌++◌, map, codes, nat_lt}
use Rattle.std.specs.List.{concat, list_all}

-- texts with another between them
abbrev pub behind : List ℕ → List (List ℕ) → List ℕ
behind between [] = []
behind between (text ∷ texts) = between ++ (text ++ behind between texts)

abbrev pub joined : List ℕ → List (List ℕ) → List ℕ
joined between [] = []
joined between (text ∷ texts) = text ++ behind between texts

-- a part, by its words as they are printed; a clause, by its parts; a sentence, by its clauses
abbrev pub Part : Type 0
Part = List (List ℕ)

abbrev pub Clause : Type 0
Clause = List Part

abbrev pub Sentence : Type 0
Sentence = List Clause

abbrev pub part_text : Part → List ℕ
part_text words = joined (codes " ") words

abbrev pub clause_text : Clause → List ℕ
clause_text parts = joined (codes ", ") (map part_text parts)

-- a sentence about somebody, on a line: as `  alice learns: /tmp/notes: new: attributes, bytes`
abbrev pub sentence_line : List ℕ → Sentence → List ℕ
sentence_line who clauses = codes "  " ++ (who ++ (behind (codes ": ") (map clause_text clauses) ++ 10 ∷ []))

abbrev pub sentence_lines : List ℕ → List Sentence → List ℕ
sentence_lines who sentences = concat (map (sentence_line who) sentences)

-- a byte that may stand in a word: no space and no control byte, and none between which words are told apart
abbrev pub is_letter : ℕ → Bool
is_letter b = nat_lt 32 b && not (b == 44 || b == 58)

-- a byte that may stand in a part: a letter of a word, or the space between two
abbrev pub is_fit : ℕ → Bool
is_fit b = is_letter b || b == 32

-- a word has only such letters
abbrev pub is_word : List ℕ → Bool
is_word word = list_all is_letter word

-- a part has words, a clause has parts, and a sentence has clauses
abbrev pub some : {A : Type 0} → (A → Bool) → List A → Bool
some test [] = false
some test (x ∷ xs) = list_all test (x ∷ xs)

abbrev pub is_part : Part → Bool
is_part words = some is_word words

abbrev pub is_clause : Clause → Bool
is_clause parts = some is_part parts

abbrev pub is_sentence : Sentence → Bool
is_sentence clauses = some is_clause clauses

abbrev pub are_sentences : List Sentence → Bool
are_sentences sentences = list_all is_sentence sentences

-- a text is sentences about somebody
abbrev pub InSentences : List ℕ → List ℕ → Type 0
InSentences who text = (sentences : List Sentence) × (are_sentences sentences ≡ true) × (text ≡ sentence_lines who sentences)
