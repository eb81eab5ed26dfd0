-- Loops over bytes, numbers and texts, as they are printed.
use Rattle.std.proofs.Common.{Bor, ◌≡◌, ◌<◌, ◌≤◌, ◌+◌, ◌++◌, ◌∷◌, [], ℕ, List, refl, sym, ◌∙◌, ap, append_assoc, append-nil, drop, get_or, length, codes}
use Rattle.std.proofs.lemmas.List.{at_drop_all, at_drop_more}
use Rattle.hurd_words.specs.Reading.{said}
use Rattle.hurd_words.proofs.Loops.{last_piece, next_piece, piece_at}
use Rattle.hurd_vectors.specs.Json.{json, json_byte, more_numbers, more_texts, name_byte, name_bytes, natural, quoted}

-- what is printed of a list by its items: nothing of none, and of others the first and then the rest
pub record InTurn {A : Type 0} (all : List A → List ℕ) (one : A → List ℕ) : Type 0 where
  pub none : all [] ≡ []
  pub more : (x : A) (xs : List A) → all (x ∷ xs) ≡ one x ++ all xs

-- the next item was printed
pub next_printed : {A : Type 0} (all : List A → List ℕ) (one : A → List ℕ) → InTurn all one → (front new : List ℕ) (items : List A) (i : ℕ) (x d : A) → i < length items → x ≡ get_or items i d
    → new ≡ front ++ one x → new ++ all (drop (i + 1) items) ≡ front ++ all (drop i items)
next_printed all one turn front new items i x d h is e =
    ap (λ (n : List ℕ). n ++ all (drop (i + 1) items)) e
    ∙ (append_assoc front (one x) (all (drop (i + 1) items))
    ∙ ap (λ (t : List ℕ). front ++ t) (sym (at_drop_more all items i d h ∙ (turn.more (get_or items i d) (drop (i + 1) items) ∙ ap (λ y. one y ++ all (drop (i + 1) items)) (sym is)))))

-- none is left
pub all_printed : {A : Type 0} (all : List A → List ℕ) (one : A → List ℕ) → InTurn all one → (front : List ℕ) (items : List A) (i : ℕ) → length items ≤ i → front ++ all (drop i items) ≡ front
all_printed all one turn front items i h = ap (λ (t : List ℕ). front ++ t) (at_drop_all all items i h ∙ turn.none) ∙ append-nil front

-- bytes, names, numbers and texts are printed so

pub json_in_turn : InTurn json json_byte
unfolding json
json_in_turn = record { none = refl; more = λ b bs. refl }

pub names_in_turn : InTurn name_bytes name_byte
unfolding name_bytes
names_in_turn = record { none = refl; more = λ b bs. refl }

pub texts_in_turn : (skip : ℕ) → InTurn (more_texts skip) (λ text. codes ", " ++ quoted (drop skip text))
unfolding more_texts
texts_in_turn skip = record { none = refl; more = λ t ts. refl }

more_here : (word : List ℕ) (words : List (List ℕ)) → more_numbers (word ∷ words) ≡ (codes ", " ++ natural word) ++ more_numbers words
unfolding more_numbers
more_here word words = refl

none_here : more_numbers [] ≡ []
unfolding more_numbers
none_here = refl

-- of borrowed pieces the next number was printed, or none is left

pub number_printed : (front new : List ℕ) (items : List (Bor (List ℕ))) (i : ℕ) (word : List ℕ) → i < length items → word ≡ piece_at items i → new ≡ front ++ (codes ", " ++ natural word)
    → new ++ more_numbers (drop (i + 1) (said items)) ≡ front ++ more_numbers (drop i (said items))
number_printed front new items i word h is e =
    ap (λ (n : List ℕ). n ++ more_numbers (drop (i + 1) (said items))) e
    ∙ (append_assoc front (codes ", " ++ natural word) (more_numbers (drop (i + 1) (said items)))
    ∙ ap (λ (t : List ℕ). front ++ t) (sym (next_piece more_numbers items i h ∙ (more_here (piece_at items i) (drop (i + 1) (said items)) ∙ ap (λ (w : List ℕ). (codes ", " ++ natural w) ++ more_numbers (drop (i + 1) (said items))) (sym is)))))

pub numbers_printed : (front : List ℕ) (items : List (Bor (List ℕ))) (i : ℕ) → length items ≤ i → front ++ more_numbers (drop i (said items)) ≡ front
numbers_printed front items i h = ap (λ (t : List ℕ). front ++ t) (last_piece more_numbers items i h ∙ none_here) ∙ append-nil front
