-- What is no text numbers no tasks.
use Rattle.std.proofs.Common.{◌≡◌, ◌&&◌, ◌⊎◌, ◌==◌, ℕ, Bool, true, false, List, [], ◌∷◌, Option, Some, None, arith, inl, inr, length, nat_lt, refl, subst}
use Rattle.std.specs.Char.{is_ascii_digit}
use Rattle.std.specs.List.{join_with_byte, list_all, slice_split}
use Rattle.std.specs.Str.{IsUtf8}
use Rattle.std.proofs.lemmas.Bool.{cases_Bool}
use Rattle.std.proofs.lemmas.List.Splits.{join_with_byte-slice_split}
use Rattle.std.proofs.lemmas.Str.{IsUtf8-append, IsUtf8-from_ascii, IsUtf8-nil}
use Rattle.std.proofs.lemmas.Str.Ascii.{IsAscii-cons, IsAscii-nil}
use Rattle.hurd_creds.specs.Numbers.{number_of}
use Rattle.hurd_creds.proofs.NumberLemmas.{digits_text}
use Rattle.hurd_words.specs.Words.{onto}
use Rattle.hurd_calls.specs.Tasks.{task_of}
use Rattle.hurd_terminal.specs.declared.fault.Fault.TheVariants.{Unknown}
use Rattle.hurd_teaching.specs.Learners.{tasks_of}
use Rattle.hurd_sitting.specs.Watching.{NotWatched}

never_both : (a b : Bool) → (a && (false && b)) ≡ false
never_both true b = refl
never_both false b = refl

number_or_none : (bs : List ℕ) → (number_of bs ≡ None) ⊎ IsUtf8 bs
number_or_none bs = elim (cases_Bool (list_all is_ascii_digit bs)) [
  | inl is ↦ inr (digits_text bs is)
  | inr other ↦ inl (rw (other, never_both (nat_lt 0 (length bs)) _) refl)
]

onto_none : (o : Option ℕ) → onto o None ≡ None
onto_none None = refl
onto_none (Some n) = refl

joined_text : (word : List ℕ) (words : List (List ℕ)) → IsUtf8 word → IsUtf8 (join_with_byte 44 words) → IsUtf8 (join_with_byte 44 (word ∷ words))
joined_text word [] text rest = text
joined_text word (next ∷ words) text rest = IsUtf8-append word _ text (IsUtf8-append (44 ∷ []) _ (IsUtf8-from_ascii (44 ∷ []) (IsAscii-cons 44 [] (omega arith) IsAscii-nil)) rest)

words_or_none : (count : ℕ) (words : List (List ℕ)) → (tasks_of (task_of count) words ≡ None) ⊎ IsUtf8 (join_with_byte 44 words)
unfolding tasks_of
words_or_none count [] = inr IsUtf8-nil
words_or_none count (word ∷ words) = elim (number_or_none word) [
  | inl none ↦ inl (rw none refl)
  | inr text ↦ elim (words_or_none count words) [
    | inl none ↦ inl (rw none (onto_none (task_of count word)))
    | inr rest ↦ inr (joined_text word words text rest)
  ]
]

pub no_text : (count : ℕ) (who : List ℕ) → (IsUtf8 who → ⊥) → NotWatched count who Unknown
no_text count [] not = absurd (not IsUtf8-nil)
no_text count (b ∷ bs) not = elim (words_or_none count (slice_split (λ c. c == 44) (b ∷ bs))) [
  | inl none ↦ none
  | inr text ↦ absurd (not (subst IsUtf8 (join_with_byte-slice_split 44 (b ∷ bs)) text))
]
