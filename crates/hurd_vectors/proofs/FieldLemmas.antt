-- Fields in turn, as they are printed.
use Rattle.std.proofs.Common.{◌≡◌, ◌<◌, ◌≤◌, ◌+◌, ◌++◌, ◌∷◌, [], ℕ, List, refl, sym, ◌∙◌, ap, append_assoc, drop, get_or, length}
use Rattle.std.specs.Prelude.{OnOk, Result}
use Rattle.std.proofs.lemmas.List.{at_drop_all, at_drop_more}
use Rattle.std.proofs.lemmas.Result.{on_ok_weaker}
use Rattle.hurd_lists.specs.Calls.{behind_box}
use Rattle.hurd_lists.specs.Lists.{verb_named}
use Rattle.hurd_vectors.specs.Fields.{call_fields, field_text, fields_of, server_text, sort_of, told_fields, word_at, words_behind}
use Rattle.hurd_vectors.specs.declared.field.Field.{Field}
use Rattle.hurd_vectors.specs.declared.field.Field.TheVariants.{Call, Task}
use Rattle.hurd_vectors.proofs.PieceLemmas.{two_printed}

none_left : (words : List (List ℕ)) → told_fields [] words ≡ server_text (behind_box words)
unfolding told_fields
none_left words = refl

one_more : (f : Field) (fs : List Field) (words : List (List ℕ)) → told_fields (f ∷ fs) words ≡ field_text f words ++ told_fields fs (words_behind (sort_of f) words)
unfolding told_fields
one_more f fs words = refl

-- the next field was printed
pub field_next : (front new : List ℕ) (fields : List Field) (i : ℕ) (f d : Field) (words left : List (List ℕ)) → i < length fields → f ≡ get_or fields i d
    → new ≡ front ++ field_text f words → left ≡ words_behind (sort_of f) words
    → new ++ told_fields (drop (i + 1) fields) left ≡ front ++ told_fields (drop i fields) words
field_next front new fields i f d words left h is e behind =
    let rest = drop (i + 1) fields in
    let here : told_fields (drop i fields) words ≡ field_text f words ++ told_fields rest (words_behind (sort_of f) words) =
    at_drop_more (λ (fs : List Field). told_fields fs words) fields i d h ∙ (ap (λ (g : Field). told_fields (g ∷ rest) words) (sym is) ∙ one_more f rest words) in
    ap (λ (n : List ℕ). n ++ told_fields rest left) e
    ∙ (append_assoc front (field_text f words) (told_fields rest left)
    ∙ ap (λ (t : List ℕ). front ++ t) (ap (λ (ws : List (List ℕ)). field_text f words ++ told_fields rest ws) behind ∙ sym here))

-- none is left but the words of a server
pub fields_ended : (front : List ℕ) (fields : List Field) (i : ℕ) (words : List (List ℕ)) → length fields ≤ i
    → front ++ told_fields (drop i fields) words ≡ front ++ server_text (behind_box words)
fields_ended front fields i words h = ap (λ (t : List ℕ). front ++ t) (at_drop_all (λ (fs : List Field). told_fields fs words) fields i h ∙ none_left words)

-- the task, the call and the fields of its arguments were printed
pub call_told : {T E : Type 0} (r : Result T E) (front one two all : List ℕ) (fs : List Field) (words rest last : List (List ℕ)) → fs ≡ fields_of (verb_named (word_at words 1))
    → one ≡ front ++ field_text Task words → rest ≡ drop 1 words → two ≡ one ++ field_text Call rest → last ≡ drop 1 rest → OnOk r (all ≡ two ++ told_fields fs last)
    → OnOk r (all ≡ front ++ call_fields words)
call_told r front one two all fs words rest last named e skipped f behind told =
    let verb = fields_of (verb_named (word_at words 1)) in
    let later : told_fields fs last ≡ told_fields verb (drop 1 rest) = ap (λ (gs : List Field). told_fields gs last) named ∙ ap (told_fields verb) behind in
    let called : field_text Call rest ++ told_fields fs last ≡ told_fields (Call ∷ verb) (drop 1 words) =
    ap (λ (t : List ℕ). field_text Call rest ++ t) later ∙ (sym (one_more Call verb rest) ∙ ap (told_fields (Call ∷ verb)) skipped) in
    let whole : field_text Task words ++ (field_text Call rest ++ told_fields fs last) ≡ call_fields words =
    ap (λ (t : List ℕ). field_text Task words ++ t) called ∙ sym (one_more Task (Call ∷ verb) words) in
    on_ok_weaker r (λ (so : all ≡ front ++ (field_text Task words ++ (field_text Call rest ++ told_fields fs last))). so ∙ ap (λ (t : List ℕ). front ++ t) whole)
    (two_printed r front one all (field_text Task words) (field_text Call rest ++ told_fields fs last) e (two_printed r one two all (field_text Call rest) (told_fields fs last) f told))
