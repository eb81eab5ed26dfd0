-- Text, flags and words.
use Rattle.std.proofs.Common.{◌≡◌, ◌<◌, ◌≤◌, ◌+◌, ◌++◌, ◌∷◌, [], Bor, List, ℕ, Option, Some, None, true, false, refl, sym, ◌∙◌, ap, append-nil, drop, get_or, length, option_and_then, option_map, bit_or}
use Rattle.std.specs.Prelude.{Err}
use Rattle.std.specs.Str.{IsUtf8, is_utf8}
use Rattle.std.proofs.lemmas.List.{at_drop_all, at_drop_more, map-append}
use Rattle.std.proofs.lemmas.Str.{IsUtf8-from_is_utf8, is_utf8-from_IsUtf8}
use Rattle.bitflags.specs.Sets.{Row, find_name}
use Rattle.hurd_words.specs.Reading.{Reads, behind, said}
use Rattle.hurd_words.specs.declared.fault.ReadFault.{ReadFault}
use Rattle.hurd_words.specs.declared.fault.ReadFault.TheVariants as fault
use Rattle.hurd_words.proofs.Loops.{behind-push, last_piece, next_piece, piece_at}
use Rattle.hurd_lists.specs.Arguments.{ReadsInPlace, bytes_of, text_of, texts_of, with_names}

pub is_text : (bs text : List ℕ) → text ≡ bs → IsUtf8 bs → text_of bs ≡ Some text
is_text bs text same is = rw (is_utf8-from_IsUtf8 bs is) (ap Some (sym same))

pub no_text : (bs : List ℕ) → (IsUtf8 bs → ⊥) → text_of bs ≡ None
no_text bs not = elim (is_utf8 bs) as (λ is. is_utf8 bs ≡ is → text_of bs ≡ None) [
  | true ↦ λ e. absurd (not (IsUtf8-from_is_utf8 bs e))
  | false ↦ λ e. rw e refl
] refl

-- what was not found of a part is not read of the whole
pub not_found : {X Y W Z : Type 0} (v : X → Y) (w : W → Z) (part : Option Y) (wanted : Option Z) (e : ReadFault) → (part ≡ None → wanted ≡ None) → ReadsInPlace v part (Err e) → Reads w wanted (Err e)
not_found v w part wanted fault.Memory none r = absurd r
not_found v w part wanted fault.Bad none r = none r

module _ (rows : List Row) (bits : ℕ) where
  taken : (names : List (List ℕ)) (o : Option ℕ) (new : ℕ) → option_map (bit_or bits) o ≡ Some new → option_and_then (λ flag. with_names rows (bit_or bits flag) names) o ≡ with_names rows new names
  taken names None new e = absurd (cc)
  taken names (Some flag) new e = let same : bit_or bits flag ≡ new = cc in ap (λ (n : ℕ). with_names rows n names) same

  refused : (names : List (List ℕ)) (o : Option ℕ) → option_map (bit_or bits) o ≡ None → option_and_then (λ flag. with_names rows (bit_or bits flag) names) o ≡ None
  refused names None e = refl
  refused names (Some flag) e = absurd (cc)

  more_names : (name : List ℕ) (names : List (List ℕ)) → with_names rows bits (name ∷ names) ≡ option_and_then (λ flag. with_names rows (bit_or bits flag) names) (find_name rows name)
  unfolding with_names
  more_names name names = refl

  no_names : with_names rows bits [] ≡ Some bits
  unfolding with_names
  no_names = refl

  module _ (items : List (Bor (List ℕ))) (i : ℕ) where
    next_name : i < length items
        → with_names rows bits (drop i (said items)) ≡ option_and_then (λ flag. with_names rows (bit_or bits flag) (drop (i + 1) (said items))) (find_name rows (piece_at items i))
    next_name h = next_piece (with_names rows bits) items i h ∙ more_names (piece_at items i) (drop (i + 1) (said items))

    -- the next name is a flag's
    pub flag_taken : (new : ℕ) → i < length items → option_map (bit_or bits) (find_name rows (piece_at items i)) ≡ Some new
        → with_names rows new (drop (i + 1) (said items)) ≡ with_names rows bits (drop i (said items))
    flag_taken new h e = sym (next_name h ∙ taken (drop (i + 1) (said items)) (find_name rows (piece_at items i)) new e)

    pub flag_refused : i < length items → option_map (bit_or bits) (find_name rows (piece_at items i)) ≡ None → with_names rows bits (drop i (said items)) ≡ None
    flag_refused h e = next_name h ∙ refused (drop (i + 1) (said items)) (find_name rows (piece_at items i)) e

    -- no name is left
    pub flags_ended : length items ≤ i → with_names rows bits (drop i (said items)) ≡ Some bits
    flags_ended h = last_piece (with_names rows bits) items i h ∙ no_names

-- the words from a place on, after the texts of those before it
abbrev pub texts_from : List (Bor (List ℕ)) → List (List ℕ) → Option (List (List ℕ))
texts_from texts words = behind (said texts) (texts_of words)

more_texts : (texts : List (Bor (List ℕ))) (word : List ℕ) (words : List (List ℕ))
    → texts_from texts (word ∷ words) ≡ behind (said texts) (option_and_then (λ text. option_map (λ rest. text ∷ rest) (texts_of words)) (bytes_of word))
unfolding texts_of
more_texts texts word words = refl

no_texts : texts_of [] ≡ Some []
unfolding texts_of
no_texts = refl

module _ (texts : List (Bor (List ℕ))) (words : List (List ℕ)) (i : ℕ) where
  module _ (d : List ℕ) (h : i < length words) where
    next_text : (o : Option (List ℕ)) → bytes_of (get_or words i d) ≡ o
        → texts_from texts (drop i words) ≡ behind (said texts) (option_and_then (λ text. option_map (λ rest. text ∷ rest) (texts_of (drop (i + 1) words))) o)
    next_text o e =
        at_drop_more (texts_from texts) words i d h ∙ (more_texts texts (get_or words i d) (drop (i + 1) words)
        ∙ ap (λ (p : Option (List ℕ)). behind (said texts) (option_and_then (λ text. option_map (λ rest. text ∷ rest) (texts_of (drop (i + 1) words))) p)) e)

    -- the next word has bytes after `=`
    pub text_taken : (new : List (Bor (List ℕ))) (text : Bor (List ℕ)) → bytes_of (get_or words i d) ≡ Some text.now → new ≡ texts ++ text ∷ []
        → texts_from new (drop (i + 1) words) ≡ texts_from texts (drop i words)
    text_taken new text e is =
        sym (next_text (Some text.now) e ∙ (behind-push (said texts) text.now (texts_of (drop (i + 1) words))
        ∙ ap (λ (front : List (List ℕ)). behind front (texts_of (drop (i + 1) words))) (sym (ap said is ∙ map-append (λ (p : Bor (List ℕ)). p.now) texts (text ∷ [])))))

    pub text_refused : bytes_of (get_or words i d) ≡ None → texts_from texts (drop i words) ≡ None
    text_refused e = next_text None e

  -- no word is left
  pub texts_ended : length words ≤ i → texts_from texts (drop i words) ≡ Some (said texts)
  texts_ended h = at_drop_all (texts_from texts) words i h ∙ (ap (behind (said texts)) no_texts ∙ ap Some (append-nil (said texts)))
