-- Loops over borrowed pieces, and what they have read so far.
use Rattle.std.proofs.Common.{◌++◌, ◌⊎◌, inl, inr, Err, None, Option, Some, append_assoc, option_map, refl, sym, ℕ, ◌≡◌, ◌<◌, ◌≤◌, ◌+◌, ◌∷◌, [], List, Bor, ◌∙◌, ap, arith, drop, get_or, length}
use Rattle.hurd_words.specs.Reading.{Reads, behind, said}
use Rattle.hurd_words.specs.declared.fault.ReadFault.{ReadFault}
use Rattle.hurd_words.specs.declared.fault.ReadFault.TheVariants as fault
use Rattle.std.proofs.lemmas.List.{at_drop_more, at_drop_all, length-map, get_or-map}

-- a piece of nothing, which a read past the end would give
abbrev pub nothing : Bor (List ℕ)
nothing = record { ref_ptr = (0, 0); now = [] }

-- the piece at a place
abbrev pub piece_at : List (Bor (List ℕ)) → ℕ → List ℕ
piece_at items i = (get_or items i nothing).now

pub length-said : (items : List (Bor (List ℕ))) → length (said items) ≡ length items
length-said items = length-map items (λ (x : Bor (List ℕ)). x.now)

pub piece_at-said : (items : List (Bor (List ℕ))) (i : ℕ) → i < length items → piece_at items i ≡ get_or (said items) i []
piece_at-said items i h = sym (get_or-map (λ (x : Bor (List ℕ)). x.now) items i nothing [] h)

-- the next piece, and those after it
pub next_piece : {Y : Type 0} (F : List (List ℕ) → Y) (items : List (Bor (List ℕ))) (i : ℕ) → i < length items
    → F (drop i (said items)) ≡ F (piece_at items i ∷ drop (i + 1) (said items))
next_piece F items i h =
    at_drop_more F (said items) i [] (omega (arith, length-said items)) ∙ ap (λ (x : List ℕ). F (x ∷ drop (i + 1) (said items))) (sym (piece_at-said items i h))

-- no piece is left
pub last_piece : {Y : Type 0} (F : List (List ℕ) → Y) (items : List (Bor (List ℕ))) (i : ℕ) → length items ≤ i → F (drop i (said items)) ≡ F []
last_piece F items i h = at_drop_all F (said items) i (omega (arith, length-said items))

-- one thing more is in front
pub behind-push : {X : Type 0} (front : List X) (x : X) (o : Option (List X)) → behind front (option_map (λ xs. x ∷ xs) o) ≡ behind (front ++ x ∷ []) o
behind-push front x None = refl
behind-push front x (Some xs) = ap Some (sym (append_assoc front (x ∷ []) xs))

pub nothing_in_front : {X : Type 0} (o : Option (List X)) → behind [] o ≡ o
nothing_in_front None = refl
nothing_in_front (Some xs) = refl

-- what a refusal says
pub is_err : {X Y : Type 0} (view : X → Y) (wanted : Option Y) (e : ReadFault) → (e ≡ fault.Memory) ⊎ (wanted ≡ None) → Reads view wanted (Err e)
is_err view wanted fault.Memory h = tt
is_err view wanted fault.Bad (inl h) = absurd (cc)
is_err view wanted fault.Bad (inr h) = h
