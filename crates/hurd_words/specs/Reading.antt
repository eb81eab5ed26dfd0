-- What the functions that read texts say of each other.
use Rattle.std.specs.Prelude.{map, ◌≡◌, ℕ, ◌++◌, Bool, List, ◌∷◌, Option, Some, None, Result, Ok, Err, filter, filter_map, option_map, if◌then◌else◌}
use Rattle.std.specs.Borrow.{Bor}
use Rattle.std.specs.List.{list_any}
use Rattle.hurd_words.specs.Words.{Spelling, has_bytes, is_bad_word, text_after}
use Rattle.hurd_words.specs.declared.fault.ReadFault.{ReadFault}
use Rattle.hurd_words.specs.declared.fault.ReadFault.TheVariants as fault

-- what was to be read is read, or is bad, or memory was refused
abbrev pub Reads : {X Y : Type 0} → (X → Y) → Option Y → Result X ReadFault → Type 0
Reads view wanted (Ok x) = wanted ≡ Some (view x)
Reads view wanted (Err fault.Memory) = Unit {0}
Reads view wanted (Err fault.Bad) = wanted ≡ None

-- what a word spells, if it is a good one
abbrev pub good_word : Spelling → Spelling
good_word spelling word = if is_bad_word spelling word then None else spelling word

-- the words that pieces of a line spell, if each is a good one
abbrev pub good_words : Spelling → List (List ℕ) → Option (List (List ℕ))
good_words spelling pieces =
    if list_any (is_bad_word spelling) (filter has_bytes pieces) then None
    else Some (filter_map spelling (filter has_bytes pieces))

-- these, and then those
abbrev pub behind : {X : Type 0} → List X → Option (List X) → Option (List X)
behind front rest = option_map (λ xs. front ++ xs) rest

-- a part is read, whatever parts follow it: reading all of them is reading the rest, with more in front
abbrev pub Takes : {X : Type 0} → (List (List ℕ) → Option (List X)) → List ℕ → List X → List X → Type 0
Takes read part before after = (rest : List (List ℕ)) → behind before (read (part ∷ rest)) ≡ behind after (read rest)

-- a part is bad, whatever parts follow it
abbrev pub Refuses : {X : Type 0} → (List (List ℕ) → Option (List X)) → List ℕ → Type 0
Refuses read part = (rest : List (List ℕ)) → read (part ∷ rest) ≡ None

-- a byte of a word is read, after a backslash or not, whatever bytes follow it
abbrev pub TakesByte : Bool → ℕ → Bool → List ℕ → List ℕ → Type 0
TakesByte escaped byte next before after =
    (rest : List ℕ) → behind before (text_after escaped (byte ∷ rest)) ≡ behind after (text_after next rest)

-- a byte of a word is bad, whatever bytes follow it
abbrev pub RefusesByte : Bool → ℕ → Type 0
RefusesByte escaped byte = (rest : List ℕ) → text_after escaped (byte ∷ rest) ≡ None

-- what borrowed pieces say
abbrev pub said : List (Bor (List ℕ)) → List (List ℕ)
said pieces = map (λ piece. piece.now) pieces
