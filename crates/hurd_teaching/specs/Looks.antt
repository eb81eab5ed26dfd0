-- Where a text asks what is seen, by a line `# see`, and where lessons begin, by a line `# from here`.
use Rattle.std.specs.Prelude.{ℕ, suc, ◌-◌, Bool, true, false, List, [], ◌∷◌, slice_get, Option, Some, None, if◌then◌else◌, bytes_eq, codes, option_map}
use Rattle.hurd_words.specs.Lines.{is_skipped}

-- the line that asks
abbrev pub is_look : List ℕ → Bool
is_look line = bytes_eq line (codes "# see")

-- one comes before the next line that says something
abbrev pub asks_first : List (List ℕ) → Bool
asks_first [] = false
asks_first (line ∷ lines) = if is_look line then true else if is_skipped line then asks_first lines else false

-- of each line that says something, whether one stands right after it
abbrev pub asks_behind : List (List ℕ) → List Bool
asks_behind [] = []
asks_behind (line ∷ lines) =
    if is_look line then asks_behind lines
    else if is_skipped line then asks_behind lines
    else asks_first lines ∷ asks_behind lines

-- the same, and first what comes before any of them; nothing comes before that
abbrev pub asks_of : List (List ℕ) → List Bool
asks_of lines = false ∷ asks_first lines ∷ asks_behind lines

-- whether it is asked where so many things are done
abbrev pub is_asked : Option Bool → Bool
is_asked None = false
is_asked (Some b) = b

abbrev pub is_due : List Bool → ℕ → Bool
is_due looks made = is_asked (slice_get looks made)

-- the line from which on lessons are told
abbrev pub is_start : List ℕ → Bool
is_start line = bytes_eq line (codes "# from here")

-- how many lines that say something stand before the first such line, if there is one
abbrev pub said_before : List (List ℕ) → Option ℕ
said_before [] = None
said_before (line ∷ lines) =
    if is_start line then Some 0
    else if is_skipped line then said_before lines
    else option_map suc (said_before lines)

-- how many things are done before lessons begin, where the first of so many places before and after lines that say something are none after a thing that is done
abbrev pub starts_behind : ℕ → Option ℕ → ℕ
starts_behind first None = 0
starts_behind first (Some said) = said - (first - 1)

abbrev pub starts_of : ℕ → List (List ℕ) → ℕ
starts_of first lines = starts_behind first (said_before lines)
