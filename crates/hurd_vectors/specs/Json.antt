-- What is printed as JSON: texts, numbers, and arrays of them.
use Rattle.std.specs.Prelude.{ℕ, ◌/◌, ◌%◌, ◌==◌, ◌&&◌, Bool, List, [], ◌∷◌, ◌++◌, Option, Some, None, if◌then◌else◌, bytes_eq, codes, decimal, drop, nat_le}
use Rattle.std.specs.List.{slice_split}
use Rattle.hurd_creds.specs.Numbers.{long_number_of}
use Rattle.hurd_words.specs.Escapes.{hex_letter}

-- a byte of a text: by an escape where it is a quote, a backslash, or not printable ASCII
abbrev pub json_byte : ℕ → List ℕ
json_byte b =
    if b == 34 then codes "\\\""
    else if b == 92 then codes "\\\\"
    else if b == 8 then codes "\\b"
    else if b == 9 then codes "\\t"
    else if b == 10 then codes "\\n"
    else if b == 12 then codes "\\f"
    else if b == 13 then codes "\\r"
    else if nat_le 32 b && nat_le b 126 then b ∷ []
    else codes "\\u00" ++ hex_letter (b / 16 % 16) ∷ hex_letter (b % 16) ∷ []

-- the bytes of a text, one after another
unfoldable pub json : List ℕ → List ℕ
json [] = []
json (b ∷ bs) = json_byte b ++ json bs

-- a text between quotes
abbrev pub quoted : List ℕ → List ℕ
quoted bytes = 34 ∷ json bytes ++ 34 ∷ []

-- the bytes of names that are joined by commas: each comma ends a text and begins another
abbrev pub name_byte : ℕ → List ℕ
name_byte b = if b == 44 then codes "\", \"" else json_byte b

unfoldable pub name_bytes : List ℕ → List ℕ
name_bytes [] = []
name_bytes (b ∷ bs) = name_byte b ++ name_bytes bs

-- names joined by commas, or `-` for none, as an array of texts
abbrev pub names : List ℕ → List ℕ
names word = if bytes_eq word (codes "-") then codes "[]" else codes "[\"" ++ (name_bytes word ++ codes "\"]")

-- a number that is there, and else zero
abbrev pub found : Option ℕ → ℕ
found None = 0
found (Some n) = n

-- digits as a number, without zeros that lead
abbrev pub natural : List ℕ → List ℕ
natural digits = decimal (found (long_number_of digits))

-- so much below zero
abbrev pub below : ℕ → List ℕ
below n = (if n == 0 then [] else codes "-") ++ decimal n

-- digits as a number, after `-` where it is below zero
abbrev pub number : List ℕ → List ℕ
number [] = natural []
number (b ∷ bs) = if b == 45 then below (found (long_number_of bs)) else natural (b ∷ bs)

-- numbers, each after a comma
unfoldable pub more_numbers : List (List ℕ) → List ℕ
more_numbers [] = []
more_numbers (word ∷ words) = codes ", " ++ (natural word ++ more_numbers words)

abbrev pub joined_numbers : List (List ℕ) → List ℕ
joined_numbers [] = []
joined_numbers (word ∷ words) = natural word ++ more_numbers words

-- numbers joined by commas, or `-` for none, as an array of numbers
abbrev pub numbers : List ℕ → List ℕ
numbers word = if bytes_eq word (codes "-") then codes "[]" else 91 ∷ joined_numbers (slice_split (λ b. b == 44) word) ++ 93 ∷ []

-- texts without so many of their first bytes, each after a comma
unfoldable pub more_texts : ℕ → List (List ℕ) → List ℕ
more_texts skip [] = []
more_texts skip (text ∷ texts) = codes ", " ++ (quoted (drop skip text) ++ more_texts skip texts)

abbrev pub joined_texts : ℕ → List (List ℕ) → List ℕ
joined_texts skip [] = []
joined_texts skip (text ∷ texts) = quoted (drop skip text) ++ more_texts skip texts

-- the same as an array of texts
abbrev pub texts : ℕ → List (List ℕ) → List ℕ
texts skip items = 91 ∷ joined_texts skip items ++ 93 ∷ []

-- true or false
abbrev pub truth : Bool → List ℕ
truth b = if b then codes "true" else codes "false"
