-- Bytes with escapes.
use Rattle.std.specs.Prelude.{ℕ, ◌+◌, ◌-◌, ◌/◌, ◌%◌, ◌==◌, ◌&&◌, ◌++◌, List, [], ◌∷◌, if◌then◌else◌, nat_le, nat_lt}

-- a hexadecimal digit
abbrev pub hex_letter : ℕ → ℕ
hex_letter v = if nat_lt v 10 then 48 + v else 97 + (v - 10)

-- a byte as it is printed: by an escape where no word has it as it is
abbrev pub escaped_byte : ℕ → List ℕ
escaped_byte b =
    if b == 32 then 92 ∷ 115 ∷ []
    else if b == 10 then 92 ∷ 110 ∷ []
    else if b == 92 then 92 ∷ 92 ∷ []
    else if nat_le 33 b && nat_le b 126 then b ∷ []
    else 92 ∷ 120 ∷ hex_letter (b / 16) ∷ hex_letter (b % 16) ∷ []

-- bytes one after another, each as it is printed
unfoldable pub escaped : List ℕ → List ℕ
escaped [] = []
escaped (b ∷ bs) = escaped_byte b ++ escaped bs
