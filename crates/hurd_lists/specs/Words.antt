-- The words of a line.
use Rattle.std.specs.Prelude.{ℕ, ◌+◌, ◌-◌, ◌*◌, ◌==◌, ◌&&◌, List, [], ◌∷◌, Option, Some, None, if◌then◌else◌, nat_le}
use Rattle.hurd_words.specs.Words.{Spelling, escape_code, onto}
use Rattle.hurd_lists.specs.declared.words.Escape.{Escape}
use Rattle.hurd_lists.specs.declared.words.Escape.TheVariants.{Plain, Begun, Hex, Half}

-- the value of a hexadecimal digit, `0` to `9`, `a` to `f` or `A` to `F`
abbrev pub hex_digit : ℕ → Option ℕ
hex_digit b =
    if nat_le 48 b && nat_le b 57 then Some (b - 48)
    else if nat_le 97 b && nat_le b 102 then Some (b - 97 + 10)
    else if nat_le 65 b && nat_le b 70 then Some (b - 65 + 10)
    else None

-- the byte of two digits' values
abbrev pub two_digits : Option ℕ → Option ℕ → Option ℕ
two_digits (Some high) (Some low) = Some (high * 16 + low)
two_digits _ _ = None

-- the byte of two hexadecimal digits
abbrev pub hex_byte : ℕ → ℕ → Option ℕ
hex_byte high low = two_digits (hex_digit high) (hex_digit low)

-- the bytes of a word, or of its rest where an escape has come so far
unfoldable pub bytes_after : Escape → List ℕ → Option (List ℕ)
bytes_after Plain [] = Some []
bytes_after Begun [] = None
bytes_after Hex [] = None
bytes_after (Half high) [] = None
bytes_after Plain (b ∷ bs) = if b == 92 then bytes_after Begun bs else onto (Some b) (bytes_after Plain bs)
bytes_after Begun (b ∷ bs) = if b == 120 then bytes_after Hex bs else onto (escape_code b) (bytes_after Plain bs)
bytes_after Hex (b ∷ bs) = bytes_after (Half b) bs
bytes_after (Half high) (b ∷ bs) = onto (hex_byte high b) (bytes_after Plain bs)

-- what a word spells, with its escapes resolved, or nothing where a backslash has another use
abbrev pub bytes_of : Spelling
bytes_of word = bytes_after Plain word
