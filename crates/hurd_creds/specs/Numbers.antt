-- Numbers in words.
use Rattle.std.specs.Prelude.{ℕ, ◌^◌, ◌&&◌, Bool, List, Option, Some, None, if◌then◌else◌, length, nat_le, nat_lt}
use Rattle.std.specs.List.{list_all}
use Rattle.std.specs.Char.{is_ascii_digit}
use Rattle.std.specs.Str.Parse.{digits_value}

-- decimal digits of a value of so many bits, without a sign; zeros may lead
abbrev pub decimal_of : ℕ → List ℕ → Option ℕ
decimal_of bits digits =
    if nat_lt 0 (length digits) && (list_all is_ascii_digit digits && nat_lt (digits_value 10 digits) (2 ^ bits)) then Some (digits_value 10 digits) else None

-- a number below 2 to the 32nd
abbrev pub number_of : List ℕ → Option ℕ
number_of digits = decimal_of 32 digits

-- a number below 2 to the 64th
abbrev pub long_number_of : List ℕ → Option ℕ
long_number_of digits = decimal_of 64 digits

-- a digit from 0 to 7
abbrev pub is_octal_digit : ℕ → Bool
is_octal_digit b = nat_le 48 b && nat_le b 55

-- octal digits of a value below 2 to the 32nd, without a sign; zeros may lead
abbrev pub octal_number_of : List ℕ → Option ℕ
octal_number_of digits =
    if nat_lt 0 (length digits) && (list_all is_octal_digit digits && nat_lt (digits_value 8 digits) (2 ^ 32)) then Some (digits_value 8 digits) else None
