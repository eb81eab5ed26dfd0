-- Modes in words.
use Rattle.std.specs.Prelude.{ℕ, ◌==◌, List, Option, Some, None, if◌then◌else◌, nat_le, option_and_then, length}
use Rattle.std.specs.Int.RustNames.{bit_and}
use Rattle.hurd_creds.specs.declared.mode.Mode.{Mode}
use Rattle.hurd_creds.specs.Bits.{known_modes}
use Rattle.hurd_creds.specs.Numbers.{octal_number_of}

-- one to six octal digits, without a sign; zeros may lead
abbrev pub octal_of : List ℕ → Option ℕ
octal_of digits = if nat_le (length digits) 6 then octal_number_of digits else None

-- the mode of these bits, where each is known
abbrev pub mode_from : ℕ → Option Mode
mode_from bits = if bit_and bits known_modes == bits then Some (record { 0 = bits }) else None

-- a mode of one to six octal digits, of known bits alone
abbrev pub mode_of : List ℕ → Option Mode
mode_of digits = option_and_then mode_from (octal_of digits)
