-- Sets of bits.
use Rattle.std.specs.Prelude.{ℕ, ◌==◌, Bool, true, false}
use Rattle.std.specs.Int.RustNames.{bit_and, bit_or}
use Rattle.hurd_creds.specs.declared.mode.Mode.{Mode}
use Rattle.hurd_creds.specs.declared.open_flags.OpenFlags.{OpenFlags}

-- whether all bits of the second are among those of the first
abbrev pub has_bits : ℕ → ℕ → Bool
has_bits set bits = bit_and set bits == bits

-- every known bit of a mode: 0o171777
abbrev pub known_modes : ℕ
known_modes = 62463

-- a mode without unknown bits
abbrev pub known_mode : Mode → Mode
known_mode m = record { 0 = bit_and m.0 known_modes }

-- flags without unknown bits: nine are known
abbrev pub known_open_flags : OpenFlags → OpenFlags
known_open_flags f = record { 0 = bit_and f.0 511 }

-- the flags that an open keeps: READ, WRITE, EXEC and APPEND
abbrev pub open_modes : OpenFlags → OpenFlags
open_modes f = record { 0 = bit_and f.0 15 }

-- whether a flag is among these
abbrev pub asks : OpenFlags → ℕ → Bool
asks f flag = has_bits f.0 flag

-- the flags, by name
abbrev pub READ : ℕ
READ = 1

abbrev pub WRITE : ℕ
WRITE = 2

abbrev pub EXEC : ℕ
EXEC = 4

abbrev pub APPEND : ℕ
APPEND = 8

abbrev pub CREATE : ℕ
CREATE = 16

abbrev pub EXCL : ℕ
EXCL = 32

abbrev pub NOTRANS : ℕ
NOTRANS = 64

abbrev pub NOLINK : ℕ
NOLINK = 128

abbrev pub DIRECTORY : ℕ
DIRECTORY = 256

-- with APPEND, or without it; the other flags stay
abbrev pub with_append : Bool → OpenFlags → OpenFlags
with_append true f = record { 0 = bit_or f.0 APPEND }
with_append false f = record { 0 = bit_and f.0 503 }
