-- Sets of bits that say how a translator is set, and how a server is sent away.
use Rattle.std.specs.Prelude.{ℕ, Bool}
use Rattle.std.specs.Int.RustNames.{bit_and}
use Rattle.hurd_creds.specs.declared.trans_flags.TransFlags.{TransFlags}
use Rattle.hurd_creds.specs.declared.trans_flags.GoawayFlags.{GoawayFlags}
use Rattle.hurd_creds.specs.Bits.{has_bits}

-- flags without unknown bits: three are known of each sort
abbrev pub known_trans_flags : TransFlags → TransFlags
known_trans_flags f = record { 0 = bit_and f.0 7 }

abbrev pub known_goaway_flags : GoawayFlags → GoawayFlags
known_goaway_flags f = record { 0 = bit_and f.0 7 }

-- whether a flag is among these

abbrev pub asks_trans : TransFlags → ℕ → Bool
asks_trans f flag = has_bits f.0 flag

abbrev pub asks_goaway : GoawayFlags → ℕ → Bool
asks_goaway f flag = has_bits f.0 flag

-- the flags, by name

abbrev pub SET : ℕ
SET = 1

abbrev pub EXCL : ℕ
EXCL = 2

abbrev pub ORPHAN : ℕ
ORPHAN = 4

abbrev pub FORCE : ℕ
FORCE = 1
