-- Flags by their bits.
use Rattle.std.specs.Prelude.{ℕ, zero, suc, Option, Some, None, if◌then◌else◌, nat_lt}
use Rattle.hurd_creds.specs.declared.mode.Mode.{Mode}
use Rattle.hurd_creds.specs.declared.open_flags.OpenFlags.{OpenFlags}
use Rattle.hurd_creds.specs.declared.trans_flags.TransFlags.{TransFlags}
use Rattle.hurd_creds.specs.declared.trans_flags.GoawayFlags.{GoawayFlags}
use Rattle.hurd_machine.specs.declared.call.Whence.{Whence}
use Rattle.hurd_machine.specs.declared.call.Whence.TheVariants.{Set, Current, End}

-- flags of opening: nine bits have a meaning
abbrev pub open_flags_at : ℕ → Option OpenFlags
open_flags_at bits = if nat_lt bits 512 then Some (record { 0 = bits }) else None

-- flags of setting a translator: three bits have a meaning
abbrev pub trans_flags_at : ℕ → Option TransFlags
trans_flags_at bits = if nat_lt bits 8 then Some (record { 0 = bits }) else None

-- flags of sending a server away: three bits have a meaning
abbrev pub goaway_flags_at : ℕ → Option GoawayFlags
goaway_flags_at bits = if nat_lt bits 8 then Some (record { 0 = bits }) else None

-- a mode; bits that none knows stay
abbrev pub mode_at : ℕ → Mode
mode_at bits = record { 0 = bits }

-- from where a seek counts: from the beginning, the cursor or the end
abbrev pub whence_at : ℕ → Option Whence
whence_at zero = Some Set
whence_at (suc zero) = Some Current
whence_at (suc (suc zero)) = Some End
whence_at _ = None
