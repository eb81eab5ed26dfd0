-- The arguments of calls.
use Rattle.std.specs.Prelude.{ℕ, ℤ, pos, ◌-ℤ◌, ◌^◌, ◌==◌, ◌≡◌, Result, Ok, Err, List, [], ◌∷◌, Option, Some, None, if◌then◌else◌, nat_le, nat_lt, option_and_then, option_map, bytes_eq, codes}
use Rattle.std.specs.Str.{is_utf8}
use Rattle.std.specs.List.{slice_split}
use Rattle.std.specs.Int.RustNames.{bit_or}
use Rattle.hurd_creds.specs.declared.mode.Mode.{Mode}
use Rattle.hurd_creds.specs.declared.name.TaskId.{TaskId}
use Rattle.hurd_creds.specs.declared.open_flags.OpenFlags.{OpenFlags}
use Rattle.hurd_creds.specs.declared.trans_flags.TransFlags.{TransFlags}
use Rattle.hurd_creds.specs.declared.trans_flags.GoawayFlags.{GoawayFlags}
use Rattle.hurd_creds.specs.Access.{IdSets}
use Rattle.hurd_creds.specs.Bits as bit
use Rattle.hurd_creds.specs.TransBits as trans
use Rattle.bitflags.specs.Sets.{Row, find_name}
use Rattle.hurd_trans_iface.specs.Words.{is_within_limits}
use Rattle.hurd_machine.specs.declared.call.Whence.{Whence}
use Rattle.hurd_machine.specs.declared.call.Whence.TheVariants.{Set, Current, End}
use Rattle.hurd_words.specs.declared.fault.ReadFault.{ReadFault}
use Rattle.hurd_words.specs.declared.fault.ReadFault.TheVariants as fault
use Rattle.hurd_creds.specs.Numbers as script
use Rattle.hurd_words.specs.Users as users

-- what was to be read is read, or is bad; no memory is taken for it
abbrev pub ReadsInPlace : {X Y : Type 0} → (X → Y) → Option Y → Result X ReadFault → Type 0
ReadsInPlace view wanted (Ok x) = wanted ≡ Some (view x)
ReadsInPlace view wanted (Err fault.Memory) = ⊥
ReadsInPlace view wanted (Err fault.Bad) = wanted ≡ None

-- a word that is text
abbrev pub text_of : List ℕ → Option (List ℕ)
text_of word = if is_utf8 word then Some word else None

-- a number below 2 to the 32nd, in decimal digits
abbrev pub number_of : List ℕ → Option ℕ
number_of word = option_and_then script.number_of (text_of word)

-- a number below 2 to the 64th, in decimal digits
abbrev pub long_number_of : List ℕ → Option ℕ
long_number_of word = option_and_then script.long_number_of (text_of word)

-- so much above zero, where that is below 2 to the 63rd
abbrev pub above_zero : ℕ → Option ℤ
above_zero n = if nat_lt n (2 ^ 63) then Some (pos n) else None

-- so much below zero, where that is at most 2 to the 63rd
abbrev pub below_zero : ℕ → Option ℤ
below_zero n = if nat_le n (2 ^ 63) then Some (pos 0 -ℤ pos n) else None

-- decimal digits, after `-` where the number is below zero
abbrev pub offset_of : List ℕ → Option ℤ
offset_of [] = option_and_then above_zero (long_number_of [])
offset_of (b ∷ bs) =
    if b == 45 then option_and_then below_zero (long_number_of bs)
    else option_and_then above_zero (long_number_of (b ∷ bs))

-- a task's number
abbrev pub task_of : List ℕ → Option TaskId
task_of word = option_map (λ n. record { 0 = n }) (number_of word)

-- the mode of these bits
abbrev pub mode_from : ℕ → Mode
mode_from bits = record { 0 = bits }

-- a mode in octal digits: bits that none knows stay
abbrev pub mode_of : List ℕ → Option Mode
mode_of word = option_map mode_from (option_and_then script.octal_number_of (text_of word))

-- any bytes after `=`
abbrev pub bytes_of : List ℕ → Option (List ℕ)
bytes_of [] = None
bytes_of (b ∷ bs) = if b == 61 then Some bs else None

-- the ids of two lists
abbrev pub ids_from : Option (List ℕ) → Option (List ℕ) → Option IdSets
ids_from (Some uids) (Some gids) = users.ids_from (users.listed uids) (users.listed gids)
ids_from _ _ = None

abbrev pub ids_of : List ℕ → List ℕ → Option IdSets
ids_of uids gids = ids_from (text_of uids) (text_of gids)

-- what a name says of a seek
abbrev pub whence_named : List ℕ → Option Whence
whence_named name =
    if bytes_eq name (codes "Set") then Some Set
    else if bytes_eq name (codes "Current") then Some Current
    else if bytes_eq name (codes "End") then Some End
    else None

abbrev pub whence_of : List ℕ → Option Whence
whence_of word = option_and_then whence_named (text_of word)

-- flags by name

abbrev pub open_names : List Row
open_names = (codes "READ", bit.READ) ∷ (codes "WRITE", bit.WRITE) ∷ (codes "EXEC", bit.EXEC) ∷ (codes "APPEND", bit.APPEND) ∷ (codes "CREATE", bit.CREATE) ∷ (codes "EXCL", bit.EXCL) ∷ (codes "NOTRANS", bit.NOTRANS) ∷ (codes "NOLINK", bit.NOLINK) ∷ (codes "DIRECTORY", bit.DIRECTORY) ∷ []

abbrev pub trans_names : List Row
trans_names = (codes "SET", trans.SET) ∷ (codes "EXCL", trans.EXCL) ∷ (codes "ORPHAN", trans.ORPHAN) ∷ []

abbrev pub goaway_names : List Row
goaway_names = (codes "FORCE", trans.FORCE) ∷ (codes "NOSYNC", 2) ∷ (codes "NOWAIT", 4) ∷ []

-- these bits and those of names, if each is one
unfoldable pub with_names : List Row → ℕ → List (List ℕ) → Option ℕ
with_names rows bits [] = Some bits
with_names rows bits (name ∷ names) = option_and_then (λ flag. with_names rows (bit_or bits flag) names) (find_name rows name)

-- the bits of names joined by commas, or `-` for none
abbrev pub bits_listed : List Row → List ℕ → Option ℕ
bits_listed rows word =
    if bytes_eq word (codes "-") then Some 0
    else with_names rows 0 (slice_split (λ b. b == 44) word)

abbrev pub bits_of : List Row → List ℕ → Option ℕ
bits_of rows word = option_and_then (bits_listed rows) (text_of word)

abbrev pub open_flags_of : List ℕ → Option OpenFlags
open_flags_of word = option_map (λ bits. record { 0 = bits }) (bits_of open_names word)

abbrev pub trans_flags_of : List ℕ → Option TransFlags
trans_flags_of word = option_map (λ bits. record { 0 = bits }) (bits_of trans_names word)

abbrev pub goaway_flags_of : List ℕ → Option GoawayFlags
goaway_flags_of word = option_map (λ bits. record { 0 = bits }) (bits_of goaway_names word)

-- the bytes of words, each after `=`
unfoldable pub texts_of : List (List ℕ) → Option (List (List ℕ))
texts_of [] = Some []
texts_of (word ∷ words) = option_and_then (λ text. option_map (λ texts. text ∷ texts) (texts_of words)) (bytes_of word)

-- words, if they are not too many
abbrev pub within_limits : List (List ℕ) → Option (List (List ℕ))
within_limits words = if is_within_limits words then Some words else None

-- the words of a server, each after `=`
abbrev pub server_words : List (List ℕ) → Option (List (List ℕ))
server_words words = option_and_then within_limits (texts_of words)
