-- Who may do what with a node.
use Rattle.std.specs.Prelude.{◌≡◌, ℕ, ◌==◌, ◌&&◌, ◌||◌, not, Bool, true, false, if◌then◌else◌, List, [], ◌∷◌, Option, Some, None, Result, Ok, Err, nat_eq, nat_le, min, fold, length, refl}
use Rattle.std.specs.List.{list_any}
use Rattle.std.specs.Ordering.{nat_cmp}
use Rattle.std.specs.FinSet as set
use Rattle.std.specs.Coded.{Coded, code_by, coded×, coded_ℕ}
use Rattle.std.specs.Int.RustNames.{bit_or}
use Rattle.hurd_creds.specs.Bits.{has_bits, READ, WRITE, EXEC}
use Rattle.hurd_creds.specs.declared.attrs.Attrs.{Attrs}
use Rattle.hurd_creds.specs.declared.attrs.Kind.{Kind}
use Rattle.hurd_creds.specs.declared.attrs.Kind.TheVariants.{File}
use Rattle.hurd_creds.specs.declared.attrs.Want.{Want}
use Rattle.hurd_creds.specs.declared.attrs.Want.TheVariants.{Read, Write, Exec}
use Rattle.hurd_creds.specs.declared.open_flags.OpenFlags.{OpenFlags}
use Rattle.hurd_creds.specs.declared.errno.Errno.{Errno}
use Rattle.hurd_creds.specs.declared.errno.Errno.TheVariants.{EINVAL}

-- a finite set of numbers
abbrev pub IdSet : Type 0
IdSet = set.FinSet nat_cmp

-- user and group ids
pub record IdSets : Type 0 where
  pub uids : IdSet
  pub gids : IdSet

-- two sets of ids are stored as a pair
abbrev pub coded_ids : Coded IdSets
coded_ids = code_by (IdSet × IdSet) (coded× (set.code coded_ℕ) (set.code coded_ℕ)) (λ i. (i.uids, i.gids)) (λ p. record { uids = p.0; gids = p.1 }) (λ _. refl)

-- how many ids of a sort are allowed
abbrev pub most_ids : ℕ
most_ids = 32

-- the sets of these ids, or EINVAL where one has too many
abbrev pub ids_of : List ℕ → List ℕ → Result IdSets Errno
ids_of uids gids =
    if nat_le (set.len (set.from_list {R = nat_cmp} uids)) most_ids && nat_le (set.len (set.from_list {R = nat_cmp} gids)) most_ids
    then Ok (record { uids = set.from_list uids; gids = set.from_list gids })
    else Err EINVAL

-- a list that has each of the ids asked for once, and no other
pub record HasEachOnce (asked found : List ℕ) : Type 0 where
  pub same : set.from_list {R = nat_cmp} found ≡ set.from_list asked
  pub counted : length found ≡ set.len (set.from_list {R = nat_cmp} asked)

-- whether this uid is held
abbrev pub holds_uid : IdSets → ℕ → Bool
holds_uid ids u = set.contains ids.uids u

-- whether this gid is held
abbrev pub holds_gid : IdSets → ℕ → Bool
holds_gid ids g = set.contains ids.gids g

-- uid 0 is held
abbrev pub is_root : IdSets → Bool
is_root ids = holds_uid ids 0

-- the least of some numbers, if there is any
abbrev pub least_of : List ℕ → Option ℕ
least_of [] = None
least_of (u ∷ us) = Some (fold min u us)

-- the least uid, if any is held
abbrev pub least_uid : IdSets → Option ℕ
least_uid ids = least_of (set.items ids.uids)

-- the bits that decide, by whose they are
abbrev pub owner_bit : Want → ℕ
owner_bit Read = 256
owner_bit Write = 128
owner_bit Exec = 64

abbrev pub group_bit : Want → ℕ
group_bit Read = 32
group_bit Write = 16
group_bit Exec = 8

abbrev pub others_bit : Want → ℕ
others_bit Read = 4
others_bit Write = 2
others_bit Exec = 1

abbrev pub unknown_bit : Want → ℕ
unknown_bit Read = 16384
unknown_bit Write = 8192
unknown_bit Exec = 4096

-- the bit by which the unknown bits decide for those who hold no uid
abbrev pub USE_UNK : ℕ
USE_UNK = 32768

-- the owner's, the group's or the others' execute bit is set
abbrev pub has_exec_bit : ℕ → Bool
has_exec_bit mode = has_bits mode 64 || (has_bits mode 8 || has_bits mode 1)

-- a file that nobody may execute, not even root
abbrev pub bars_exec : Kind → ℕ → Want → Bool
bars_exec File mode Exec = not (has_exec_bit mode)
bars_exec _ mode _ = false

-- no uid is held
abbrev pub has_no_uids : IdSets → Bool
has_no_uids ids = set.len ids.uids == 0

-- whether these ids may do this with a node of these attributes
abbrev pub may : IdSets → Attrs → Want → Bool
may ids a want =
    if is_root ids then not (bars_exec a.kind a.mode.0 want)
    else if has_no_uids ids && has_bits a.mode.0 USE_UNK then has_bits a.mode.0 (unknown_bit want)
    else if holds_uid ids a.owner then has_bits a.mode.0 (owner_bit want)
    else if holds_gid ids a.group then has_bits a.mode.0 (group_bit want)
    else has_bits a.mode.0 (others_bit want)

-- the owner or uid 0 is held
abbrev pub owns : IdSets → Attrs → Bool
owns ids a = holds_uid ids a.owner || is_root ids

-- these ids may give a node of these attributes to this owner and group: uid 0 may; the owner may keep it, with its present
-- group or one of its own
abbrev pub may_give : IdSets → Attrs → ℕ → ℕ → Bool
may_give ids a owner group = is_root ids || ((holds_uid ids a.owner && owner == a.owner) && (group == a.group || holds_gid ids group))

-- whether a list of ids has one
abbrev pub is_among : List ℕ → ℕ → Bool
is_among held id = list_any (λ y. nat_eq y id) held

-- the ids asked for that are held; with uid 0 held, all that are asked for
abbrev pub restrict : IdSets → IdSets → IdSets
restrict ids asked =
    if is_root ids then asked
    else record { uids = set.intersection asked.uids ids.uids; gids = set.intersection asked.gids ids.gids }

-- whether a task of some ids may take others for its own: with uid 0 held any, else those that it holds
abbrev pub may_take : IdSets → IdSets → Bool
may_take ids asked = is_root ids || (set.is_subset asked.uids ids.uids && set.is_subset asked.gids ids.gids)

-- the bits of a flag where the test holds, else none
abbrev pub flag_if : ℕ → Bool → ℕ
flag_if flag true = flag
flag_if flag false = 0

-- those of READ, WRITE and EXEC that these ids may
abbrev pub access_of : IdSets → Attrs → OpenFlags
access_of ids a = record { 0 = bit_or (bit_or (flag_if READ (may ids a Read)) (flag_if WRITE (may ids a Write))) (flag_if EXEC (may ids a Exec)) }
