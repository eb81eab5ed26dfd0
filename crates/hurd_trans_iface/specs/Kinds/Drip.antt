-- A stream of as many bytes as its word says, one for each read, after which reads fail.
use Rattle.std.specs.Prelude.{ℕ, zero, suc, ◌-◌, ◌==◌, ◌&&◌, Bool, true, false, if◌then◌else◌, List, [], ◌∷◌, ◌++◌, length, nat_lt, nat_le, codes, Option, Some, None, Ok, Err}
use Rattle.std.specs.List.{list_all}
use Rattle.hurd_creds.specs.declared.attrs.Kind.TheVariants.{File}
use Rattle.hurd_creds.specs.declared.errno.Errno.TheVariants.{EFBIG, EIO, EOPNOTSUPP}
use Rattle.hurd_creds.specs.Limits.{most_size}
use Rattle.hurd_creds.specs.Numbers.{long_number_of}
use Rattle.hurd_trans_iface.specs.Nodes.{Body, Content, Listing}
use Rattle.hurd_trans_iface.specs.Behaviour.{Effect, Behaviour, only, plain_root}
use Rattle.hurd_trans_iface.specs.Arguments.{is_bare, one_word, no_options}

-- the most bytes that a drip has
abbrev pub most_drops : ℕ
most_drops = 1000

-- a number that is no greater than the most
abbrev pub is_few : Option ℕ → Bool
is_few None = false
is_few (Some count) = nat_le count most_drops

-- whether a word says how many bytes there are: at most four decimal digits, the first no zero but where it is alone
abbrev pub says_drops : List ℕ → Bool
says_drops w = nat_le (length w) 4 && (is_bare w && is_few (long_number_of w))

-- the one word says how many
abbrev pub drip_text : List (List ℕ) → Option (List ℕ)
drip_text ws = one_word says_drops ws

-- a number, or zero where there is none
abbrev pub or_zero : Option ℕ → ℕ
or_zero None = 0
or_zero (Some count) = count

-- how many bytes a drip of this text has at first
abbrev pub drops_of : List ℕ → ℕ
drops_of text = or_zero (long_number_of text)

-- how many are left where these have been given; it keeps those
abbrev pub drops_left : List ℕ → Body → ℕ
drops_left text (Content given) = drops_of text - length given
drops_left text (Listing es) = 0

-- the byte `.`
abbrev pub drop_byte : ℕ
drop_byte = 46

-- a read where so many are left: it fails where there are none, gives nothing where nothing is asked for, else one byte
abbrev pub dripped : ℕ → ℕ → Effect (List ℕ)
dripped zero amount = Err EIO
dripped (suc left) zero = only []
dripped (suc left) (suc amount) = Ok (record { told = drop_byte ∷ []; bytes = Some (λ given. given ++ drop_byte ∷ []); size = Some left })

-- one byte for the next read, where any are left
abbrev pub next_drop : ℕ → ℕ
next_drop zero = 0
next_drop (suc left) = 1

-- what it has given, all of it drops
abbrev pub holds_drops : Body → Bool
holds_drops (Content given) = list_all (λ b. b == drop_byte) given
holds_drops (Listing es) = true

-- it takes no bytes, and no size
abbrev pub drip : Behaviour
drip = record {
  program = codes "/hurd/drip";
  begins = drip_text;
  options = λ text. codes "/hurd/drip" ∷ text ∷ [];
  set_options = no_options;
  fits = says_drops;
  aims = false;
  targets = λ text. [];
  root = λ text. record (plain_root File) { is_stream = true };
  tree = false;
  counts = false;
  limit = λ text. None;
  first = λ text. [];
  holds = holds_drops;
  size = drops_left;
  read = λ text x at amount writers. dripped x.header.size amount;
  write = λ text x at bs readers. Err EOPNOTSUPP;
  set_size = λ text x size. if nat_lt most_size size then Err EFBIG else Err EOPNOTSUPP;
  readable = λ text x at. next_drop x.header.size;
}
