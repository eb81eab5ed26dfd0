-- A tree of files and directories in memory.
use Rattle.std.specs.Prelude.{ℕ, ◌+◌, ◌-◌, ◌&&◌, ◌++◌, Bool, true, false, if◌then◌else◌, List, [], ◌∷◌, length, take, drop, nat_lt, nat_le, codes, is_some, slice_get, Option, Some, None, Result, Ok, Err}
use Rattle.std.specs.List.{list_all}
use Rattle.hurd_creds.specs.declared.attrs.Kind.TheVariants.{Dir}
use Rattle.hurd_creds.specs.declared.errno.Errno.{Errno}
use Rattle.hurd_creds.specs.declared.errno.Errno.TheVariants.{EBADF, EINVAL, EISDIR, EFBIG}
use Rattle.hurd_creds.specs.Limits.{most_size}
use Rattle.hurd_creds.specs.Numbers.{long_number_of}
use Rattle.hurd_trans_iface.specs.Nodes.{Body, Content, Listing, Header, is_dir, bytes_put, bytes_resized}
use Rattle.hurd_trans_iface.specs.Behaviour.{Did, Effect, Behaviour, only, plain_root}
use Rattle.hurd_trans_iface.specs.Arguments.{behind, is_bare}

-- bytes of a file, or all that there are from the place on
abbrev pub read_bytes : ℕ → ℕ → Body → Effect (List ℕ)
read_bytes at amount (Content bs) = only (take amount (drop at bs))
read_bytes at amount (Listing es) = Err EISDIR

-- bytes put into a file of this size; no data changes nothing
abbrev pub put_into : ℕ → ℕ → List ℕ → Did ℕ
put_into size at [] = record { told = 0; bytes = None; size = None }
put_into size at (b ∷ bs) = record {
  told = length (b ∷ bs);
  bytes = Some (bytes_put at (b ∷ bs));
  size = if nat_lt size (at + length (b ∷ bs)) then Some (at + length (b ∷ bs)) else None;
}

-- all bytes are taken; a directory takes none, and no file grows past the limit
abbrev pub write_file : Header → ℕ → List ℕ → Effect ℕ
write_file h at bs = if is_dir h.kind then Err EBADF else if nat_lt most_size (at + length bs) then Err EFBIG else Ok (put_into h.size at bs)

-- cut, or grown by zero bytes
abbrev pub cut_file : Header → ℕ → Effect (Unit {0})
cut_file h size =
    if nat_lt most_size size then Err EFBIG else if is_dir h.kind then Err EBADF
    else Ok (record { told = tt; bytes = Some (bytes_resized size); size = Some size })

-- a file has as many bytes as its size says, a directory none
abbrev pub bytes_in : Body → ℕ
bytes_in (Content bs) = length bs
bytes_in (Listing es) = 0

-- the most digits of a size
abbrev pub most_digits : ℕ
most_digits = 12

-- digits that say a size: one to twelve, the first no zero but where it is alone
abbrev pub says_size : List ℕ → Bool
says_size ds = nat_le (length ds) most_digits && (is_bare ds && is_some (long_number_of ds))

-- the digits of a size, if these are such
abbrev pub sized_digits : Option (List ℕ) → Option (List ℕ)
sized_digits None = None
sized_digits (Some ds) = if says_size ds then Some ds else None

-- the digits that a word says, if it says a size
abbrev pub size_word : List ℕ → Option (List ℕ)
size_word w = sized_digits (behind (codes "--size=") w)

-- whether a word says a size
abbrev pub has_size : List ℕ → Bool
has_size w = is_some (size_word w)

-- one word may say the limit, whose digits are the text; without it there is none, and no text
abbrev pub tmpfs_text : List (List ℕ) → Option (List ℕ)
tmpfs_text [] = Some []
tmpfs_text (w ∷ []) = size_word w
tmpfs_text (v ∷ w ∷ ws) = None

-- the words that say a limit, if there is one
abbrev pub limit_words : List ℕ → List (List ℕ)
limit_words [] = []
limit_words (d ∷ ds) = (codes "--size=" ++ d ∷ ds) ∷ []

-- the digits that a word says, or a refusal
abbrev pub size_said : Option (List ℕ) → Result (Option (List ℕ)) Errno
size_said None = Err EINVAL
size_said (Some ds) = Ok (Some ds)

-- the digits that this word says, if there is a word
abbrev pub size_in : Option (List ℕ) → Result (Option (List ℕ)) Errno
size_in None = Ok None
size_in (Some w) = size_said (size_word w)

-- of options that all say a size the last one counts
abbrev pub tmpfs_options : List (List ℕ) → Result (Option (List ℕ)) Errno
tmpfs_options ws = if list_all has_size ws then size_in (slice_get ws (length ws - 1)) else Err EINVAL

abbrev pub tmpfs : Behaviour
tmpfs = record {
  program = codes "/hurd/tmpfs";
  begins = tmpfs_text;
  options = λ text. codes "/hurd/tmpfs" ∷ limit_words text;
  set_options = tmpfs_options;
  fits = λ text. nat_le (length text) most_digits;
  aims = false;
  targets = λ text. [];
  root = λ text. plain_root Dir;
  tree = true;
  counts = false;
  limit = long_number_of;
  first = λ text. [];
  holds = λ b. true;
  size = λ text b. bytes_in b;
  read = λ text x at amount writers. read_bytes at amount x.body;
  write = λ text x at bs readers. write_file x.header at bs;
  set_size = λ text x size. cut_file x.header size;
  readable = λ text x at. x.header.size - at;
}
