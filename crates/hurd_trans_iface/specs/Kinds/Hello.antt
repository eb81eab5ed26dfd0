-- A file that gives the server's text.
use Rattle.std.specs.Prelude.{ℕ, ◌-◌, ◌++◌, Bool, if◌then◌else◌, List, [], ◌∷◌, length, take, drop, nat_le, codes, is_some, slice_get, Option, Some, None, Result, Ok, Err, false}
use Rattle.std.specs.List.{list_all}
use Rattle.hurd_creds.specs.declared.attrs.Kind.TheVariants.{File}
use Rattle.hurd_creds.specs.declared.errno.Errno.{Errno}
use Rattle.hurd_creds.specs.declared.errno.Errno.TheVariants.{EINVAL, EOPNOTSUPP}
use Rattle.hurd_trans_iface.specs.Behaviour.{Behaviour, plain_root}
pub use Rattle.hurd_trans_iface.specs.Arguments.{behind}
use Rattle.hurd_trans_iface.specs.Still.{StillKind, still}

-- the text where none is asked for
abbrev pub greeting : List ℕ
greeting = codes "Hello, world!\n"

-- the most bytes of a text that words say: 4,096, less those of the program's name and of `--contents=`
abbrev pub most_text : ℕ
most_text = 4074

-- one word may say the text
abbrev pub hello_text : List (List ℕ) → Option (List ℕ)
hello_text [] = Some greeting
hello_text (w ∷ []) = behind (codes "--contents=") w
hello_text (v ∷ w ∷ ws) = None

-- whether a word says a text
abbrev pub says_text : List ℕ → Bool
says_text w = is_some (behind (codes "--contents=") w)

-- a text that words can say
abbrev pub short_text : Option (List ℕ) → Result (Option (List ℕ)) Errno
short_text None = Err EINVAL
short_text (Some text) = if nat_le (length text) most_text then Ok (Some text) else Err EINVAL

-- the text that this word says, if there is a word
abbrev pub text_in : Option (List ℕ) → Result (Option (List ℕ)) Errno
text_in None = Ok None
text_in (Some w) = short_text (behind (codes "--contents=") w)

-- of options that all say a text the last one counts
abbrev pub hello_options : List (List ℕ) → Result (Option (List ℕ)) Errno
hello_options ws = if list_all says_text ws then text_in (slice_get ws (length ws - 1)) else Err EINVAL

abbrev pub hello_kind : StillKind
hello_kind = record {
  program = codes "/hurd/hello";
  begins = hello_text;
  arguments = λ text. (codes "--contents=" ++ text) ∷ [];
  set_options = hello_options;
  fits = λ text. nat_le (length text) most_text;
  aims = false;
  targets = λ text. [];
  root = λ text. plain_root File;
  size = λ text. length text;
  gives = λ text at amount. Ok (take amount (drop at text));
  takes = λ bs. Err EOPNOTSUPP;
  cut = Err EOPNOTSUPP;
  readable = λ text at. length text - at;
}

abbrev pub hello : Behaviour
hello = still hello_kind
