-- A link, which leads to where its text says.
use Rattle.std.specs.Prelude.{ℕ, ◌-◌, ◌==◌, ◌&&◌, Bool, false, List, [], ◌∷◌, length, take, drop, nat_le, codes, Option, Ok, Err}
use Rattle.hurd_creds.specs.declared.attrs.Kind.TheVariants.{Link as LinkNode}
use Rattle.hurd_creds.specs.declared.errno.Errno.TheVariants.{EOPNOTSUPP}
use Rattle.hurd_creds.specs.Limits.{most_path}
use Rattle.hurd_trans_iface.specs.declared.root.Crossing.TheVariants.{Link}
use Rattle.hurd_trans_iface.specs.Behaviour.{Behaviour, plain_root}
use Rattle.hurd_trans_iface.specs.Arguments.{one_word, no_options}
use Rattle.hurd_trans_iface.specs.Still.{StillKind, still}

-- a path that is not empty
abbrev pub is_target : List ℕ → Bool
is_target w = nat_le 1 (length w) && nat_le (length w) most_path

-- the one word is where it leads
abbrev pub target_text : List (List ℕ) → Option (List ℕ)
target_text ws = one_word is_target ws

-- whether a path begins with a slash, so that it leads on from the root of the tree
abbrev pub is_absolute : List ℕ → Bool
is_absolute [] = false
is_absolute (b ∷ bs) = b == 47

abbrev pub symlink_kind : StillKind
symlink_kind = record {
  program = codes "/hurd/symlink";
  begins = target_text;
  arguments = λ text. text ∷ [];
  set_options = no_options;
  fits = is_target;
  aims = false;
  targets = λ text. [];
  root = λ text. record (plain_root LinkNode) { crossing = Link (is_absolute text) };
  size = λ text. length text;
  gives = λ text at amount. Ok (take amount (drop at text));
  takes = λ bs. Err EOPNOTSUPP;
  cut = Err EOPNOTSUPP;
  readable = λ text at. length text - at;
}

abbrev pub symlink : Behaviour
symlink = still symlink_kind
