-- A firm link, which leads to the node that its path led to when it began.
use Rattle.std.specs.Prelude.{ℕ, ◌&&◌, Bool, List, [], ◌∷◌, length, nat_le, codes, Option, Ok, Err, true}
use Rattle.hurd_creds.specs.declared.attrs.Kind.TheVariants.{File}
use Rattle.hurd_creds.specs.declared.errno.Errno.TheVariants.{EOPNOTSUPP}
use Rattle.hurd_creds.specs.Limits.{most_path}
use Rattle.hurd_trans_iface.specs.declared.root.Crossing.TheVariants.{Firm}
use Rattle.hurd_trans_iface.specs.Behaviour.{Behaviour, plain_root}
use Rattle.hurd_trans_iface.specs.Arguments.{one_word, no_options}
use Rattle.hurd_trans_iface.specs.Still.{StillKind, still}
use Rattle.hurd_trans_iface.specs.Kinds.Symlink.{is_absolute}

-- a path from the root of the tree
abbrev pub is_firm : List ℕ → Bool
is_firm w = is_absolute w && nat_le (length w) most_path

-- the one word is such a path
abbrev pub firm_text : List (List ℕ) → Option (List ℕ)
firm_text ws = one_word is_firm ws

-- of its root nothing is read: a lookup never opens that
abbrev pub firmlink_kind : StillKind
firmlink_kind = record {
  program = codes "/hurd/firmlink";
  begins = firm_text;
  arguments = λ text. text ∷ [];
  set_options = no_options;
  fits = is_firm;
  aims = true;
  targets = λ text. text ∷ [];
  root = λ text. record (plain_root File) { crossing = Firm };
  size = λ text. 0;
  gives = λ text at amount. Ok [];
  takes = λ bs. Err EOPNOTSUPP;
  cut = Err EOPNOTSUPP;
  readable = λ text at. 0;
}

abbrev pub firmlink : Behaviour
firmlink = still firmlink_kind
