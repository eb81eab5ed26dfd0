-- A directory that shows what several others have.
use Rattle.std.specs.Prelude.{ℕ, zero, suc, ◌&&◌, if◌then◌else◌, List, [], ◌∷◌, ◌++◌, length, nat_le, codes, Option, Some, None, Err, true}
use Rattle.std.specs.List.{list_all}
use Rattle.hurd_creds.specs.declared.attrs.Kind.TheVariants.{Dir}
use Rattle.hurd_creds.specs.declared.errno.Errno.TheVariants.{EBADF, EISDIR}
use Rattle.hurd_trans_iface.specs.declared.root.Crossing.TheVariants.{Union}
use Rattle.hurd_trans_iface.specs.Behaviour.{Behaviour, plain_root}
use Rattle.hurd_trans_iface.specs.Arguments.{no_options}
use Rattle.hurd_trans_iface.specs.Still.{StillKind, still}
use Rattle.hurd_trans_iface.specs.Kinds.Firmlink.{is_firm}
use Rattle.hurd_trans_iface.specs.Words.{is_within_limits}

-- several words as one text: a byte 0 ends each word, and in a word a byte 1 comes before each 0 and 1

abbrev pub marked : List ℕ → List ℕ
marked [] = []
marked (zero ∷ bs) = 1 ∷ 0 ∷ marked bs
marked (suc zero ∷ bs) = 1 ∷ 1 ∷ marked bs
marked (suc (suc b) ∷ bs) = suc (suc b) ∷ marked bs

abbrev pub text_of : List (List ℕ) → List ℕ
text_of [] = []
text_of (w ∷ ws) = marked w ++ 0 ∷ text_of ws

-- the words of such a text

abbrev pub onto_first : ℕ → List (List ℕ) → List (List ℕ)
onto_first b [] = (b ∷ []) ∷ []
onto_first b (w ∷ ws) = (b ∷ w) ∷ ws

abbrev pub words_of : List ℕ → List (List ℕ)
words_of [] = []
words_of (zero ∷ bs) = [] ∷ words_of bs
words_of (suc zero ∷ []) = []
words_of (suc zero ∷ b ∷ bs) = onto_first b (words_of bs)
words_of (suc (suc b) ∷ bs) = onto_first (suc (suc b)) (words_of bs)

-- the most directories of a union
abbrev pub most_branches : ℕ
most_branches = 16

-- the words are 1 to 16 paths from the root of the tree
abbrev pub union_text : List (List ℕ) → Option (List ℕ)
union_text [] = None
union_text (w ∷ ws) = if nat_le (length (w ∷ ws)) most_branches && list_all is_firm (w ∷ ws) then Some (text_of (w ∷ ws)) else None

-- what it shows is no entry of its own, and it takes none
abbrev pub union_kind : StillKind
union_kind = record {
  program = codes "/hurd/union";
  begins = union_text;
  arguments = words_of;
  set_options = no_options;
  fits = λ text. is_within_limits (codes "/hurd/union" ∷ words_of text);
  aims = true;
  targets = words_of;
  root = λ text. record (plain_root Dir) { crossing = Union };
  size = λ text. 0;
  gives = λ text at amount. Err EISDIR;
  takes = λ bs. Err EBADF;
  cut = Err EBADF;
  readable = λ text at. 0;
}

abbrev pub union : Behaviour
union = still union_kind
