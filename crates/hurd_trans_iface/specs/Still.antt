-- Servers of one node that nothing changes.
use Rattle.std.specs.Prelude.{ℕ, Bool, true, false, if◌then◌else◌, List, [], ◌∷◌, nat_lt, Option, None, Result, Ok, Err}
use Rattle.hurd_creds.specs.declared.errno.Errno.{Errno}
use Rattle.hurd_creds.specs.declared.errno.Errno.TheVariants.{EFBIG}
use Rattle.hurd_creds.specs.Limits.{most_size}
use Rattle.hurd_trans_iface.specs.declared.root.Root.{Root}
use Rattle.hurd_trans_iface.specs.Nodes.{Body, Content, Listing}
use Rattle.hurd_trans_iface.specs.Behaviour.{Behaviour, Effect, only}

-- what such a kind is, and what it answers by its server's text alone; a field that says nothing else is that of a behaviour
pub record StillKind : Type 0 where
  pub program : List ℕ
  pub begins : List (List ℕ) → Option (List ℕ)
  -- the words after the program's name that make a server of this text
  pub arguments : List ℕ → List (List ℕ)
  pub set_options : List (List ℕ) → Result (Option (List ℕ)) Errno
  pub fits : List ℕ → Bool
  pub aims : Bool
  pub targets : List ℕ → List (List ℕ)
  pub root : List ℕ → Root
  pub size : List ℕ → ℕ
  -- so many bytes from a place on
  pub gives : List ℕ → ℕ → ℕ → Result (List ℕ) Errno
  -- how many of these bytes it takes
  pub takes : List ℕ → Result ℕ Errno
  -- what it says to a size that is no greater than the greatest
  pub cut : Result (Unit {0}) Errno
  -- how many bytes there are to read at a place
  pub readable : List ℕ → ℕ → ℕ

-- an answer or a refusal that changes nothing
abbrev pub unchanged : {T : Type 0} → Result T Errno → Effect T
unchanged (Ok told) = only told
unchanged (Err e) = Err e

-- nothing is in it: what it gives is the text of its server, or is in other nodes
abbrev pub holds_nothing : Body → Bool
holds_nothing (Content []) = true
holds_nothing (Content (b ∷ bs)) = false
holds_nothing (Listing []) = true
holds_nothing (Listing (e ∷ es)) = false

-- it keeps no tree, counts nobody, has no limit, and holds nothing
abbrev pub still : StillKind → Behaviour
still s = record {
  program = s.program;
  begins = s.begins;
  options = λ text. s.program ∷ s.arguments text;
  set_options = s.set_options;
  fits = s.fits;
  aims = s.aims;
  targets = s.targets;
  root = s.root;
  tree = false;
  counts = false;
  limit = λ text. None;
  first = λ text. [];
  holds = holds_nothing;
  size = λ text b. s.size text;
  read = λ text x at amount writers. unchanged (s.gives text at amount);
  write = λ text x at bs readers. unchanged (s.takes bs);
  set_size = λ text x size. if nat_lt most_size size then Err EFBIG else unchanged s.cut;
  readable = λ text x at. s.readable text at;
}
