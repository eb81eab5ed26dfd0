-- Kinds of server of one node of which nothing but options changes.
use Rattle.std.specs.Prelude.{◌≡◌, ℕ, Bool, true, false, if◌then◌else◌, List, [], Option, Some, None, refl}
use Rattle.hurd_trans_iface.specs.Meaning.{Meaning, behaviour_of, counts_opens, keeps_tree}
use Rattle.hurd_trans_iface.specs.declared.begun.ServerKind.{ServerKind}
use Rattle.hurd_trans_iface.specs.declared.begun.ServerKind.TheVariants.{Hello, Null, Zero, Symlink, Firmlink, Magic}
use Rattle.hurd_small.specs.declared.fixed_kind.FixedKind.{FixedKind}
use Rattle.hurd_small.specs.declared.fixed_kind.FixedKind.TheVariants as fixed

-- such a kind, among all kinds
abbrev pub kind_of : FixedKind → ServerKind
kind_of fixed.Hello = Hello
kind_of fixed.Null = Null
kind_of fixed.Zero = Zero
kind_of fixed.Symlink = Symlink
kind_of fixed.Firmlink = Firmlink
kind_of fixed.Magic = Magic

-- whether a kind is such a one
abbrev pub is_fixed : ServerKind → Bool
is_fixed Hello = true
is_fixed Null = true
is_fixed Zero = true
is_fixed Symlink = true
is_fixed Firmlink = true
is_fixed Magic = true
is_fixed _ = false

-- a server, where its kind is such a one
abbrev pub only_fixed : Option Meaning → Option Meaning
only_fixed None = None
only_fixed (Some m) = if is_fixed m.kind then Some m else None

-- nothing is made in them
pub keeps_nothing : (k : FixedKind) → keeps_tree (kind_of k) ≡ false
keeps_nothing fixed.Hello = refl
keeps_nothing fixed.Null = refl
keeps_nothing fixed.Zero = refl
keeps_nothing fixed.Symlink = refl
keeps_nothing fixed.Firmlink = refl
keeps_nothing fixed.Magic = refl

-- nothing is in them at first
pub begins_empty : (k : FixedKind) (text : List ℕ) → (behaviour_of (kind_of k)).first text ≡ []
begins_empty fixed.Hello text = refl
begins_empty fixed.Null text = refl
begins_empty fixed.Zero text = refl
begins_empty fixed.Symlink text = refl
begins_empty fixed.Firmlink text = refl
begins_empty fixed.Magic text = refl

-- nothing that they say goes by who reads them or writes them
pub counts_nothing : (k : FixedKind) → counts_opens (kind_of k) ≡ false
counts_nothing fixed.Hello = refl
counts_nothing fixed.Null = refl
counts_nothing fixed.Zero = refl
counts_nothing fixed.Symlink = refl
counts_nothing fixed.Firmlink = refl
counts_nothing fixed.Magic = refl
