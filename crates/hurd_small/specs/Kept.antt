-- What is kept of a node of which more than options changes, of any kind.
use Rattle.std.specs.Prelude.{◌≡◌, ℕ, Bool, true, false, ◌||◌, if◌then◌else◌, List, [], replicate, Option, Some, None, refl}
use Rattle.hurd_trans_iface.specs.Kinds.Drip.{drop_byte}
use Rattle.hurd_trans_iface.specs.Meaning.{Meaning, keeps_tree}
use Rattle.hurd_trans_iface.specs.declared.begun.ServerKind.{ServerKind}
use Rattle.hurd_trans_iface.specs.declared.begun.ServerKind.TheVariants as kind
use Rattle.hurd_small.specs.declared.kept.Kept.{Kept}
use Rattle.hurd_small.specs.declared.kept.Kept.TheVariants.{Drops, Pipe}
use Rattle.hurd_small.specs.declared.lone.Lone.{Lone}
use Rattle.hurd_small.specs.FixedKinds.{is_fixed}
use Rattle.hurd_small.specs.Lone.{lone_meaning}

-- the kind and the text of its server, and the bytes in the node
pub record Keeping : Type 0 where
  pub kind : ServerKind
  pub text : List ℕ
  pub held : List ℕ

abbrev pub keeping : Kept → Keeping
keeping (Drops s) = record { kind = kind.Drip; text = s.digits; held = replicate s.given drop_byte }
keeping (Pipe s) = record { kind = kind.Fifo; text = []; held = s.held.items }

-- a server of its kind and its text, whose node holds its bytes
abbrev pub kept_meaning : Lone Kept → Meaning
kept_meaning s = lone_meaning (keeping s.keeper).kind (keeping s.keeper).text (keeping s.keeper).held s.presence

-- whether a kind is one of a single node of which more than options changes
abbrev pub is_kept : ServerKind → Bool
is_kept kind.Drip = true
is_kept kind.Fifo = true
is_kept _ = false

-- no other kind is
pub not_kept : (k : ServerKind) → (k ≡ kind.Drip → ⊥) → (k ≡ kind.Fifo → ⊥) → is_kept k ≡ false
not_kept kind.Drip a b = absurd (a refl)
not_kept kind.Fifo a b = absurd (b refl)
not_kept _ a b = refl

-- whether a kind is one of a single node, whose text is bytes
abbrev pub is_lone : ServerKind → Bool
is_lone k = is_fixed k || is_kept k

-- a server, where its kind is such a one
abbrev pub only_kept : Option Meaning → Option Meaning
only_kept None = None
only_kept (Some m) = if is_kept m.kind then Some m else None

-- nothing is made in its server
pub keeps_no_tree : (s : Kept) → keeps_tree (keeping s).kind ≡ false
keeps_no_tree (Drops s) = refl
keeps_no_tree (Pipe s) = refl
