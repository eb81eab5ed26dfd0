-- Which servers of one node are of which sort.
use Rattle.std.proofs.Common.{◌≡◌, ◌||◌, Bool, true, false, true≢false, if◌then◌else◌, refl, sym}
use Rattle.std.specs.Prelude.{Some, None}
use Rattle.hurd_trans_iface.specs.Meaning.{Meaning}
use Rattle.hurd_trans_iface.specs.declared.begun.ServerKind.{ServerKind}
use Rattle.hurd_trans_iface.specs.declared.begun.ServerKind.TheVariants as kind
use Rattle.hurd_small.specs.FixedKinds.{is_fixed, only_fixed}
use Rattle.hurd_small.specs.Kept.{is_kept, is_lone, only_kept}

-- a kind that has no more nodes is one of a single node
pub lone_left : (k : ServerKind) → (k ≡ kind.Tmpfs → ⊥) → (k ≡ kind.Union → ⊥) → is_lone k ≡ true
lone_left kind.Tmpfs a b = absurd (a refl)
lone_left kind.Union a b = absurd (b refl)
lone_left _ a b = refl

one_of : (m : Meaning) (fixed kept : Bool) → fixed || kept ≡ true → (if fixed then Some m else None) ≡ None → (if kept then Some m else None) ≡ None → ⊥
one_of m true kept is a b = absurd (cc)
one_of m false true is a b = absurd (cc)
one_of m false false is a b = true≢false (sym is)

-- a server of one node is of the one sort or of the other
pub one_sort : (m : Meaning) → is_lone m.kind ≡ true → only_fixed (Some m) ≡ None → only_kept (Some m) ≡ None → ⊥
one_sort m is a b = one_of m (is_fixed m.kind) (is_kept m.kind) is a b
