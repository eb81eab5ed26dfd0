-- What is seen at two moments.
use Rattle.std.proofs.Common.{◌≡◌, ℕ, false, List, Option, Some, None}
use Rattle.std.specs.Prelude.{is_some}
use Rattle.hurd_creds.specs.declared.name.TaskId.{TaskId}
use Rattle.hurd_pairs.specs.Moments.{Moment}
use Rattle.hurd_pairs.specs.Steps.{IsSeenSo, Looks}
use Rattle.hurd_pairs.specs.declared.difference.Difference.{Difference}

-- something else is seen, or the same, where nothing was found before

pub look_found : (tasks : List TaskId) (sees : List ℕ) (m n : Moment) (old : Option Difference) (d : Difference) → is_some old ≡ false → d.one ≡ m.made → d.two ≡ n.made
    → IsSeenSo tasks sees m.world n.world (Some d.said) → Looks tasks sees m n old (Some d)
look_found tasks sees m n None d none one two (other, taught) = (other, record { one = one; two = two; said = taught })
look_found tasks sees m n (Some e) d none one two seen = absurd (cc)

pub look_same : (tasks : List TaskId) (sees : List ℕ) (m n : Moment) (old : Option Difference) → is_some old ≡ false → IsSeenSo tasks sees m.world n.world None → Looks tasks sees m n old old
look_same tasks sees m n None none alike = alike
look_same tasks sees m n (Some e) none alike = absurd (cc)
