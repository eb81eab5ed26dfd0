use Rattle.std.proofs.Common.{◌≡◌, true, subst}
use Rattle.std.specs.Bool.{Decides}
use Rattle.std.proofs.lemmas.Slice.Eq.{slice_eq-Decides}
use Rattle.hurd_machine.proofs.Common.{Name, same_name}
use Rattle.hurd_creds.proofs.NameLaws.{equal_if_same, same_name-itself}
use Rattle.hurd_views.proofs.rows.NodeNames.is_same.Goals as goal

exact : (a b : Name) → Decides (same_name a b) (a ≡ b)
exact a b = (equal_if_same a b, λ e. subst (λ (x : Name). same_name a x ≡ true) e (same_name-itself a))

pub returns : goal.returns
returns c =
    let same : Decides c.eq.result (c.as_slice.result.now ≡ c.as_slice-2.result.now) = slice_eq-Decides exact c.as_slice.result.now c.as_slice-2.result.now c.eq.result c.eq.ensures in
    rw (← c.as_slice.ensures, ← c.as_slice-2.ensures) same
