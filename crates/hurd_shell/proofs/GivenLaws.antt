-- What a session was given, or gave.
use Rattle.std.proofs.Common.{◌≡◌, Bool, true, false, Ok, Err, refl}
use Rattle.hurd_shell.specs.declared.fault.SessionFault.{SessionFault}
use Rattle.hurd_shell.specs.declared.fault.SupplyFault.TheVariants as supply

-- whoever was given something was not refused memory before
pub was_fine : {A P : Type 0} (q : Bool) (x : A) (e : SessionFault) → (q ≡ true → (Ok x ≡ Err e) × P) → q ≡ false
was_fine true x e stays = absurd (let refused = (stays refl).0 in cc)
was_fine false x e stays = refl
