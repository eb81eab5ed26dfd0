-- APPEND set or taken away: it opens nothing to read or to write.
use Rattle.std.proofs.Common.{◌≡◌, ◌==◌, Bool, true, false, refl, ap}
use Rattle.std.proofs.lemmas.Nat.{and_or_apart, and_assoc}
use Rattle.hurd_creds.specs.declared.open_flags.OpenFlags.{OpenFlags}
use Rattle.hurd_creds.specs.Bits.{asks, with_append, READ, WRITE, APPEND}

pub append_read : (b : Bool) (f : OpenFlags) → asks (with_append b f) READ ≡ asks f READ
append_read true f = ap (λ n. n == READ) (and_or_apart READ f.0 APPEND refl)
append_read false f = ap (λ n. n == READ) (and_assoc READ f.0 503)

pub append_write : (b : Bool) (f : OpenFlags) → asks (with_append b f) WRITE ≡ asks f WRITE
append_write true f = ap (λ n. n == WRITE) (and_or_apart WRITE f.0 APPEND refl)
append_write false f = ap (λ n. n == WRITE) (and_assoc WRITE f.0 503)
