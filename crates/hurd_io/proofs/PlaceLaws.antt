-- The place that a sum is, where it is one.
use Rattle.std.proofs.Common.{◌≡◌, ℕ, ℤ, pos, negsuc, ◌≤◌, ◌<◌, Bool, true, false, refl, ap, arith, w64, nat_le}
use Rattle.std.specs.Prelude.{Ok, Err}
use Rattle.std.specs.Int.{FitsUnsigned}
use Rattle.std.specs.Int.RustNames.{unsigned_abs}
use Rattle.std.proofs.lemmas.Bool.Decides.{nat_tests}
use Rattle.std.proofs.lemmas.Int.{ints}
use Rattle.hurd_machine.proofs.Common.{EINVAL, given}
use Rattle.hurd_io.specs.Io.{i64_greatest}
use Rattle.hurd_io.specs.Opens.{place_asks}

pub place-some : (z : ℤ) (n : ℕ) → FitsUnsigned w64 z → n ≡ unsigned_abs z → n ≤ i64_greatest → Ok n ≡ place_asks z
unfolding given
place-some (pos m) n f e le = let here : nat_le m i64_greatest ≡ true = grind (arith, nat_tests) in rw here (ap Ok e)
place-some (negsuc m) n f e le = absurd (omega (arith, f.0))

pub place-large : (z : ℤ) (n : ℕ) → FitsUnsigned w64 z → n ≡ unsigned_abs z → i64_greatest < n → Err EINVAL ≡ place_asks z
unfolding given
place-large (pos m) n f e le = let here : nat_le m i64_greatest ≡ false = grind (arith, nat_tests) in rw here refl
place-large (negsuc m) n f e le = absurd (omega (arith, f.0))

pub place-none : (z : ℤ) → (FitsUnsigned w64 z → ⊥) → Err EINVAL ≡ place_asks z
unfolding given
place-none (negsuc m) out = refl
place-none (pos m) out = go (nat_le m i64_greatest) refl
  where
    go : (b : Bool) → nat_le m i64_greatest ≡ b → Err EINVAL ≡ place_asks (pos m)
    go false e = rw e refl
    go true e = let low : m ≤ i64_greatest = grind (arith, nat_tests) in absurd (out (omega (arith, ints), omega (arith, ints)))
