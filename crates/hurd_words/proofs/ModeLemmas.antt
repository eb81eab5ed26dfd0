-- Modes in words.
use Rattle.std.proofs.Common.{IfSome, IsSome, nat_eq, ◌↔◌, ℕ, ◌≡◌, Option, Some, None, true, false, refl, ap, bit_and}
use Rattle.std.proofs.lemmas.Bool.{eq-eqb, eqb-true}
use Rattle.hurd_creds.specs.declared.mode.Mode.{Mode}
use Rattle.hurd_creds.specs.Bits.{known_modes}
use Rattle.hurd_words.specs.Modes.{mode_from}

-- the mode of bits, where `from_bits` makes one
pub mode_read : (bits : ℕ) (o : Option Mode) → IfSome o (λ m. m.0 ≡ bits) → (IsSome o ↔ (bit_and bits known_modes ≡ bits)) → o ≡ mode_from bits
mode_read bits (Some m) v k = rw (eq-eqb (bit_and bits known_modes) bits (k.0 refl)) (let of_bits : ℕ → Mode = λ n. record { 0 = n } in ap (λ n. Some (of_bits n)) v)
mode_read bits None v k = elim (nat_eq (bit_and bits known_modes) bits) as (λ is. nat_eq (bit_and bits known_modes) bits ≡ is → None ≡ mode_from bits) [
  | true ↦ λ e. let some : false ≡ true = k.1 (eqb-true _ _ e) in absurd (cc)
  | false ↦ λ e. rw e refl
] refl
