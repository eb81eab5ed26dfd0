-- With the latest way left out there is room for another.
use Rattle.std.proofs.Common.{◌≡◌, ◌<◌, ◌≤◌, List, [], ◌∷◌, length, drop, sym, subst, arith}
use Rattle.std.specs.Prelude.{Some, slice_get}
use Rattle.hurd_ports.specs.Limits.{most_parents}
use Rattle.hurd_ports.specs.declared.parents.Parent.{Parent as Pair}
use Rattle.hurd_lookup.proofs.authority.Authority.ways_into.Goals as goal

less_left : (ps : List Pair) (way : Pair) → Some way ≡ slice_get ps 0 → length ps ≤ most_parents → length (drop 1 ps) < most_parents
less_left [] way is short = absurd (cc)
less_left (p ∷ ps) way is short = omega (arith, short)

pub entered-requires : goal.entered-requires
entered-requires c =
    let short = rw c.as_slice-ways.ensures.is at c.as_slice-ways.ensures.limit in
    let first_is = rw c.as_slice-ways.ensures.is at c.in-Some.ensures.value in
    subst (λ (ps : List Pair). length ps < most_parents) (sym c.in_ok-left.ensures) (less_left _ _ first_is short)
