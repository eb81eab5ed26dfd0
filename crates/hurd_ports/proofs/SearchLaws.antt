-- What a binary search finds among ports whose numbers rise.
use Rattle.std.proofs.Common.{◌≡◌, inl, inr, ℕ, zero, suc, ◌+◌, ◌<◌, ◌≤◌, List, [], ◌∷◌, length, get_or, refl, sym, ◌∙◌, arith, add-one}
use Rattle.std.proofs.lemmas.Bool.Decides.{nat_tests}
use Rattle.std.proofs.lemmas.Cmp.{ranked}
use Rattle.std.specs.Prelude.{Some, None, Result, Ok, Err}
use Rattle.std.specs.Result.{result_ok}
use Rattle.hurd_ports.specs.declared.table.Right.TheVariants.{Start}
use Rattle.std.specs.List.{position}
use Rattle.std.specs.List.Sorted.{IsSearchInRange, IsBinarySearchResult, IsNonDecreasingBy}
use Rattle.std.specs.Ordering.{nat_cmp, ordering_index}
use Rattle.hurd_ports.specs.declared.table.Port.{Port}
use Rattle.hurd_ports.specs.Sound.{NumbersRise}
use Rattle.hurd_ports.specs.Seats.{AreInOrder}
use Rattle.hurd_ports.proofs.PlaceLaws.{apart_test, numbered_so, position-cons, same_test}
use Rattle.std.proofs.lemmas.Bool.{cases_eq, cases_lt}

-- each number is as great as the bound
number-low : (low next : ℕ) (ps : List Port) (i : ℕ) (d : Port) → NumbersRise low next ps → i < length ps → low ≤ (get_or ps i d).number
number-low low next [] i d h below = absurd (omega arith)
number-low low next (x ∷ ps) zero d h below = h.0
number-low low next (x ∷ ps) (suc i) d h below = let first = h.0 in let rest = number-low (x.number + 1) next ps i d h.1 (omega arith) in omega arith

-- and greater than those before it
number-rises : (low next : ℕ) (ps : List Port) (i j : ℕ) (d : Port) → NumbersRise low next ps → i < j → j < length ps → (get_or ps i d).number < (get_or ps j d).number
number-rises low next [] i j d h lt below = absurd (omega arith)
number-rises low next (x ∷ ps) i zero d h lt below = absurd (omega arith)
number-rises low next (x ∷ ps) zero (suc j) d h lt below = let rest = number-low (x.number + 1) next ps j d h.1 (omega arith) in omega arith
number-rises low next (x ∷ ps) (suc i) (suc j) d h lt below = number-rises (x.number + 1) next ps i j d h.1 (omega arith) (omega arith)

-- a port that has the number is the first that has it
position-here : (low next n : ℕ) (ps : List Port) (i : ℕ) (d : Port) → NumbersRise low next ps → i < length ps → (get_or ps i d).number ≡ n → position (numbered_so n) ps ≡ Some i
position-here low next n [] i d h below is = absurd (omega arith)
position-here low next n (x ∷ ps) zero d h below is = position-cons (numbered_so n) x ps ∙ rw (is, same_test n) refl
position-here low next n (x ∷ ps) (suc i) d h below is =
    let past = number-low (x.number + 1) next ps i d h.1 (omega arith) in
    position-cons (numbered_so n) x ps ∙ rw (apart_test n x.number (λ e. omega arith), position-here (x.number + 1) next n ps i d h.1 (omega arith) is, add-one) refl

-- where none has it there is no place
position-nowhere : (n : ℕ) (ps : List Port) → ((i : ℕ) (d : Port) → i < length ps → (get_or ps i d).number ≡ n → ⊥) → position (numbered_so n) ps ≡ None
position-nowhere n [] none = refl
position-nowhere n (x ∷ ps) none =
    position-cons (numbered_so n) x ps ∙ rw (apart_test n x.number (λ e. none 0 x (omega arith) (sym e)), position-nowhere n ps (λ i d below is. none (suc i) d (omega arith) is)) refl

module _ (n : ℕ) (ps : List Port) (order : AreInOrder ps) where
  -- the comparisons with the number rise along the ports, as the search asks
  comparisons-rise : IsNonDecreasingBy (λ (p : Port). ordering_index (nat_cmp p.number n)) ps
  comparisons-rise i j d le below = elim (cases_eq i j) [
    | inl e ↦ rw e (omega arith)
    | inr apart ↦ let rise = number-rises 0 order.0 ps i j d order.1 (omega arith) below in ranks_rise (get_or ps i d).number (get_or ps j d).number rise
  ]
    where
      ranks_rise : (a b : ℕ) → a < b → ordering_index (nat_cmp a n) ≤ ordering_index (nat_cmp b n)
      ranks_rise a b lt = grind (arith, nat_tests)

  -- the search ends at the place of the number, if there is one
  pub searched : (r : Result ℕ ℕ) → IsSearchInRange r (length ps) → IsBinarySearchResult (λ (p : Port). nat_cmp p.number n) ps r → result_ok r ≡ position (numbered_so n) ps
  searched (Ok i) below equal =
      let d : Port = record { number = 0; right = Start (record { task = record { 0 = 0 }; count = 0 }) } in
      sym (position-here 0 order.0 n ps i d order.1 below (ranked (get_or ps i d).number n _ (sym (equal d))))
  searched (Err i) below parted = sym (position-nowhere n ps (λ k d at is. elim (cases_lt k i) [
    | inl lt ↦ let less = ranked (get_or ps k d).number n _ (sym ((parted comparisons-rise).0 k d (omega arith) lt)) in omega arith
    | inr le ↦ let more = ranked (get_or ps k d).number n _ (sym ((parted comparisons-rise).1 k d le at)) in omega arith
  ]))
