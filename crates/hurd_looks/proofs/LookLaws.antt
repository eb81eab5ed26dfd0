-- Rows of two views, one after another, and the whole.
use Rattle.std.proofs.Common.{◌≡◌, ◌∙◌, ◌+◌, ◌<◌, ◌≤◌, ℕ, zero, suc, Bool, true, false, true≢false, List, [], ◌∷◌, map, length, Option, Some, None, refl, sym, ap, ap₂, subst, inl, inr, arith}
use Rattle.std.specs.Prelude.{◌↔◌, IsTrue, slice_get}
use Rattle.std.specs.Option.{option_map}
use Rattle.std.proofs.lemmas.List.{length-map}
use Rattle.std.proofs.lemmas.Option.{slice_get-map}
use Rattle.hurd_nodes.specs.Shown.{boot_name}
use Rattle.hurd_ports.proofs.TaskLaws.{one_or_other}
use Rattle.hurd_machine.proofs.Common.{Name}
use Rattle.hurd_machine.specs.Renamed.{OtherNames, task_renamed}
use Rattle.hurd_laws.specs.Untold.{RaisesCounts}
use Rattle.hurd_views.specs.Views.{row_at}
use Rattle.hurd_views.specs.declared.rows.Row.{Row}
use Rattle.hurd_views.specs.declared.view.View.{View}
use Rattle.hurd_looks.specs.Pairings.{Agrees, IsOneToOne, KeepOwn, PairUp, Pairing}
unfoldable use Rattle.hurd_looks.specs.Pairings.{PairsFor}
use Rattle.hurd_looks.specs.Renamed.{AreAlike, IsAside, listed, named_row_renamed, row_renamed}
use Rattle.hurd_looks.proofs.Lives.{lives, own_kept}
use Rattle.hurd_looks.proofs.MeetLaws.{pairs_as, pairs_both, pairs_no}
use Rattle.hurd_looks.proofs.PairLaws.{KeepsAt, keep_each}

-- a row at a place

pub listed_at : (rows : List (Name × Row)) (i : ℕ) (n : Name) (x : Name × Row) → option_map (λ (e : Name × Row). e.0) (slice_get rows i) ≡ Some n → slice_get (listed rows) i ≡ Some x → x ≡ (n, row_at rows n)
listed_at rows i n x is at = go (slice_get rows i) refl
  where
    go : (o : Option (Name × Row)) → slice_get rows i ≡ o → x ≡ (n, row_at rows n)
    go None e = let bad : None ≡ Some n = ap (option_map (λ (d : Name × Row). d.0)) (sym e) ∙ is in absurd (cc)
    go (Some e) here =
        let name : Some e.0 ≡ Some n = ap (option_map (λ (d : Name × Row). d.0)) (sym here) ∙ is in
        let same : e.0 ≡ n = cc in
        let row : Some x ≡ Some (e.0, row_at rows e.0) = sym at ∙ slice_get-map (λ (d : Name × Row). (d.0, row_at rows d.0)) rows i ∙ ap (option_map (λ (d : Name × Row). (d.0, row_at rows d.0))) here in
        let one : x ≡ (e.0, row_at rows e.0) = cc in
        one ∙ ap (λ (k : Name). (k, row_at rows k)) same

module _ (x y : Name × Row) (n m : Name) (r s : Row) (is : x ≡ (n, r)) (at : y ≡ (m, s)) where
  row_name : (g : Name → Name) → named_row_renamed g x ≡ y → g n ≡ m
  row_name g e = ap (λ (d : Name × Row). g d.0) (sym is) ∙ ap (λ (d : Name × Row). d.0) e ∙ ap (λ (d : Name × Row). d.0) at

  row_seen : (g : Name → Name) → named_row_renamed g x ≡ y → row_renamed g r ≡ s
  row_seen g e = ap (λ (d : Name × Row). row_renamed g d.1) (sym is) ∙ ap (λ (d : Name × Row). d.1) e ∙ ap (λ (d : Name × Row). d.1) at

  row_of_both : (g : Name → Name) → (g n ≡ m) × (row_renamed g r ≡ s) → named_row_renamed g x ≡ y
  row_of_both g h = ap (named_row_renamed g) is ∙ ap₂ (λ (k : Name) (z : Row). (k, z)) h.0 h.1 ∙ sym at

  pub row_no : (old : Pairing) (met : Bool) (new : Pairing) → met ≡ false → PairUp (λ f k. f k) n m old met new → PairUp named_row_renamed x y old false new
  row_no old met new not_met h = pairs_no _ _ row_name old met new not_met h

  pub row_both : (old : Pairing) (met : Bool) (mid : Pairing) (next : Bool) (new : Pairing) → met ≡ true → PairUp (λ f k. f k) n m old met mid → PairUp row_renamed r s mid next new
      → PairUp named_row_renamed x y old next new
  row_both old met mid next new is_met h k = pairs_as _ _ (λ g. (row_of_both g, λ e. (row_name g e, row_seen g e))) old next new (pairs_both _ _ old met mid next new is_met h k)

pub listed_length : (rows : List (Name × Row)) → length (listed rows) ≡ length rows
listed_length rows = length-map rows (λ (e : Name × Row). (e.0, row_at rows e.0))

-- there is a row at each place
pub listed_there : (rows : List (Name × Row)) (i : ℕ) → i < length rows → (x : Name × Row) × (slice_get (listed rows) i ≡ Some x)
listed_there rows i within = there (listed rows) i (subst (λ (k : ℕ). i < k) (sym (listed_length rows)) within)
  where
    there : (xs : List (Name × Row)) (i : ℕ) → i < length xs → (x : Name × Row) × (slice_get xs i ≡ Some x)
    there [] i within = absurd (omega (arith, within))
    there (x ∷ xs) zero within = (x, refl)
    there (x ∷ xs) (suc i) within = there xs i (omega (arith, within))

-- what holds up to a place, and there, holds up to the next
pub one_further : (P : ℕ → Type 0) (i : ℕ) → ((j : ℕ) → j < i → P j) → P i → (j : ℕ) → j < i + 1 → P j
one_further P i before here j within = elim (one_or_other j i) [
  | inl same ↦ subst P (sym same) here
  | inr apart ↦ before j (omega (arith, within, apart))
]

-- pairs that keep what tasks made, up to a place
pub keep_all : (S : ℕ → Bool) (ps : Pairing) (k : ℕ) → length ps ≤ k → ((j : ℕ) → j < k → KeepsAt S ps j) → KeepOwn S ps
keep_all S ps k past each = keep_each S ps (λ j p is. each j (before ps k j p is past) p is)
  where
    before : (qs : Pairing) (k j : ℕ) (p : Name × Name) → slice_get qs j ≡ Some p → length qs ≤ k → j < k
    before [] k j p is past = absurd (cc)
    before (q ∷ qs) k zero p is past = omega (arith, past)
    before (q ∷ qs) zero (suc j) p is past = absurd (omega (arith, past))
    before (q ∷ qs) (suc k) (suc j) p is past = let rest : j < k = before qs k j p is (omega (arith, past)) in omega (arith, rest)

-- what pairs say, by how that ended

never_so : (P : (Name → Name) → Type 0) (old : Pairing) (met : Bool) (new : Pairing) → met ≡ false → PairsFor P old met new → (f : OtherNames) → RaisesCounts f → Agrees f old → P f.to → ⊥
unfolding PairsFor
never_so P old true new not_met h f raises agrees holds = true≢false not_met
never_so P old false new not_met h f raises agrees holds = h f raises agrees holds

so_then : (P : (Name → Name) → Type 0) (old : Pairing) (met : Bool) (new : Pairing) → met ≡ true → PairsFor P old met new → (f : OtherNames) → RaisesCounts f → Agrees f new ↔ (Agrees f old × P f.to)
unfolding PairsFor
so_then P old false new is_met h = absurd (true≢false (sym is_met))
so_then P old true new is_met h = h

-- the whole

module _ (S : ℕ → Bool) (a b : View) where
  abbrev Seats : (Name → Name) → Type 0
  Seats g = map (option_map (task_renamed g 0)) a.seats.items ≡ b.seats.items

  abbrev Rows : (Name → Name) → Type 0
  Rows g = map (named_row_renamed g) (listed a.rows) ≡ listed b.rows

  from_boot : (f : OtherNames) (start : Pairing) → start ≡ (boot_name, boot_name) ∷ [] → Agrees f start
  from_boot f start is = rw is (f.boot, tt)

  module _ (start : Pairing) (is : start ≡ (boot_name, boot_name) ∷ []) where
    pub seats_differ : (met : Bool) (mid : Pairing) → met ≡ false → PairsFor Seats start met mid → IsTrue false ↔ AreAlike S a b
    seats_differ met mid not_met h =
        (λ bad. absurd (true≢false (sym bad)), λ alike. absurd (never_so _ start met mid not_met h alike.0 alike.1.raises (from_boot alike.0 start is) alike.2.seats))

    module _ (met : Bool) (mid : Pairing) (is_met : met ≡ true) (h : PairsFor Seats start met mid) where
      pub rows_differ : (next : Bool) (new : Pairing) → next ≡ false → PairsFor Rows mid next new → IsTrue false ↔ AreAlike S a b
      rows_differ next new not_met k =
          let both = pairs_both Seats Rows start met mid next new is_met h k in
          (λ bad. absurd (true≢false (sym bad)), λ alike. absurd (never_so _ start next new not_met both alike.0 alike.1.raises (from_boot alike.0 start is) (alike.2.seats, alike.2.rows)))

      module _ (next : Bool) (new : Pairing) (is_next : next ≡ true) (k : PairsFor Rows mid next new) (count : a.count ≡ b.count) (one : IsOneToOne new) where
        ends : (f : OtherNames) → RaisesCounts f → Agrees f new ↔ (Agrees f start × (Seats f.to × Rows f.to))
        ends = so_then _ start next new is_next (pairs_both Seats Rows start met mid next new is_met h k)

        made : (f : OtherNames) → IsAside S f → Agrees f new → AreAlike S a b
        made f aside agrees = let e = (ends f aside.raises).0 agrees in (f, aside, record { rows = e.1.1; seats = e.1.0; count = count })

        pub whole : (kept : Bool) → IsTrue kept ↔ KeepOwn S new → IsTrue kept ↔ AreAlike S a b
        whole kept keeps = (
          λ is_kept. let l = lives S new one (keeps.0 is_kept) in made l.0 l.1 l.2,
          λ alike. keeps.1 (own_kept S alike.0 alike.1 new ((ends alike.0 alike.1.raises).1 (from_boot alike.0 start is, (alike.2.seats, alike.2.rows)))),
        )
