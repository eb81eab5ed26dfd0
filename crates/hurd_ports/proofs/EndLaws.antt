-- How many opens of a node are for something, after each change of what is open.
use Rattle.std.proofs.Common.{◌≡◌, ◌≢◌, ℕ, ◌+◌, ◌≤◌, ◌&&◌, Bool, List, [], ◌∷◌, length, ap, sym, ◌∙◌, arith}
use Rattle.std.proofs.lemmas.List.{length-map}
use Rattle.std.proofs.lemmas.List.Sums.{sum_by-cons}
use Rattle.std.specs.Prelude.{Some, None}
use Rattle.std.specs.List.{sum_by}
use Rattle.std.specs.FinMap as fin
use Rattle.hurd_creds.specs.declared.name.Name.{Name}
use Rattle.hurd_creds.specs.Bits.{asks, READ, WRITE}
use Rattle.hurd_creds.specs.Names.{name_cmp, same_name}
use Rattle.hurd_creds.specs.NameMaps.{edit}
use Rattle.hurd_creds.specs.Weights.{one_if}
use Rattle.hurd_creds.proofs.NameLaws.{same_name-apart, same_name-itself}
use Rattle.hurd_creds.proofs.Sums.{of_found, total_insert, total_kept, total_none, total_remove}
use Rattle.hurd_ports.specs.declared.table.Opened.{Opened}
use Rattle.hurd_ports.specs.OpenTables.{AreEnds}
use Rattle.hurd_ports.specs.Tables.{OpenMap, ends, is_end}
use Rattle.hurd_ports.proofs.CountLaws.{one_at_most}

module _ (m : OpenMap) (n : Name) (mode : ℕ) where
  abbrev one : Opened → ℕ
  one z = one_if (is_end n mode z)

  -- an open that is made is one more, if it is of the node and for this
  pub ends-made : (o : Name) (z : Opened) → fin.get m o ≡ None → ends (fin.insert m o z) n mode ≡ ends m n mode + one_if (is_end n mode z)
  unfolding ends
  ends-made o z none = let all = total_insert one m o z in let before = ap (of_found one) none in omega arith

  -- and one less once it is gone
  pub ends-gone : (o : Name) (z : Opened) → fin.get m o ≡ Some z → ends (fin.remove m o) n mode + one_if (is_end n mode z) ≡ ends m n mode
  unfolding ends
  ends-gone o z is = let all = total_remove one m o in let before = ap (of_found one) is in omega arith

  -- where nothing is open, nothing goes
  pub ends-absent : (o : Name) → fin.get m o ≡ None → ends (fin.remove m o) n mode ≡ ends m n mode
  unfolding ends
  ends-absent o none = let all = total_remove one m o in let before = ap (of_found one) none in omega arith

  -- an open that changes, and is for this as it was
  pub ends-kept : (o : Name) (f : Opened → Opened) → ((z : Opened) → is_end n mode (f z) ≡ is_end n mode z) → ends (edit o f m) n mode ≡ ends m n mode
  unfolding ends
  ends-kept o f same = total_kept one m o f (λ z is. ap one_if (same z))

  -- where no open is of the node there is none
  pub ends-none : ((o : Name) (z : Opened) → fin.get m o ≡ Some z → z.node ≢ n) → ends m n mode ≡ 0
  unfolding ends
  ends-none apart = total_none one m (λ o z is. ap (λ (b : Bool). one_if (b && asks z.modes mode)) (same_name-apart n z.node (λ e. apart o z is (sym e))))

  few : (zs : List Opened) → sum_by one zs ≤ length zs
  few [] = omega arith
  few (z ∷ zs) = let both = sum_by-cons one z zs in let rest = few zs in let first = one_at_most (is_end n mode z) in omega arith

  -- there are no more than there are opens
  pub ends-few : ends m n mode ≤ fin.len m
  unfolding ends
  ends-few = let all = few (fin.values m) in let one = fin.len-entries m in let each = length-map (fin.entries m) (λ e. e.1) in omega arith

-- an open is of its own node
pub end-counted : (z : Opened) (mode : ℕ) → one_if (is_end z.node mode z) ≡ one_if (asks z.modes mode)
end-counted z mode = ap (λ (b : Bool). one_if (b && asks z.modes mode)) (same_name-itself z.node)

-- of nothing there is none
pub ends-nothing : (n : Name) (mode : ℕ) → ends fin.empty n mode ≡ 0
ends-nothing n mode = ends-none fin.empty n mode (λ o z is. let none = fin.get-empty {X = Opened} name_cmp o in absurd (cc))

-- an open whose node stays is of a node as it was, where what it is for stays
pub end_by : (n k : Name) {a b : Bool} → a ≡ b → (same_name n k && a) ≡ (same_name n k && b)
end_by n k same = ap (λ (b : Bool). same_name n k && b) same

-- the counts stay right where an open changes, and is for what it was for
pub still-ends : {readers writers : List (Name × ℕ)} (m : OpenMap) (o : Name) (f : Opened → Opened) → ((n : Name) (z : Opened) → is_end n READ (f z) ≡ is_end n READ z)
    → ((n : Name) (z : Opened) → is_end n WRITE (f z) ≡ is_end n WRITE z) → AreEnds m readers writers → AreEnds (edit o f m) readers writers
still-ends m o f reads writes are = record { read = λ n. are.read n ∙ sym (ends-kept m n READ o f (reads n)); write = λ n. are.write n ∙ sym (ends-kept m n WRITE o f (writes n)) }
