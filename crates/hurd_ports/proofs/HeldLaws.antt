-- Which opens are held, after a change of one task: those that some right is counted for.
use Rattle.std.proofs.Common.{◌≡◌, ◌≢◌, ◌∙◌, ℕ, ◌+◌, ◌<◌, ◌≤◌, List, Bool, true, false, nat_lt, refl, sym, ap, arith}
use Rattle.std.proofs.lemmas.Bool.Decides.{nat_tests}
use Rattle.std.specs.Prelude.{Some, slice_get, slice_set}
use Rattle.hurd_creds.specs.declared.name.Name.{Name}
use Rattle.hurd_creds.proofs.NameLaws.{same_name-itself, same_name-apart}
use Rattle.hurd_ports.specs.declared.table.Right.{Right}
use Rattle.hurd_ports.specs.declared.table.Right.TheVariants.{Io, Control, Start}
use Rattle.hurd_creds.specs.Weights.{one_if, count_list}
use Rattle.hurd_ports.specs.Tables.{Task, count_rights, is_held, names_open, open_of, right_in, rights_of}
use Rattle.hurd_ports.specs.Steps.{without_port}
use Rattle.hurd_ports.proofs.WeightLaws.{tasks_weighed, weigh_at, weigh_dropped, weigh_set}

-- a test is told by what it counts
pub one_told : (b : Bool) → b ≡ nat_lt 0 (one_if b)
one_told true = refl
one_told false = refl

pub held_counted : (ts : List Task) (n : Name) → is_held ts n ≡ nat_lt 0 (count_rights (names_open n) ts)
unfolding is_held
held_counted ts n = tasks_weighed (names_open n) (λ r. one_if (names_open n r)) (λ r. one_told (names_open n r)) ts

-- how many rights of a task name the open
abbrev pub namings : Name → Task → ℕ
namings n x = count_list (names_open n) (rights_of x)

positive : (k : ℕ) → 0 < k → nat_lt 0 k ≡ true
positive k some = grind (arith, nat_tests)

is_some : (k : ℕ) → nat_lt 0 k ≡ true → 0 < k
is_some k told = grind (arith, nat_tests)

module _ (ts : List Task) (t : ℕ) (x y : Task) (n : Name) (at : slice_get ts t ≡ Some x) where
  changed : count_rights (names_open n) (slice_set ts t y) + namings n x ≡ count_rights (names_open n) ts + namings n y
  changed = weigh_set (λ r. one_if (names_open n r)) ts t x y at

  -- what is held stays held where the task names it no less often
  pub held-grows : namings n x ≤ namings n y → is_held ts n ≡ true → is_held (slice_set ts t y) n ≡ true
  held-grows more held =
      let was = is_some (count_rights (names_open n) ts) (sym (held_counted ts n) ∙ held) in
      held_counted (slice_set ts t y) n ∙ positive (count_rights (names_open n) (slice_set ts t y)) (omega (arith, changed, was, more))

  -- and is held as it was where it names it as often
  pub held-alike : namings n y ≡ namings n x → is_held (slice_set ts t y) n ≡ is_held ts n
  held-alike same = held_counted (slice_set ts t y) n ∙ ap (nat_lt 0) (omega (arith, changed, same)) ∙ sym (held_counted ts n)

  -- what the task names is held
  pub held-here : 0 < namings n y → is_held (slice_set ts t y) n ≡ true
  held-here some =
      let least = weigh_at (λ r. one_if (names_open n r)) ts t x at in
      held_counted (slice_set ts t y) n ∙ positive (count_rights (names_open n) (slice_set ts t y)) (omega (arith, changed, least, some))

-- a right names its own open
pub names_own : (n : Name) (r : Right) → open_of r ≡ Some n → names_open n r ≡ true
names_own n (Io r) e = let is : r.open_name ≡ n = cc in rw is (same_name-itself n)
names_own n (Control s) e = absurd (cc)
names_own n (Start m) e = absurd (cc)

-- and no other
names_no_other : (n : Name) (r : Right) → open_of r ≢ Some n → names_open n r ≡ false
names_no_other n (Io r) apart = same_name-apart r.open_name n (λ e. apart (ap Some e))
names_no_other n (Control s) apart = refl
names_no_other n (Start m) apart = refl

-- without a port all but its open are held as they were
pub held-without : (ts : List Task) (t p : ℕ) (x : Task) (r : Right) (q : Name) → slice_get ts t ≡ Some x → right_in p x.ports ≡ Some r → open_of r ≢ Some q → is_held (slice_set ts t (without_port p x)) q ≡ is_held ts q
held-without ts t p x r q at is apart =
    let none = ap one_if (names_no_other q r apart) in
    held-alike ts t x (without_port p x) q at (omega (arith, none, weigh_dropped (λ z. one_if (names_open q z)) p x r is))
