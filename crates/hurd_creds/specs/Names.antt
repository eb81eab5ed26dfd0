-- Names and their order.
use Rattle.std.specs.Prelude.{ℕ, ◌==◌, ◌&&◌, ◌*◌, Bool, Option, None, Some, false, bit_xor, refl}
use Rattle.std.specs.Ordering.{nat_cmp, ordering_then}
use Rattle.std.specs.Coded.{Coded, code_by, coded×, coded_ℕ}
use Rattle.std.specs.declared.cmp.Ordering.{Ordering}
use Rattle.hurd_creds.specs.declared.name.Name.{Name}

-- the name of what this task made after so many other things
abbrev pub name_of : ℕ → ℕ → Name
name_of task count = record { task = record { 0 = task }; count = count }

-- by task, then by count
unfoldable pub name_cmp : Name → Name → Ordering
name_cmp a b = ordering_then (nat_cmp a.task.0 b.task.0) (nat_cmp a.count b.count)

-- a name is stored as its two numbers
abbrev pub coded_name : Coded Name
coded_name = code_by (ℕ × ℕ) (coded× coded_ℕ coded_ℕ) (λ n. (n.task.0, n.count)) (λ p. name_of p.0 p.1) (λ _. refl)

-- whether two names are one
abbrev pub same_name : Name → Name → Bool
same_name a b = (a.task.0 == b.task.0) && (a.count == b.count)

-- whether a name that may be given is this one
abbrev pub is_one : Name → Option Name → Bool
is_one n None = false
is_one n (Some m) = same_name n m

-- both numbers of a name as one, by which it is found
abbrev pub number_of_name : Name → ℕ
number_of_name n = bit_xor n.count (n.task.0 * 4294967296)
