-- There are other names of all things that are as pairs of some names say.
use Rattle.std.proofs.Common.{◌≡◌, ◌∙◌, ◌+◌, ◌<◌, ◌≤◌, ℕ, zero, suc, Bool, true, false, true≢false, [], ◌∷◌, cond, Option, Some, None, refl, sym, ap, ap₂, arith}
use Rattle.std.specs.Prelude.{◌||◌, if◌then◌else◌, slice_get}
use Rattle.std.specs.Map.{lookup}
use Rattle.std.proofs.lemmas.Bool.{or_right}
use Rattle.hurd_creds.proofs.NameLaws.{equal_if_same, same_name-itself}
use Rattle.hurd_nodes.specs.Shown.{boot_name}
use Rattle.hurd_machine.proofs.Common.{Name, TaskId, same_name}
use Rattle.hurd_machine.specs.Renamed.{OtherNames}
use Rattle.hurd_sight.specs.Parts.{is_in}
use Rattle.hurd_looks.specs.Pairings.{Agrees, AreApart, FromBoot, HaveOneMaker, IsOneToOne, KeepOwn, Pairing}
use Rattle.hurd_looks.specs.Renamed.{IsAside}
use Rattle.hurd_looks.proofs.PairLaws.{firsts, seconds}

-- what a name is called, where it is found
abbrev called : Name → Pairing → Option Name
called n ps = lookup (same_name n) ps

here_or_later : (P : Type 0) (n : Name) (p : Name × Name) (ps : Pairing) (m : Name) → called n (p ∷ ps) ≡ Some m → (n ≡ p.0 → p.1 ≡ m → P) → (called n ps ≡ Some m → P) → P
here_or_later P n p ps m is here later = go (same_name n p.0) refl is
  where
    go : (b : Bool) → same_name n p.0 ≡ b → cond b (Some p.1) (called n ps) ≡ Some m → P
    go true same e = let one : p.1 ≡ m = cc in here (equal_if_same n p.0 same) one
    go false same e = later e

-- more than any count of what things are called
abbrev most : Pairing → ℕ
most [] = 1
most (p ∷ ps) = suc (p.1.count) + most ps

below_most : (ps : Pairing) (n m : Name) → called n ps ≡ Some m → m.count < most ps
below_most [] n m is = absurd (cc)
below_most (p ∷ ps) n m is = here_or_later (m.count < most (p ∷ ps)) n p ps m is
    (λ same one. let count : p.1.count ≡ m.count = ap (λ (k : Name). k.count) one in omega (arith, count))
    (λ later. let rest = below_most ps n m later in omega (arith, rest))

called_maker : (ps : Pairing) (n m : Name) → HaveOneMaker ps → called n ps ≡ Some m → m.task ≡ n.task
called_maker [] n m have is = absurd (cc)
called_maker (p ∷ ps) n m have is = here_or_later (m.task ≡ n.task) n p ps m is
    (λ same one. ap (λ (k : Name). k.task) (sym one) ∙ sym have.0 ∙ ap (λ (k : Name). k.task) (sym same))
    (called_maker ps n m have.1)

called_own : (S : ℕ → Bool) (ps : Pairing) (n m : Name) → KeepOwn S ps → called n ps ≡ Some m → S n.task.0 ≡ true → m ≡ n
called_own S [] n m keep is ours = absurd (cc)
called_own S (p ∷ ps) n m keep is ours = here_or_later (m ≡ n) n p ps m is
    (λ same one. sym one ∙ sym (keep.0 (ap (λ (k : Name). S k.task.0) (sym same) ∙ ours)) ∙ sym same)
    (λ later. called_own S ps n m keep.1 later ours)

called_in : (ps : Pairing) (n m : Name) → called n ps ≡ Some m → is_in m (seconds ps) ≡ true
called_in [] n m is = absurd (cc)
called_in (p ∷ ps) n m is = here_or_later (is_in m (seconds (p ∷ ps)) ≡ true) n p ps m is
    (λ same one. ap (λ (b : Bool). b || is_in m (seconds ps)) (ap (same_name m) one ∙ same_name-itself m))
    (λ later. or_right (same_name m p.1) (is_in m (seconds ps)) (called_in ps n m later))

-- two names that are called the same are one
called_apart : (ps : Pairing) (n q m : Name) → AreApart (seconds ps) → called n ps ≡ Some m → called q ps ≡ Some m → n ≡ q
called_apart [] n q m apart is at = absurd (cc)
called_apart (p ∷ ps) n q m apart is at = here_or_later (n ≡ q) n p ps m is
    (λ same one. here_or_later (n ≡ q) q p ps m at
    (λ other two. same ∙ sym other)
    (λ later. absurd (true≢false (sym (called_in ps q m later) ∙ ap (λ (k : Name). is_in k (seconds ps)) (sym one) ∙ apart.0))))
    (λ sooner. here_or_later (n ≡ q) q p ps m at
    (λ other two. absurd (true≢false (sym (called_in ps n m sooner) ∙ ap (λ (k : Name). is_in k (seconds ps)) (sym two) ∙ apart.0)))
    (λ later. called_apart ps n q m apart.1 sooner later))

-- each pair says what its first name is called

in_firsts : (ps : Pairing) (i : ℕ) (p : Name × Name) → slice_get ps i ≡ Some p → is_in p.0 (firsts ps) ≡ true
in_firsts [] i p is = absurd (cc)
in_firsts (q ∷ ps) zero p is = let one : q ≡ p = cc in ap (λ (b : Bool). b || is_in p.0 (firsts ps)) (ap (λ (k : Name × Name). same_name p.0 k.0) one ∙ same_name-itself p.0)
in_firsts (q ∷ ps) (suc i) p is = or_right (same_name p.0 q.0) (is_in p.0 (firsts ps)) (in_firsts ps i p is)

called_so : (ps : Pairing) → AreApart (firsts ps) → (i : ℕ) (p : Name × Name) → slice_get ps i ≡ Some p → called p.0 ps ≡ Some p.1
called_so [] apart i p is = absurd (cc)
called_so (q ∷ ps) apart zero p is = let one : q ≡ p = cc in
    ap (λ (b : Bool). cond b (Some q.1) (called p.0 ps)) (ap (λ (k : Name × Name). same_name p.0 k.0) one ∙ same_name-itself p.0) ∙ ap (λ (k : Name × Name). Some k.1) one
called_so (q ∷ ps) apart (suc i) p is = go (same_name p.0 q.0) refl (called_so ps apart.1 i p is) (in_firsts ps i p is)
  where
    go : (b : Bool) → same_name p.0 q.0 ≡ b → called p.0 ps ≡ Some p.1 → is_in p.0 (firsts ps) ≡ true → called p.0 (q ∷ ps) ≡ Some p.1
    go true same rest there = absurd (true≢false (sym there ∙ ap (λ (k : Name). is_in k (firsts ps)) (equal_if_same p.0 q.0 same) ∙ apart.0))
    go false same rest there = ap (λ (b : Bool). cond b (Some q.1) (called p.0 ps)) same ∙ rest

agrees_each : (f : OtherNames) (ps : Pairing) → ((i : ℕ) (p : Name × Name) → slice_get ps i ≡ Some p → f.to p.0 ≡ p.1) → Agrees f ps
agrees_each f [] each = tt
agrees_each f (p ∷ ps) each = (each 0 p refl, agrees_each f ps (λ i. each (suc i)))

-- all other things of others get names above those

same_parts : (n q : Name) → n.task ≡ q.task → n.count ≡ q.count → n ≡ q
same_parts n q task count = ap₂ (λ (t : TaskId) (k : ℕ). record { task = t; count = k }) task count

module _ (S : ℕ → Bool) (ps : Pairing) (one : IsOneToOne ps) (keep : KeepOwn S ps) where
  abbrev raised : Name → Name
  raised n = record n { count = n.count + most ps }

  abbrev to_by : Bool → Option Name → Name → Name
  to_by own (Some m) n = m
  to_by true None n = n
  to_by false None n = raised n

  abbrev to : Name → Name
  to n = to_by (S n.task.0) (called n ps) n

  -- what a name becomes: what it is called, itself, or one above
  module _ (P : Name → Type 0) (n : Name)
      (said : (m : Name) → called n ps ≡ Some m → P m)
      (same : S n.task.0 ≡ true → P n)
      (above : S n.task.0 ≡ false → P (raised n)) where
    go : (b : Bool) → S n.task.0 ≡ b → (o : Option Name) → called n ps ≡ o → P (to_by b o n)
    go b own (Some m) is = said m is
    go true own None is = same own
    go false own None is = above own

    by_name : P (to n)
    by_name = go (S n.task.0) refl (called n ps) refl

  to_task : (n : Name) → (to n).task ≡ n.task
  to_task n = by_name (λ m. m.task ≡ n.task) n (λ m is. called_maker ps n m one.makers is) (λ own. refl) (λ other. refl)

  to_own : (n : Name) → S n.task.0 ≡ true → to n ≡ n
  to_own n own = by_name (λ m. m ≡ n) n (λ m is. called_own S ps n m keep is own) (λ o. refl) (λ other. absurd (true≢false (sym own ∙ other)))

  abbrev more : ℕ → ℕ
  more t = if S t then 0 else most ps

  more_own : (t : ℕ) → S t ≡ true → more t ≡ 0
  more_own t own = ap (λ (b : Bool). if b then 0 else most ps) own

  more_other : (t : ℕ) → S t ≡ false → more t ≡ most ps
  more_other t other = ap (λ (b : Bool). if b then 0 else most ps) other

  kept_count : (a b k : ℕ) → a ≡ b → a ≤ b + k
  kept_count a b k e = omega (arith, e)

  low_count : (a b k m : ℕ) → a < m → k ≡ m → a ≤ b + k
  low_count a b k m low e = omega (arith, low, e)

  most_count : (b k m : ℕ) → k ≡ m → b + m ≤ b + k
  most_count b k m e = omega (arith, e)

  to_count : (n : Name) → (to n).count ≤ n.count + more n.task.0
  to_count n = go (S n.task.0) refl
    where
      go : (b : Bool) → S n.task.0 ≡ b → (to n).count ≤ n.count + more n.task.0
      go true own = kept_count (to n).count n.count (more n.task.0) (ap (λ (k : Name). k.count) (to_own n own))
      go false other = by_name (λ m. m.count ≤ n.count + more n.task.0) n
          (λ m is. low_count m.count n.count (more n.task.0) (most ps) (below_most ps n m is) (more_other n.task.0 other))
          (λ own. absurd (true≢false (sym own ∙ other)))
          (λ o. most_count n.count (more n.task.0) (most ps) (more_other n.task.0 other))

  not_above : (m q : Name) → m.count < most ps → m ≡ raised q → ⊥
  not_above m q low e = let count : m.count ≡ q.count + most ps = ap (λ (k : Name). k.count) e in omega (arith, low, count)

  same_count : (a b m : ℕ) → a + m ≡ b + m → a ≡ b
  same_count a b m e = omega (arith, e)

  -- names of others that become the same are one
  both_others : (n q : Name) → S n.task.0 ≡ false → S q.task.0 ≡ false → to n ≡ to q → n ≡ q
  both_others n q other theirs = by_name (λ m. m ≡ to q → n ≡ q) n
      (λ m is. by_name (λ k. m ≡ k → n ≡ q) q
      (λ k at e. called_apart ps n q m one.others is (at ∙ ap (λ (x : Name). Some x) (sym e)))
      (λ own e. absurd (true≢false (sym own ∙ theirs)))
      (λ o e. absurd (not_above m q (below_most ps n m is) e)))
      (λ own e. absurd (true≢false (sym own ∙ other)))
      (λ o. by_name (λ k. raised n ≡ k → n ≡ q) q
      (λ k at e. absurd (not_above k n (below_most ps q k at) (sym e)))
      (λ own e. absurd (true≢false (sym own ∙ theirs)))
      (λ p e. same_parts n q (ap (λ (x : Name). x.task) e) (same_count n.count q.count (most ps) (ap (λ (x : Name). x.count) e))))

  -- what becomes the same was made by one task
  same_maker : (n q : Name) → to n ≡ to q → S n.task.0 ≡ S q.task.0
  same_maker n q e = ap (λ (t : TaskId). S t.0) (sym (to_task n) ∙ ap (λ (k : Name). k.task) e ∙ to_task q)

  to_apart : (n q : Name) → to n ≡ to q → n ≡ q
  to_apart n q e = go (S n.task.0) refl
    where
      go : (b : Bool) → S n.task.0 ≡ b → n ≡ q
      go true own = sym (to_own n own) ∙ e ∙ to_own q (sym (same_maker n q e) ∙ own)
      go false other = both_others n q other (sym (same_maker n q e) ∙ other) e

  boot_called : (qs : Pairing) → FromBoot qs → called boot_name qs ≡ Some boot_name
  boot_called [] from = absurd from
  boot_called (p ∷ qs) from =
      ap (λ (k : Name × Name). cond (same_name boot_name k.0) (Some k.1) (called boot_name qs)) from
      ∙ ap (λ (b : Bool). cond b (Some boot_name) (called boot_name qs)) (same_name-itself boot_name)

  to_boot : to boot_name ≡ boot_name
  to_boot = ap (λ (o : Option Name). to_by (S boot_name.task.0) o boot_name) (boot_called ps one.boot)

  abbrev names : OtherNames
  names = record { to = to; apart = to_apart; boot = to_boot; more = more }

  pub lives : (f : OtherNames) × IsAside S f × Agrees f ps
  lives = (
    names,
    record {
      raises = record { task = λ n. ap (λ (t : TaskId). t.0) (to_task n); count = to_count };
      ours = λ t own. record { none = more_own t own; own = λ n of. to_own n (ap S of ∙ own) };
    },
    agrees_each names ps (λ i p is. ap (λ (o : Option Name). to_by (S p.0.task.0) o p.0) (called_so ps one.names i p is)),
  )

-- where names are as the pairs say, what those tasks made keeps its name
pub own_kept : (S : ℕ → Bool) (f : OtherNames) → IsAside S f → (ps : Pairing) → Agrees f ps → KeepOwn S ps
own_kept S f aside [] agrees = tt
own_kept S f aside (p ∷ ps) agrees = (λ own. sym ((aside.ours p.0.task.0 own).own p.0 refl) ∙ agrees.0, own_kept S f aside ps agrees.1)
