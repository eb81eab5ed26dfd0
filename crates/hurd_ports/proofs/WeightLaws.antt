-- What rights weigh together, after each change of a task.
use Rattle.std.proofs.Common.{◌≡◌, append_assoc, ℕ, zero, suc, ◌+◌, ◌*◌, ◌≤◌, ◌==◌, ◌||◌, Bool, true, false, List, [], ◌∷◌, ◌++◌, length, map, refl, ap, ◌∙◌, arith}
use Rattle.std.proofs.lemmas.Bool.Decides.{nat_tests}
use Rattle.std.proofs.lemmas.List.{map_push}
use Rattle.std.specs.Prelude.{Option, Some, slice_get, slice_set, nat_lt}
use Rattle.std.specs.List.{list_any}
use Rattle.hurd_ports.specs.declared.table.PendingStart.{PendingStart}
use Rattle.hurd_ports.specs.declared.table.Port.{Port}
use Rattle.hurd_ports.specs.declared.table.Right.{Right}
use Rattle.hurd_creds.specs.Weights.{weigh_list}
use Rattle.hurd_ports.specs.Tables.{Task, rights_of, right_in, start_of, weigh_rights}
use Rattle.hurd_ports.specs.Steps.{edit_task, received, with_pending, with_port, with_sent, without_port, ports_without}
use Rattle.hurd_ports.proofs.TaskLaws.{edit-found}

-- lists

-- two lists weigh what each does
pub weigh_append : {X : Type 0} (W : X → ℕ) (rs ss : List X) → weigh_list W (rs ++ ss) ≡ weigh_list W rs + weigh_list W ss
weigh_append W [] ss = omega arith
weigh_append W (r ∷ rs) ss = omega (arith, weigh_append W rs ss)

-- what weighs the same of each weighs the same of all
pub weigh_list_alike : {X : Type 0} (V W : X → ℕ) → ((x : X) → V x ≡ W x) → (xs : List X) → weigh_list V xs ≡ weigh_list W xs
weigh_list_alike V W same [] = refl
weigh_list_alike V W same (x ∷ xs) = rw (same x, weigh_list_alike V W same xs) refl

-- where V weighs a list as nothing, and W weighs at most m what V weighs as nothing, W weighs the list at most m times its length
pub weigh_bound : {X : Type 0} (W V : X → ℕ) (m : ℕ) → ((x : X) → V x ≡ 0 → W x ≤ m) → (xs : List X) → weigh_list V xs ≡ 0 → weigh_list W xs ≤ length xs * m
weigh_bound W V m each [] none = omega arith
weigh_bound W V m each (x ∷ xs) none = let one = each x (omega arith) in let rest = weigh_bound W V m each xs (omega arith) in omega arith

-- some of a list passes a test where the list weighs anything
pub either_weighed : (a b : ℕ) → (nat_lt 0 a || nat_lt 0 b) ≡ nat_lt 0 (a + b)
either_weighed zero b = ap (λ n. nat_lt 0 n) (omega arith)
either_weighed (suc a) b = grind (arith, nat_tests)

pub list_weighed : {X : Type 0} (T : X → Bool) (W : X → ℕ) → ((x : X) → T x ≡ nat_lt 0 (W x)) → (xs : List X) → list_any T xs ≡ nat_lt 0 (weigh_list W xs)
list_weighed T W same [] = refl
list_weighed T W same (x ∷ xs) = rw (same x, list_weighed T W same xs) (either_weighed (W x) (weigh_list W xs))

-- all tasks

-- some right passes a test where all rights weigh anything
pub tasks_weighed : (T : Right → Bool) (W : Right → ℕ) → ((r : Right) → T r ≡ nat_lt 0 (W r)) → (ts : List Task) → list_any (λ (x : Task). list_any T (rights_of x)) ts ≡ nat_lt 0 (weigh_rights W ts)
tasks_weighed T W same [] = refl
tasks_weighed T W same (x ∷ ts) = rw (list_weighed T W same (rights_of x), tasks_weighed T W same ts) (either_weighed (weigh_list W (rights_of x)) (weigh_rights W ts))

-- what weighs the same of each right weighs the same of all
pub weigh_alike : (V W : Right → ℕ) → ((r : Right) → V r ≡ W r) → (ts : List Task) → weigh_rights V ts ≡ weigh_rights W ts
weigh_alike V W same [] = refl
weigh_alike V W same (x ∷ ts) = rw (weigh_list_alike V W same (rights_of x), weigh_alike V W same ts) refl

-- what each weighs by two measures together, all weigh by both
list_both : {X : Type 0} (V W : X → ℕ) (xs : List X) → weigh_list (λ x. V x + W x) xs ≡ weigh_list V xs + weigh_list W xs
list_both V W [] = refl
list_both V W (x ∷ xs) = omega (arith, list_both V W xs)

pub weigh_both : (V W : Right → ℕ) (ts : List Task) → weigh_rights (λ r. V r + W r) ts ≡ weigh_rights V ts + weigh_rights W ts
weigh_both V W [] = refl
weigh_both V W (x ∷ ts) = omega (arith, list_both V W (rights_of x), weigh_both V W ts)

-- with a task in place of another
pub weigh_set : (W : Right → ℕ) (ts : List Task) (q : ℕ) (x y : Task) → slice_get ts q ≡ Some x → weigh_rights W (slice_set ts q y) + weigh_list W (rights_of x) ≡ weigh_rights W ts + weigh_list W (rights_of y)
weigh_set W [] q x y h = absurd (cc)
weigh_set W (z ∷ ts) zero x y h = let e : z ≡ x = cc in rw e (omega arith)
weigh_set W (z ∷ ts) (suc q) x y h = omega (arith, weigh_set W ts q x y h)

-- the rights of all tasks afterwards, and those of the changed task before, weigh as much as all before and that task's afterwards
pub weigh_edit : (W : Right → ℕ) (q : ℕ) (f : Task → Task) (ts : List Task) (x : Task) → slice_get ts q ≡ Some x → weigh_rights W (edit_task q f ts) + weigh_list W (rights_of x) ≡ weigh_rights W ts + weigh_list W (rights_of (f x))
weigh_edit W q f ts x at = ap (λ l. weigh_rights W l + weigh_list W (rights_of x)) (edit-found q f ts x at) ∙ weigh_set W ts q x (f x) at

-- a task's rights weigh at most what all weigh
pub weigh_at : (W : Right → ℕ) (ts : List Task) (q : ℕ) (x : Task) → slice_get ts q ≡ Some x → weigh_list W (rights_of x) ≤ weigh_rights W ts
weigh_at W [] q x at = absurd (cc)
weigh_at W (z ∷ ts) zero x at = let e : z ≡ x = cc in rw e (omega arith)
weigh_at W (z ∷ ts) (suc q) x at = omega (arith, weigh_at W ts q x at)

-- one task

-- the rights of ports
abbrev pub right_of_port : Port → Right
right_of_port p = p.right

-- of its pending start, its ports and its inbox
weigh_parts : (W : Right → ℕ) (x : Task) → weigh_list W (rights_of x) ≡ weigh_list W (start_of x.pending) + (weigh_list W (map right_of_port x.ports) + weigh_list W x.inbox)
weigh_parts W x = omega (arith, weigh_append W (start_of x.pending) (map right_of_port x.ports ++ x.inbox), weigh_append W (map right_of_port x.ports) x.inbox)

-- one port more
pub port_weighs : (W : Right → ℕ) (r : Right) (x : Task) → weigh_list W (rights_of (with_port r x)) ≡ weigh_list W (rights_of x) + W r
port_weighs W r x =
    let new : Port = record { number = x.next; right = r } in
    let now = weigh_parts W (with_port r x) in
    let was = weigh_parts W x in
    let pushed : weigh_list W (map right_of_port (x.ports ++ new ∷ [])) ≡ weigh_list W (map right_of_port x.ports ++ r ∷ []) = ap (weigh_list W) (map_push right_of_port x.ports new) in
    let more = weigh_append W (map right_of_port x.ports) (r ∷ []) in
    omega arith

-- one right sent
pub weigh_sent : (W : Right → ℕ) (r : Right) (x : Task) → weigh_list W (rights_of (with_sent r x)) ≡ weigh_list W (rights_of x) + W r
weigh_sent W r x =
    let now = weigh_parts W (with_sent r x) in
    let was = weigh_parts W x in
    let more = weigh_append W x.inbox (r ∷ []) in
    omega arith

-- the first of the inbox as a port: the rights are those that there were, in their order
received-rights : (x : Task) → rights_of (received x) ≡ rights_of x
received-rights x = go x.inbox refl
  where
    go : (l : List Right) → x.inbox ≡ l → rights_of (received x) ≡ rights_of x
    go [] e = rw e refl
    go (r ∷ rs) e =
        let old : List Right = map (λ (p : Port). p.right) x.ports in
        rw e
        (ap (λ (l : List Right). start_of x.pending ++ l)
        (ap (λ (l : List Right). l ++ rs) (map_push (λ (p : Port). p.right) x.ports (record { number = x.next; right = r })) ∙ append_assoc old (r ∷ []) rs))

pub weigh_received : (W : Right → ℕ) (x : Task) → weigh_list W (rights_of (received x)) ≡ weigh_list W (rights_of x)
weigh_received W x = ap (weigh_list W) (received-rights x)

-- without a port
weigh_without : (W : Right → ℕ) (p : ℕ) (ps : List Port) (r : Right) → right_in p ps ≡ Some r → weigh_list W (map right_of_port ps) ≡ W r + weigh_list W (map right_of_port (ports_without p ps))
weigh_without W p [] r = λ h. absurd (cc)
weigh_without W p (x ∷ ps) r = go (p == x.number) refl (weigh_without W p ps r)
  where
    go : (b : Bool) → (p == x.number) ≡ b → (right_in p ps ≡ Some r → weigh_list W (map right_of_port ps) ≡ W r + weigh_list W (map right_of_port (ports_without p ps)))
        → right_in p (x ∷ ps) ≡ Some r → weigh_list W (map right_of_port (x ∷ ps)) ≡ W r + weigh_list W (map right_of_port (ports_without p (x ∷ ps)))
    go true e ih h = let k : Some x.right ≡ Some r = rw e at h in let same : x.right ≡ r = cc in rw (e, same) refl
    go false e ih h = let rest = ih (rw e at h) in rw e (omega (arith, rest))

pub weigh_dropped : (W : Right → ℕ) (p : ℕ) (x : Task) (r : Right) → right_in p x.ports ≡ Some r → weigh_list W (rights_of x) ≡ W r + weigh_list W (rights_of (without_port p x))
weigh_dropped W p x r is =
    let one = weigh_without W p x.ports r is in
    let now = weigh_parts W (without_port p x) in
    let was = weigh_parts W x in
    omega arith

-- another thing to start, or nothing: that right comes in place of the one that was
pub pending_weighs : (W : Right → ℕ) (p : Option PendingStart) (x : Task)
    → weigh_list W (rights_of (with_pending p x)) + weigh_list W (start_of x.pending) ≡ weigh_list W (rights_of x) + weigh_list W (start_of p)
pending_weighs W p x =
    let now = weigh_parts W (with_pending p x) in
    let was = weigh_parts W x in
    omega arith
