-- What changes of tasks make of tasks with other names.
use Rattle.std.proofs.Common.{◌≡◌, ◌+◌, ◌++◌, ◌==◌, ℕ, zero, suc, Bool, true, false, if◌then◌else◌, List, [], ◌∷◌, Option, Some, None, map, refl, sym, ap, ◌∙◌, arith}
use Rattle.std.specs.Prelude.{slice_get, slice_set}
use Rattle.std.specs.Option.{option_map}
use Rattle.hurd_ports.specs.declared.table.Port.{Port}
use Rattle.hurd_ports.specs.declared.table.Right.{Right}
use Rattle.hurd_ports.specs.Tables.{Task}
use Rattle.hurd_ports.specs.Steps.{edit_at, edit_task, named, ports_without, received, with_port, with_sent, without_port}
use Rattle.hurd_machine.specs.Renamed.{OtherNames, port_renamed, right_renamed, task_renamed, tasks_renamed}
use Rattle.hurd_machine.proofs.RenamedTasks.{slice_get-renamed}

pub mapped_both : {A B : Type 0} (g : A → B) (xs ys : List A) → map g (xs ++ ys) ≡ map g xs ++ map g ys
mapped_both g [] ys = refl
mapped_both g (x ∷ xs) ys = ap (λ zs. g x ∷ zs) (mapped_both g xs ys)

module _ (f : OtherNames) where
  -- one task of many

  set-renamed : (more : ℕ → ℕ) (ts : List Task) (q : ℕ) (y : Task) → slice_set (tasks_renamed f.to more ts) q (task_renamed f.to (more q) y) ≡ tasks_renamed f.to more (slice_set ts q y)
  set-renamed more [] q y = refl
  set-renamed more (x ∷ ts) zero y = refl
  set-renamed more (x ∷ ts) (suc q) y = ap (λ (us : List Task). task_renamed f.to (more 0) x ∷ us) (set-renamed (λ u. more (suc u)) ts q y)

  edit_at-renamed : (more : ℕ → ℕ) (ts : List Task) (q : ℕ) (g h : Task → Task) → ((x : Task) → h (task_renamed f.to (more q) x) ≡ task_renamed f.to (more q) (g x)) → (o : Option Task)
      → edit_at q h (tasks_renamed f.to more ts) (option_map (task_renamed f.to (more q)) o) ≡ tasks_renamed f.to more (edit_at q g ts o)
  edit_at-renamed more ts q g h same None = refl
  edit_at-renamed more ts q g h same (Some x) = ap (λ (y : Task). slice_set (tasks_renamed f.to more ts) q y) (same x) ∙ set-renamed more ts q (g x)

  pub edit_task-renamed : (more : ℕ → ℕ) (ts : List Task) (q : ℕ) (g h : Task → Task) → ((x : Task) → h (task_renamed f.to (more q) x) ≡ task_renamed f.to (more q) (g x))
      → edit_task q h (tasks_renamed f.to more ts) ≡ tasks_renamed f.to more (edit_task q g ts)
  edit_task-renamed more ts q g h same = ap (edit_at q h (tasks_renamed f.to more ts)) (slice_get-renamed f more ts q) ∙ edit_at-renamed more ts q g h same (slice_get ts q)

  -- what becomes of one

  later : (a b k : ℕ) → (a + b) + k ≡ (a + k) + b
  later a b k = omega arith

  pub named-renamed : (more k : ℕ) (x : Task) → named k (task_renamed f.to more x) ≡ task_renamed f.to more (named k x)
  named-renamed more k x = ap (λ (made : ℕ). record (task_renamed f.to more x) { made = made }) (later x.made more k)

  pub with_port-renamed : (more : ℕ) (r : Right) (x : Task) → with_port (right_renamed f.to r) (task_renamed f.to more x) ≡ task_renamed f.to more (with_port r x)
  with_port-renamed more r x =
      ap (λ (ps : List Port). record (task_renamed f.to more x) { ports = ps; next = x.next + 1 })
      (sym (mapped_both (port_renamed f.to) x.ports (record { number = x.next; right = r } ∷ [])))

  ports_without-renamed : (p : ℕ) (ps : List Port) → ports_without p (map (port_renamed f.to) ps) ≡ map (port_renamed f.to) (ports_without p ps)
  ports_without-renamed p [] = refl
  ports_without-renamed p (x ∷ ps) = go (p == x.number) (ports_without-renamed p ps)
    where
      go : (b : Bool) → ports_without p (map (port_renamed f.to) ps) ≡ map (port_renamed f.to) (ports_without p ps)
          → (if b then map (port_renamed f.to) ps else port_renamed f.to x ∷ ports_without p (map (port_renamed f.to) ps)) ≡ map (port_renamed f.to) (if b then ps else x ∷ ports_without p ps)
      go true rest = refl
      go false rest = ap (λ (qs : List Port). port_renamed f.to x ∷ qs) rest

  pub without_port-renamed : (more p : ℕ) (x : Task) → without_port p (task_renamed f.to more x) ≡ task_renamed f.to more (without_port p x)
  without_port-renamed more p x = ap (λ (ps : List Port). record (task_renamed f.to more x) { ports = ps }) (ports_without-renamed p x.ports)

  pub with_sent-renamed : (more : ℕ) (r : Right) (x : Task) → with_sent (right_renamed f.to r) (task_renamed f.to more x) ≡ task_renamed f.to more (with_sent r x)
  with_sent-renamed more r x = ap (λ (rs : List Right). record (task_renamed f.to more x) { inbox = rs }) (sym (mapped_both (right_renamed f.to) x.inbox (r ∷ [])))

  received_by : (more : ℕ) (x : Task) (rs : List Right) → received (task_renamed f.to more (record x { inbox = rs })) ≡ task_renamed f.to more (received (record x { inbox = rs }))
  received_by more x [] = refl
  received_by more x (r ∷ rs) = with_port-renamed more r (record x { inbox = rs })

  pub received-renamed : (more : ℕ) (x : Task) → received (task_renamed f.to more x) ≡ task_renamed f.to more (received x)
  received-renamed more x = received_by more x x.inbox
