-- A task names things, in a coherent world.
use Rattle.std.proofs.Common.{ℕ, ◌≡◌, ◌≢◌, ◌+◌, ◌<◌, Some, None, refl, ◌∙◌, ap, subst, inl, inr, arith}
use Rattle.hurd_machine.proofs.Common.{Below, Coherent, Io, IoRight, IsAmong, Name, Right, ServerInfo, Task, World, edit_task, rights_of, server_at, task_at}
use Rattle.hurd_ports.specs.Tables.{nodes_of as nodes_named}
use Rattle.hurd_ports.specs.Steps.{named}
use Rattle.hurd_machine.proofs.Tasks.{edit_cases, edit_here as task_here, below_edit}
use Rattle.hurd_machine.proofs.Coherence.{IsNext, given_node, right_old, task_coherent}

-- with a task that named things
module _ (w : World) (c : Coherent w) (n : Name) (next : IsNext w n) (k : ℕ) where
  abbrev pub named_world : World
  named_world = record w { tasks = edit_task n.task.0 (named k) w.tasks }

  pub named_coherent : Coherent named_world
  named_coherent = task_coherent w c n.task.0 (named k) (λ x. omega arith) next.seat next.is_task (record { new = None; fine = tt; rights = λ r h. inl h; numbers = λ p h. c.tables.numbers n.task.0 next.seat p next.is_task h })

  pub named_still : (m : Name) → Below w m → Below named_world m
  named_still m b = below_edit w named_world n.task.0 (named k) (λ x. omega arith) refl m b

  -- a name of that task is given
  pub named_below : (m : Name) → m.task.0 ≡ n.task.0 → m.count < n.count + k → Below named_world m
  named_below m e low x at =
      let here : task_at named_world n.task.0 ≡ Some (named k next.seat) = task_here n.task.0 (named k) w.tasks next.seat next.is_task in
      let same : named k next.seat ≡ x = cc (here, at, e) in
      let made : next.seat.made + k ≡ x.made = ap (λ (z : Task). z.made) same in
      let was' = next.next in
      omega arith

  -- the rights are those that there were
  pub named_right : (t : ℕ) (x : Task) (r : Right) → task_at named_world t ≡ Some x → IsAmong r (rights_of x) → (y : Task) × (task_at w t ≡ Some y) × IsAmong r (rights_of y)
  named_right t x r at h = elim (edit_cases n.task.0 (named k) w.tasks next.seat next.is_task t x at) [
    | inl e ↦ (next.seat, ap (task_at w) e.0 ∙ next.is_task, subst (λ (z : Task). IsAmong r (rights_of z)) e.1 h)
    | inr e ↦ (x, e, h)
  ]

  -- what was not given is no open's or node's of a right, and no server aims at it
  pub unopened : (m : Name) → (Below w m → ⊥) → (t : ℕ) (x : Task) (r : IoRight) → task_at named_world t ≡ Some x → IsAmong (Io r) (rights_of x) → r.open_name ≢ m
  unopened m new t x r at h e = let y = named_right t x (Io r) at h in new (subst (Below w) e (right_old c t y.0 r y.1 y.2).1)

  pub unnoded : (m : Name) → (Below w m → ⊥) → (t : ℕ) (x : Task) (r : Right) (k : Name) → task_at named_world t ≡ Some x → IsAmong r (rights_of x) → IsAmong k (nodes_named r) → k ≢ m
  unnoded m new t x r k at h named e = let y = named_right t x r at h in new (subst (Below w) e (given_node w r (c.given.rights t y.0 r y.1 y.2) k named))

  pub unaimed : (m : Name) → (Below w m → ⊥) → (q k : Name) (i : ServerInfo) → server_at named_world q ≡ Some i → IsAmong k i.targets → k ≢ m
  unaimed m new q k i is aim e = new (subst (Below w) e (c.given.targets q k i is aim))
