-- Rights that are shared, sent and received, and other ids for a task: what the ports do is what the world's changes do.
use Rattle.std.proofs.Common.{◌≡◌, ◌∙◌, ℕ, Bool, true, false, List, [], ◌∷◌, Option, Some, None, length, slice_get, refl, ap}
use Rattle.std.specs.Prelude.{Result, Ok, Err, nat_lt, if◌then◌else◌}
use Rattle.hurd_machine.proofs.Common.{Change, EOVERFLOW, ESRCH, EWOULDBLOCK, EditTask, Errno, IdSets, Name, NodeState, OpenFlags, PendingStart, PortState, Right, Send, Steps, Task, World, answered, edit_task, first, first_sent, given, has_room, insert_at, insert_step, on, opening, or_refuse, pend_at, pend_step, pending, receive_at, receive_step, received, send_step, sent_to, share_at, share_step, take_ids_at, take_ids_step, taken_by, task_of, told, with_ids, with_new_port, with_pending, with_port, with_sent, world_from}
use Rattle.hurd_ports.specs.declared.parents.Parent.{Parent}
use Rattle.hurd_ports.specs.Tables.{right_of}
use Rattle.hurd_machine.specs.declared.call.Reply.TheVariants.{Done}
use Rattle.hurd_machine.specs.Plan.{Follows}
use Rattle.hurd_core.proofs.SettleLaws.{Alike, alike-does, alike-follows, does_settled, settled-follows, settled_if, stepped-does}
use Rattle.hurd_core.specs.Core.{Does, receive_asks, room_asks, send_asks}

module _ (N : NodeState) (H : PortState) (t : ℕ) where
  abbrev w : World
  w = world_from N H

  abbrev whole : PortState → World
  whole K = world_from N K

  abbrev changed : ℕ → (Task → Task) → PortState
  changed q f = record H { tasks = edit_task q f H.tasks }

  -- a port opened

  module _ (n : Name) (ids : IdSets) (parents : List Parent) (modes : OpenFlags) where
    abbrev opens : Task → List Change
    opens x = opening t x n ids parents modes

    open_by : (o : Option Task) → Alike whole H opens (λ x. x.next) (on ESRCH o (λ x. given EOVERFLOW (has_room 1 x) (Ok x))) (insert_at H t n ids parents modes o)
    unfolding on given
    open_by None = (refl, refl)
    open_by (Some x) = go (has_room 1 x)
      where
        go : (b : Bool) → Alike whole H opens (λ x. x.next) (given EOVERFLOW b (Ok x)) (if b then (Ok x.next, with_new_port t n ids parents modes x H) else (Err EOVERFLOW, H))
        go true = (refl, refl)
        go false = (refl, refl)

    pub open-does : (k : ℕ) (K : PortState) → insert_step t n ids parents modes H ≡ (Ok k, K) → Does w (room_asks w t 1) opens (λ x. x.next) (Ok k) (world_from N K)
    open-does k K did = stepped-does whole H opens (λ x. x.next) _ _ (open_by (slice_get H.tasks t)) k K did

  -- another thing to start, or nothing

  module _ (p : Option PendingStart) where
    abbrev pends : Task → List Change
    pends x = EditTask t (with_pending p) ∷ []

    pend_by : (o : Option Task) → Alike whole H pends (λ x. tt {0}) (or_refuse ESRCH o) (pend_at H t p o)
    pend_by None = (refl, refl)
    pend_by (Some x) = (refl, refl)

    -- the world settles then
    pub pend-does : (r : Result (Unit {0}) Errno) (K : PortState) → Steps H (pend_step t p H) r K → (z : World) → z ≡ settled_if r (world_from N K) → Does w (task_of H t) (λ (x : Task). pending t p) (λ x. tt {0}) r z
    pend-does r K s z left = does_settled w (task_of H t) pends (λ x. tt {0}) r (world_from N K) (alike-does whole H pends (λ x. tt {0}) _ _ (pend_by (slice_get H.tasks t)) r K s) z left

    -- the same of a step that needs no memory
    pub unpend-follows : (got : Result (Unit {0}) Errno) (K : PortState) (z : World) → (got, K) ≡ pend_step t p H → z ≡ settled_if got (world_from N K)
        → Follows w (answered (task_of H t) (λ x. record { reply = Done; changes = pending t p })) (told (λ u. Done) got) z
    unpend-follows got K z is left = settled-follows whole H pends (λ x. tt {0}) (λ u. Done) _ _ (pend_by (slice_get H.tasks t)) got K is z left

  -- a right shared

  module _ (r : Right) where
    abbrev sharing : Task → List Change
    sharing x = EditTask t (with_port r) ∷ []

    share_by : (o : Option Task) → Alike whole H sharing (λ x. x.next) (on ESRCH o (λ x. given EOVERFLOW (has_room 0 x) (Ok x))) (share_at H t r o)
    unfolding on given
    share_by None = (refl, refl)
    share_by (Some x) = go (has_room 0 x)
      where
        go : (b : Bool) → Alike whole H sharing (λ x. x.next) (given EOVERFLOW b (Ok x)) (if b then (Ok x.next, changed t (with_port r)) else (Err EOVERFLOW, H))
        go true = (refl, refl)
        go false = (refl, refl)

    pub share-does : (k : ℕ) (K : PortState) → share_step t r H ≡ (Ok k, K) → Does w (room_asks w t 0) sharing (λ x. x.next) (Ok k) (world_from N K)
    share-does k K did = stepped-does whole H sharing (λ x. x.next) _ _ (share_by (slice_get H.tasks t)) k K did

  -- a right sent

  module _ (p q : ℕ) where
    abbrev sending : Right → List Change
    sending r = Send r q ∷ []

    abbrev send_after : Result Right Errno → Result Right Errno
    send_after o = first o (λ r. given ESRCH (nat_lt q (length H.tasks)) (Ok r))

    send_by : (o : Result Right Errno) → Alike whole H sending (λ r. tt {0}) (send_after o) (sent_to H q o)
    unfolding first given
    send_by (Err e) = (refl, refl)
    send_by (Ok r) = go (nat_lt q (length H.tasks))
      where
        go : (b : Bool) → Alike whole H sending (λ r. tt {0}) (given ESRCH b (Ok r)) (if b then (Ok tt, changed q (with_sent r)) else (Err ESRCH, H))
        go true = (refl, refl)
        go false = (refl, refl)

    -- refused, and asked, in their order

    abbrev told_there : Bool → Result (Unit {0}) Errno
    told_there b = if b then Ok tt else Err ESRCH

    pub send-unnamed : (e : Errno) → right_of H t p ≡ Err e → send_asks w t p q ≡ Err e
    unfolding first
    send-unnamed e is = ap send_after is

    pub send-nobody : (r : Right) (e : Errno) → right_of H t p ≡ Ok r → told_there (nat_lt q (length H.tasks)) ≡ Err e → send_asks w t p q ≡ Err e
    unfolding first given
    send-nobody r e is none = ap send_after is ∙ by (nat_lt q (length H.tasks)) none
      where
        by : (b : Bool) → told_there b ≡ Err e → given ESRCH b (Ok r) ≡ Err e
        by true h = absurd (cc)
        by false h = cc

    pub send-asked : (r : Right) (u : Unit {0}) → right_of H t p ≡ Ok r → told_there (nat_lt q (length H.tasks)) ≡ Ok u → send_asks w t p q ≡ Ok r
    unfolding first given
    send-asked r u is there = ap send_after is ∙ by (nat_lt q (length H.tasks)) there
      where
        by : (b : Bool) → told_there b ≡ Ok u → given ESRCH b (Ok r) ≡ Ok r
        by true h = refl
        by false h = absurd (cc)

    pub send-does : (got : Result (Unit {0}) Errno) (K : PortState) → Steps H (send_step t p q H) got K → Does w (send_asks w t p q) sending (λ r. tt {0}) got (world_from N K)
    send-does got K s = alike-does whole H sending (λ r. tt {0}) _ _ (send_by (right_of H t p)) got K s

  -- a right received

  abbrev receiving : Task → List Change
  receiving x = EditTask t received ∷ []

  abbrev receive_after : Option Task → Result Task Errno
  receive_after o = on ESRCH o (λ x. on EWOULDBLOCK (first_sent x.inbox) (λ r. given EOVERFLOW (has_room 0 x) (Ok x)))

  receive_by : (o : Option Task) → Alike whole H receiving (λ x. x.next) (receive_after o) (receive_at H t o)
  unfolding on given
  receive_by None = (refl, refl)
  receive_by (Some x) = of_inbox x.inbox
    where
      of_room : (b : Bool) → Alike whole H receiving (λ x. x.next) (given EOVERFLOW b (Ok x)) (if b then (Ok x.next, changed t received) else (Err EOVERFLOW, H))
      of_room true = (refl, refl)
      of_room false = (refl, refl)

      of_inbox : (rs : List Right) → Alike whole H receiving (λ x. x.next) (on EWOULDBLOCK (first_sent rs) (λ r. given EOVERFLOW (has_room 0 x) (Ok x))) (taken_by H t x rs)
      of_inbox [] = (refl, refl)
      of_inbox (r ∷ rs) = of_room (has_room 0 x)

  pub receive-does : (got : Result ℕ Errno) (K : PortState) → Steps H (receive_step t H) got K → Does w (receive_asks w t) receiving (λ x. x.next) got (world_from N K)
  receive-does got K s = alike-does whole H receiving (λ x. x.next) _ _ (receive_by (slice_get H.tasks t)) got K s

  -- other ids

  module _ (ids : IdSets) where
    abbrev taking : Task → List Change
    taking x = EditTask t (with_ids ids) ∷ []

    take_by : (o : Option Task) → Alike whole H taking (λ x. tt {0}) (or_refuse ESRCH o) (take_ids_at H t ids o)
    take_by None = (refl, refl)
    take_by (Some x) = (refl, refl)

    pub take_ids-follows : (got : Result (Unit {0}) Errno) (K : PortState) → (got, K) ≡ take_ids_step t ids H → Follows w (answered (task_of H t) (λ x. record { reply = Done; changes = taking x })) (told (λ u. Done) got) (world_from N K)
    take_ids-follows got K is = alike-follows whole H taking (λ x. tt {0}) (λ u. Done) _ _ (take_by (slice_get H.tasks t)) got K is
