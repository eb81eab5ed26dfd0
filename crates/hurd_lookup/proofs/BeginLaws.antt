-- Where a lookup begins: by the ports of its task, which the task has in both worlds.
use Rattle.std.proofs.Common.{◌≡◌, ℕ, Bool, true, Some, refl, ap, inl, inr}
use Rattle.std.specs.Prelude.{Result, Ok, Err}
use Rattle.hurd_machine.proofs.Common.{CanBeAt, Coherent, Control, EBADF, Errno, GidOfRight, GidOfTask, Holds, IdSets, Io, IoRight, Name, Right, Seen, ServerInfo, Start, Taken, Task, UidOfRight, UidOfTask, World, io_right_of, ports_of, server_at, task_at}
use Rattle.hurd_ports.specs.Tables.{right_of}
use Rattle.hurd_machine.specs.World.{nodes_of}
use Rattle.hurd_machine.specs.Sight.{Held, Controlled}
use Rattle.hurd_machine.proofs.Confine.{named_seen}
use Rattle.hurd_machine.proofs.Views.{Agree, same_tasks, control_known}
use Rattle.hurd_machine.proofs.Asks.{IsPlain, ok_plain, err_plain, right_same, right_plain, has_right, holds_right, io_right_is, io_right_same, io_right_plain, holds_io}
use Rattle.hurd_core.specs.Control.{control_in, control_of}
use Rattle.hurd_lookup.proofs.AlikeLaws.{Alike}
use Rattle.hurd_lookup.proofs.WalkLaws.{WaysOn}
use Rattle.hurd_lookup.proofs.HeldLaws.{AnyIds, Anywhere}

-- a port by which a walk can begin: where it is on, with what ids and by what ways
pub record RightOn (At : Name → Type 0) (T : IdSets → Type 0) (q : IoRight) : Type 0 where
  pub node : At q.node
  pub ids : T q.ids
  pub ways : WaysOn At q.parents

-- a server that is the same in both worlds, with its root near
pub record ServerNear (v w : World) (Near : Name → Type 0) (s : Name) : Type 0 where
  pub same : server_at w s ≡ server_at v s
  pub root : (i : ServerInfo) → server_at v s ≡ Some i → Near i.root

-- what a task has to begin with, in both worlds: its ids, the ports that it uses nodes by, and those by which it controls servers
pub record Begins (t : ℕ) (v w : World) (At Near : Name → Type 0) (T : IdSets → Type 0) : Type 0 where
  pub task : task_at w t ≡ task_at v t
  pub ids : (x : Task) → task_at v t ≡ Some x → T x.ids
  pub port : (p : ℕ) → Alike (RightOn At T) (io_right_of (ports_of v) t p) (io_right_of (ports_of w) t p)
  pub control : (c : ℕ) → Alike (ServerNear v w Near) (control_of (ports_of v) t c) (control_of (ports_of w) t c)

-- a port that controls a server

control_is : (w : World) (t c : ℕ) (s : Name) → control_of (ports_of w) t c ≡ Ok s → right_of (ports_of w) t c ≡ Ok (Control s)
control_is w t c s h = go (right_of (ports_of w) t c) h
  where
    go : (o : Result Right Errno) → control_in o ≡ Ok s → o ≡ Ok (Control s)
    go (Err e) k = absurd (cc)
    go (Ok (Io r)) k = absurd (cc)
    go (Ok (Start n)) k = absurd (cc)
    go (Ok (Control q)) k = let same : q ≡ s = cc in ap (λ (z : Name). Ok (Control z)) same

control_plain : (w : World) (t c : ℕ) → IsPlain (control_of (ports_of w) t c)
control_plain w t c = go (right_of (ports_of w) t c) (right_plain w t c)
  where
    go : (o : Result Right Errno) → IsPlain o → IsPlain (control_in o)
    go (Err e) p = err_plain e (p e refl)
    go (Ok (Io r)) p = err_plain EBADF refl
    go (Ok (Control q)) p = ok_plain q
    go (Ok (Start n)) p = err_plain EBADF refl

-- a task of S begins where S sees, by its own ids or those of its rights
pub seen_begins : {S : ℕ → Bool} {v w : World} → Agree S v w → (t : ℕ) → S t ≡ true → Begins t v w (Seen S v) (Seen S v) (Taken S v)
seen_begins {S} {v} {w} a t ours = record {
  task = same_tasks a t ours;
  ids = λ x is. record { uids = λ u has. UidOfTask t ours x is has; gids = λ g has. GidOfTask t ours x is has };
  port = λ p. record { same = io_right_same a t ours p; has = λ q is. right_on q (holds_io t ours p q is); plain = io_right_plain v t p };
  control = λ c. record { same = ap control_in (right_same a t ours c); has = λ s is. server_near s (holds_right t ours c (Control s) (control_is v t c s is)); plain = control_plain v t c };
}
  where
    right_on : (q : IoRight) → Holds S v (Io q) → RightOn (Seen S v) (Taken S v) q
    right_on q held = record {
      node = Held q held refl;
      ids = record { uids = λ u has. UidOfRight q held has; gids = λ g has. GidOfRight q held has };
      ways = λ m way. named_seen S v q held m (inr way);
    }

    server_near : (s : Name) → Holds S v (Control s) → ServerNear v w (Seen S v) s
    server_near s held = record { same = control_known a s held; root = λ i is. Controlled s i held is refl }

-- and one can be where it begins
pub held_begins : (w : World) → Coherent w → (t : ℕ) → Begins t w w (CanBeAt (nodes_of w)) (Anywhere w) (AnyIds w)
held_begins w c t = record {
  task = refl;
  ids = λ x is. tt;
  port = λ p. record { same = refl; has = right_on p; plain = io_right_plain w t p };
  control = λ p. record { same = refl; has = λ s is. record { same = refl; root = λ i there. tt }; plain = control_plain w t p };
}
  where
    right_on : (p : ℕ) (q : IoRight) → io_right_of (ports_of w) t p ≡ Ok q → RightOn (CanBeAt (nodes_of w)) (AnyIds w) q
    right_on p q is =
        let h = has_right w t p (Io q) (io_right_is w t p q is) in
        let named = λ (n : Name). c.tables.held t h.seat (Io q) n h.is_task h.here in
        record { node = named q.node (inl refl); ids = tt; ways = λ m way. named m (inr way) }
