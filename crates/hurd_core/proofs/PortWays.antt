-- The ways that a port came in by: a right may name them, and its task sees them.
use Rattle.std.proofs.Common.{◌≡◌, ℕ, Bool, true, Ok, inl, inr}
use Rattle.hurd_machine.proofs.Common.{Coherent, Io, IoRight, IsAmong, Name, World, ports_of, ways_of}
use Rattle.hurd_ports.specs.Tables.{right_of}
use Rattle.hurd_machine.proofs.Coherence.{CanBeNamed}
use Rattle.hurd_machine.proofs.Asks.{has_right, holds_right}
use Rattle.hurd_machine.proofs.Confine.{SeenOrNew, named_seen}

module _ (w : World) (t p : ℕ) (r : IoRight) (is : right_of (ports_of w) t p ≡ Ok (Io r)) where
  pub ways_named : Coherent w → (m : Name) → IsAmong m (ways_of r.parents) → CanBeNamed w m
  ways_named c m way = let h = has_right w t p (Io r) is in ((c.given.rights t h.seat (Io r) h.is_task h.here).0 m (inr way), c.tables.held t h.seat (Io r) m h.is_task h.here (inr way))

  pub ways_seen : (S : ℕ → Bool) → S t ≡ true → (m : Name) → IsAmong m (ways_of r.parents) → SeenOrNew S w m
  ways_seen S ours m way = inl (named_seen S w r (holds_right t ours p (Io r) is) m (inr way))
