-- What a refused call leaves, and that what is taken out in the end doesn't depend on the order.
use Rattle.std.specs.Prelude.{◌≡◌, ℕ, Bool, true, false}
use Rattle.hurd_nodes.specs.Parts.{TakesOut}
use Rattle.hurd_nodes.specs.Settle.{Outside, settle, sweep}
use Rattle.hurd_nodes.specs.Shown.{NodeState}
use Rattle.hurd_machine.specs.Calls.{Call, Reply}
use Rattle.hurd_machine.specs.declared.call.Call.TheVariants.{FsysStartup}
use Rattle.hurd_machine.specs.World.{World}
use Rattle.hurd_machine.specs.Plan.{is_refused}
use Rattle.hurd_machine.specs.Sight.{Part}
use Rattle.hurd_laws.specs.Step.{reply_of, after, touches}
use Rattle.hurd_laws.specs.Called.{Called}

-- fsys_startup: if it is refused, its task no longer has to start the translator
abbrev pub is_startup : Call → Bool
is_startup (FsysStartup box) = true
is_startup c = false

-- a refused call changes nothing, except that a refused fsys_startup takes from its task what it was to start
abbrev pub RefusedChangesNothing : Type 0
RefusedChangesNothing = (w : World) (t : ℕ) (c : Call) → is_startup c ≡ false → is_refused (reply_of w t c) ≡ true → after w t c ≡ w

-- and it touches nothing
abbrev pub RefusedTouchesNothing : Type 0
RefusedTouchesNothing = (w : World) (t : ℕ) (c : Call) (p : Part) → is_refused (reply_of w t c) ≡ true → touches w t c p → ⊥

-- the same of a call by a core that may run out of memory
abbrev pub LeavesIfRefused : World → Call → Reply → World → Type 0
LeavesIfRefused w c reply x = is_startup c ≡ false → is_refused reply ≡ true → x ≡ w

-- r is left of h after take-outs, in some order, of things that don't stay, until everything that is left stays
pub data EndsAt (o : Outside) : NodeState → NodeState → Type 0 where
  AllStay : {h : NodeState} → sweep o h ≡ h → EndsAt o h h
  TakenOut : {h k r : NodeState} → TakesOut o h k → EndsAt o k r → EndsAt o h r

-- what is left is the same in every order
abbrev pub AnyOrder : Type 0
AnyOrder = (o : Outside) (h r : NodeState) → EndsAt o h r → r ≡ settle o h
