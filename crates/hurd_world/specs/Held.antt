-- The world that the code holds, and how its calls and replies are read.
use Rattle.std.specs.Prelude.{◌≡◌, Bool, true, false, List, [], ◌∷◌, Result, Ok, Err, Option, Some, refl}
use Rattle.std.specs.Coded.{Coded, code_by, coded×}
use Rattle.hurd_creds.specs.declared.errno.Errno.{Errno}
use Rattle.hurd_creds.specs.declared.name.TaskId.{TaskId}
use Rattle.hurd_trans_iface.specs.Meaning.{Meaning}
use Rattle.hurd_machine.specs.declared.call.Call as call
use Rattle.hurd_machine.specs.declared.call.PlainCall.{PlainCall}
use Rattle.hurd_machine.specs.declared.call.PlainCall.TheVariants.{AuthMakeauth, IoRestrictAuth}
use Rattle.hurd_machine.specs.declared.call.Reply as reply
use Rattle.hurd_machine.specs.declared.call.Reply.TheVariants.{Done, Refused, Back}
use Rattle.hurd_machine.specs.Calls.{BringsBegun, box_in, call_by, refusal}
use Rattle.hurd_machine.specs.World.{World}
use Rattle.hurd_laws.specs.Runs.{TaskCall}
use Rattle.hurd_core.specs.Core as core
use Rattle.hurd_touches.specs.contracts.noted.Noted as noted
use Rattle.hurd_touches.specs.declared.noted.Noted.{Noted}
use Rattle.hurd_world.specs.Noting.{State}

-- nodes, tasks and opens, and the parts that calls touched since these were to be noted
pub record Whole (S : Type 0) : Type 0 where
  pub core : core.Whole S
  pub noted : Noted

abbrev pub coded_whole : {S : Type 0} → Coded S → Coded (Whole S)
coded_whole {S} c = code_by (core.Whole S × Noted) (coded× (core.coded_whole c) noted.the_row.coded) (λ w. (w.core, w.noted)) (λ p. record { core = p.0; noted = p.1 }) (λ _. refl)

-- the world that these stand for, where each server means this
abbrev pub world_of : {S : Type 0} → (S → Meaning) → Whole S → World
world_of f w = core.world_of f w.core

-- with the parts that are noted
abbrev pub state_of : {S : Type 0} → (S → Meaning) → Whole S → State
state_of f w = record { world = world_of f w; noted = w.noted }

-- a call with its task, where each box means this
abbrev pub made_by : {S : Type 0} → (S → Meaning) → TaskId × call.Call S → TaskCall
made_by f m = record { task = m.0.0; call = call_by f m.1 }

-- what a caller is told of an answer
abbrev pub told_of : {S T : Type 0} → (T → reply.Reply S) → Result T Errno → reply.Reply S
told_of k (Ok x) = k x
told_of k (Err e) = Refused e

-- of one that a box comes back with
abbrev pub set_told : {S : Type 0} → Result (Unit {0}) (Errno × Option S) → reply.Reply S
set_told (Ok u) = Done
set_told (Err e) = refusal e.1 e.0

-- of one that always brings a box
abbrev pub start_told : {S : Type 0} → Result (Unit {0}) (Errno × S) → reply.Reply S
start_told (Ok u) = Done
start_told (Err e) = Back e.0 e.1

-- the condition on boxes, of each call
abbrev pub AllBegun : {S : Type 0} → (S → Meaning) → List (TaskId × call.Call S) → Type 0
AllBegun f [] = Unit {0}
AllBegun f (m ∷ ms) = BringsBegun (call_by f m.1) × AllBegun f ms

-- a box that comes back is the very one that was brought
abbrev pub ComesBack : {S : Type 0} → call.Call S → reply.Reply S → Type 0
ComesBack c (Back e s) = box_in c ≡ Some s
ComesBack c _ = Unit {0}

-- each box that comes back, in the reply to the call that brought it
abbrev pub AllComeBack : {S : Type 0} → List (TaskId × call.Call S) → List (reply.Reply S) → Type 0
AllComeBack [] [] = Unit {0}
AllComeBack [] (r ∷ rs) = ⊥
AllComeBack (m ∷ ms) [] = ⊥
AllComeBack (m ∷ ms) (r ∷ rs) = ComesBack m.1 r × AllComeBack ms rs

-- a call by whose ids a task or a port goes from then on
abbrev pub takes_ids : PlainCall → Bool
takes_ids (AuthMakeauth ids) = true
takes_ids (IoRestrictAuth p ids) = true
takes_ids c = false
