-- The server refuses a read or a write that needs no memory, as its plan says.
use Rattle.std.proofs.Common.{◌≡◌, ℕ, List, subst}
use Rattle.std.specs.Prelude.{Result, Ok, Err, IfOk}
use Rattle.hurd_machine.proofs.Common.{Change, Did, Errno, Name, NodeState, Question, Reply, World, asked_at, changes_of, edits_of}
use Rattle.hurd_trans_iface.specs.Behaviour.{told_of}
use Rattle.hurd_machine.specs.declared.call.Reply.TheVariants.{Refused}
use Rattle.hurd_machine.specs.World.{nodes_of}
use Rattle.hurd_machine.specs.Plan.{Follows}
use Rattle.hurd_core.specs.Core.{Does}
use Rattle.hurd_core.proofs.PlanLaws.{follows-then}
use Rattle.hurd_core.proofs.NeedLaws.{told-follows}
use Rattle.hurd_io.specs.Io.{IoAt, free_io, plan_io}

module _ {T : Type 0} (w : World) (asks : Result IoAt Errno) (q : IoAt → Question T) (reply : T → Reply) (count : T → ℕ) (a : IoAt) (is : asks ≡ Ok a) where
  abbrev did : Did T → List Change
  did d = changes_of (edits_of a.node (Ok d))

  pub io-short-free : (free : IoAt → Name → NodeState → Type 0) (e : Errno) (y : World) → Does w (asked_at (q a) a.node w) did (λ (d : Did T). d.told) (Err e) y
      → (free a a.node (nodes_of w) → Err e ≡ told_of (asked_at (q a) a.node w)) → free_io w asks free → Follows w (plan_io w asks q reply count) (Refused e) y
  io-short-free free e y d sure needs =
      let here : free a a.node (nodes_of w) = subst (λ (r : Result IoAt Errno). IfOk r (λ (b : IoAt). free b b.node (nodes_of w))) is needs in
      follows-then w asks _ a (Refused e) y is (told-follows w (asked_at (q a) a.node w) _ did e y d (sure here))
