-- The laws: what a set of tasks is told depends only on what it sees.
use Rattle.std.specs.Prelude.{◌≡◌, ◌≢◌, ◌⊎◌, ℕ, ◌≤◌, Bool, true, false, List, Some, length}
use Rattle.hurd_creds.specs.declared.name.Name.{Name}
use Rattle.hurd_ports.specs.Tables.{Task}
use Rattle.hurd_machine.specs.Calls.{Call, lacks_memory}
use Rattle.hurd_machine.specs.World.{World, task_at}
use Rattle.hurd_machine.specs.Sight.{Seen, Part, AttrOf, EmptyOf, BodyOf, EndsOf, OpenOf, OptionsOf, TextOf, UsersOf, TotalOf, TaskOf, Sees, SameView, IsGone, part}
use Rattle.hurd_machine.specs.Sound.{Sound, Below}
use Rattle.hurd_laws.specs.Step.{reply_of, after, touches}
use Rattle.hurd_laws.specs.Runs.{TaskCall, run, calls_of, replies_to, worlds_of, SameViews, TouchesUnseen, Quiet, Unmoved}

-- a part of something whose name was given before
abbrev pub IsOld : World → Part → Type 0
IsOld w (AttrOf n) = Below w n
IsOld w (EmptyOf n) = Below w n
IsOld w (BodyOf n) = Below w n
IsOld w (EndsOf n) = Below w n
IsOld w (OpenOf o) = Below w o
IsOld w (OptionsOf s) = Below w s
IsOld w (TextOf s) = Below w s
IsOld w (UsersOf s) = Below w s
IsOld w (TotalOf s) = Below w s
IsOld w (TaskOf t) = Unit {0}

-- a step changes touched parts, its caller's own task and new things alone; what of the others doesn't stay as it was is gone
abbrev pub ChangesTouched : Type 0
ChangesTouched =
    (w : World) (t : ℕ) (c : Call) (p : Part) → Sound w → IsOld w p → (touches w t c p → ⊥) → p ≢ TaskOf t
    → (part (after w t c) p ≡ part w p) ⊎ IsGone (after w t c) p

-- what goes in a step of a task outside S is nothing that S saw, unless it saw a touched part
abbrev pub GoneUnseen : Type 0
GoneUnseen =
    (S : ℕ → Bool) (w : World) (t : ℕ) (c : Call) (p : Part) → Sound w → S t ≡ false → TouchesUnseen S w t c → Sees S w p
    → IsGone (after w t c) p → IsGone w p

-- after a step of a task outside S that touches no part that S sees, the view is the same
abbrev pub OthersUnseen : Type 0
OthersUnseen =
    (S : ℕ → Bool) (w : World) (t : ℕ) (c : Call) → Sound w → S t ≡ false → TouchesUnseen S w t c → SameView S w (after w t c)

-- for a step of a task of S, the reply and the view afterwards depend on the view before alone
abbrev pub OwnFromView : Type 0
OwnFromView =
    (S : ℕ → Bool) (v w : World) (t : ℕ) (c : Call) → Sound v → Sound w → S t ≡ true → SameView S v w
    → (reply_of w t c ≡ reply_of v t c) × SameView S (after v t c) (after w t c)

-- a sound world stays sound: nothing is left to take out after any call
abbrev pub StaysSound : Type 0
StaysSound = (w : World) (t : ℕ) (c : Call) → Sound w → Sound (after w t c)

-- of memory the machine knows nothing: no call is refused for want of it
abbrev pub NeverWantsMemory : Type 0
NeverWantsMemory = (w : World) (t : ℕ) (c : Call) → lacks_memory (reply_of w t c) ≡ false

-- a name that a task of S has given since the world w
pub record GivenSince (S : ℕ → Bool) (w : World) (n : Name) : Type 0 where
  pub ours : S n.task.0 ≡ true
  pub task : Task
  pub is_task : task_at w n.task.0 ≡ Some task
  pub since : task.made ≤ n.count

-- what S sees after a step it saw before, or a task of S made it in that step: where the step is of a task of S, or touches
-- nothing that S sees
abbrev pub Confined : Type 0
Confined =
    (S : ℕ → Bool) (w : World) (t : ℕ) (c : Call) (n : Name) → Sound w → (S t ≡ true) ⊎ TouchesUnseen S w t c → Seen S (after w t c) n
    → Seen S w n ⊎ GivenSince S w n

-- what S sees after a run it saw before, or a task of S made it in that run: where the others touch nothing that S sees
abbrev pub ConfinedRun : Type 0
ConfinedRun =
    (S : ℕ → Bool) (w : World) (ms : List TaskCall) (n : Name) → Sound w → Quiet S w ms → Seen S (run w ms) n
    → Seen S w n ⊎ GivenSince S w n

-- two runs from worlds that have the same view for S, in which S makes the same calls and the others touch nothing that S sees:
-- S is told the same, and sees the same afterwards
abbrev pub Isolated : Type 0
Isolated =
    (S : ℕ → Bool) (v w : World) (ms ns : List TaskCall) → Sound v → Sound w → SameView S v w
    → calls_of S ms ≡ calls_of S ns → Quiet S v ms → Quiet S w ns
    → (replies_to S v ms ≡ replies_to S w ns) × SameView S (run v ms) (run w ns)

-- where the others touch nothing that S sees, they leave its view as it was; the other way round it need not be so: who sets an
-- attribute to what it is touches it, and moves no view
abbrev pub QuietUnmoved : Type 0
QuietUnmoved = (S : ℕ → Bool) (w : World) (ms : List TaskCall) → Sound w → Quiet S w ms → Unmoved S w ms

-- two runs from worlds that have the same view for S, in which S makes the same calls and each call of the others leaves the view
-- of S as it was: S is told the same, and sees the same afterwards
abbrev pub IsolatedByView : Type 0
IsolatedByView =
    (S : ℕ → Bool) (v w : World) (ms ns : List TaskCall) → Sound v → Sound w → SameView S v w
    → calls_of S ms ≡ calls_of S ns → Unmoved S v ms → Unmoved S w ns
    → (replies_to S v ms ≡ replies_to S w ns) × SameView S (run v ms) (run w ns)

-- two runs side by side, in which S makes the same calls, and each of them in worlds that have the same view for S, whatever the
-- others did before it: S is told the same
abbrev pub SideBySide : Type 0
SideBySide =
    (S : ℕ → Bool) (v w : World) (ms ns : List TaskCall) → Sound v → Sound w
    → calls_of S ms ≡ calls_of S ns → SameViews S (worlds_of S v ms) (worlds_of S w ns)
    → replies_to S v ms ≡ replies_to S w ns

-- what S sees is settled by what it sees: where the parts that S sees in v are the same in w, and there are as many tasks, it sees no
-- others in w, and its view is the same
abbrev pub ViewSettled : Type 0
ViewSettled =
    (S : ℕ → Bool) (v w : World) → length w.tasks ≡ length v.tasks → ((p : Part) → Sees S v p → part w p ≡ part v p) → SameView S v w
