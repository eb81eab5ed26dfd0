-- Lists of calls of tasks, and what a set of tasks is told.
use Rattle.std.specs.Prelude.{◌≡◌, ℕ, Bool, false, if◌then◌else◌, List, [], ◌∷◌}
use Rattle.std.specs.List.{filter}
use Rattle.hurd_machine.specs.Calls.{Call, Reply}
use Rattle.hurd_machine.specs.World.{World}
use Rattle.hurd_machine.specs.Sight.{Sees, SameView, Part}
use Rattle.hurd_laws.specs.Step.{reply_of, after, touches}

-- a call with the task that makes it
pub record TaskCall : Type 0 where
  pub task : ℕ
  pub call : Call

-- the world after these calls, one after another
abbrev pub run : World → List TaskCall → World
run w [] = w
run w (m ∷ ms) = run (after w m.task m.call) ms

-- the calls of tasks of S
abbrev pub calls_of : (ℕ → Bool) → List TaskCall → List TaskCall
calls_of S ms = filter (λ (m : TaskCall). S m.task) ms

-- what the tasks of S are told
abbrev pub replies_to : (ℕ → Bool) → World → List TaskCall → List Reply
replies_to S w [] = []
replies_to S w (m ∷ ms) =
    if S m.task then reply_of w m.task m.call ∷ replies_to S (after w m.task m.call) ms
    else replies_to S (after w m.task m.call) ms

-- a call touches no part that S sees
abbrev pub TouchesUnseen : (ℕ → Bool) → World → ℕ → Call → Type 0
TouchesUnseen S w t c = (p : Part) → touches w t c p → Sees S w p → ⊥

-- each call of another task touches no part that S sees at that moment
abbrev pub Quiet : (ℕ → Bool) → World → List TaskCall → Type 0
Quiet S w [] = Unit {0}
Quiet S w (m ∷ ms) = (S m.task ≡ false → TouchesUnseen S w m.task m.call) × Quiet S (after w m.task m.call) ms

-- each call of another task leaves the view of S as it was, whatever it touches
abbrev pub Unmoved : (ℕ → Bool) → World → List TaskCall → Type 0
Unmoved S w [] = Unit {0}
Unmoved S w (m ∷ ms) = (S m.task ≡ false → SameView S w (after w m.task m.call)) × Unmoved S (after w m.task m.call) ms

-- of what is done step by step from a world on: the worlds in which those steps are made that are one's own
abbrev pub own_worlds : {X : Type 0} → (X → Bool) → (X → World → World) → World → List X → List World
own_worlds own next w [] = []
own_worlds own next w (x ∷ xs) = if own x then w ∷ own_worlds own next (next x w) xs else own_worlds own next (next x w) xs

-- the worlds in which tasks of S make their calls, one after another
abbrev pub worlds_of : (ℕ → Bool) → World → List TaskCall → List World
worlds_of S w ms = own_worlds (λ (m : TaskCall). S m.task) (λ (m : TaskCall) x. after x m.task m.call) w ms

-- worlds that have the same views for S, each with the one in its place
abbrev pub SameViews : (ℕ → Bool) → List World → List World → Type 0
SameViews S [] [] = Unit {0}
SameViews S (v ∷ vs) (w ∷ ws) = SameView S v w × SameViews S vs ws
SameViews S vs ws = ⊥
