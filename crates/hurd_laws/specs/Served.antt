-- What a list of calls was told by a core that may be refused memory, beside what the written machine tells.
use Rattle.std.specs.Prelude.{◌≡◌, ℕ, Bool, ◌&&◌, not, if◌then◌else◌, List, [], ◌∷◌}
use Rattle.hurd_machine.specs.Calls.{Reply}
use Rattle.hurd_machine.specs.World.{World}
use Rattle.hurd_machine.specs.Sight.{Part, SameView, Sees, Within}
use Rattle.hurd_machine.specs.Sound.{Sound}
use Rattle.hurd_laws.specs.Called.{Called, lacks_memory}
use Rattle.hurd_laws.specs.Laws.{IsOld}
use Rattle.hurd_laws.specs.Runs.{TaskCall, run, calls_of, replies_to, worlds_of, SameViews, Quiet}

-- calls one after another, each with its reply
abbrev pub Served : World → List TaskCall → List Reply → World → Type 0
Served w [] [] x = x ≡ w
Served w [] (r ∷ rs) x = ⊥
Served w (m ∷ ms) [] x = ⊥
Served w (m ∷ ms) (r ∷ rs) x = (y : World) × Called w m.task m.call r y × Served y ms rs x

-- the calls that found memory: the others count as not made
abbrev pub kept : List TaskCall → List Reply → List TaskCall
kept [] rs = []
kept (m ∷ ms) [] = []
kept (m ∷ ms) (r ∷ rs) = if lacks_memory r then kept ms rs else m ∷ kept ms rs

-- what the tasks of S are told in reply to the calls that found memory
abbrev pub told_to : (ℕ → Bool) → List TaskCall → List Reply → List Reply
told_to S [] rs = []
told_to S (m ∷ ms) [] = []
told_to S (m ∷ ms) (r ∷ rs) = if S m.task && not (lacks_memory r) then r ∷ told_to S ms rs else told_to S ms rs

-- calls made from w that led to x: in any sound world that has the same view for S, and with any calls of the others that S
-- doesn't see, the written machine tells S the same, and S sees the same afterwards
abbrev pub IsolatedRun : World → List TaskCall → List Reply → World → Type 0
IsolatedRun w ms rs x =
    (S : ℕ → Bool) (v : World) (ns : List TaskCall) → Sound v → SameView S w v
    → calls_of S (kept ms rs) ≡ calls_of S ns → Quiet S w (kept ms rs) → Quiet S v ns
    → (told_to S ms rs ≡ replies_to S v ns) × SameView S x (run v ns)

-- calls made from w: in a run of the written machine from any sound world, in which S makes the same calls, and each in a world of the
-- same view as here, whatever the others did before it, S is told the same
abbrev pub ComparedRun : World → List TaskCall → List Reply → Type 0
ComparedRun w ms rs =
    (S : ℕ → Bool) (v : World) (ns : List TaskCall) → Sound v
    → calls_of S (kept ms rs) ≡ calls_of S ns → SameViews S (worlds_of S w (kept ms rs)) (worlds_of S v ns)
    → told_to S ms rs ≡ replies_to S v ns

-- calls made from w that led to x, in which the others touched nothing that G sees: whatever part of an old thing a task of G sees in x, G saw in w
abbrev pub BoundedRun : World → List TaskCall → List Reply → World → Type 0
BoundedRun w ms rs x =
    (S G : ℕ → Bool) (p : Part) → Within S G → Quiet G w (kept ms rs) → IsOld w p → Sees S x p → Sees G w p
