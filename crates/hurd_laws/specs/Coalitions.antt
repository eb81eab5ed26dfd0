-- What a set of tasks can come to see, and be told, whatever a larger set does with it.
use Rattle.std.specs.Prelude.{◌≡◌, ◌⊎◌, ℕ, zero, suc, Bool, true, false, not, List, [], ◌∷◌, ◌++◌, length}
use Rattle.hurd_creds.specs.declared.name.Name.{Name}
use Rattle.hurd_machine.specs.Calls.{Reply}
use Rattle.hurd_machine.specs.World.{World}
use Rattle.hurd_machine.specs.Sight.{Part, SameView, Seen, Sees, Within, part}
use Rattle.hurd_machine.specs.Sound.{Sound}
use Rattle.hurd_laws.specs.Step.{reply_of, after}
use Rattle.hurd_laws.specs.Runs.{TaskCall, run, replies_to, Quiet}
use Rattle.hurd_laws.specs.Laws.{IsOld, GivenSince}

-- a larger set sees each part that a smaller one sees
abbrev pub SeesMore : Type 0
SeesMore = (S G : ℕ → Bool) (w : World) (p : Part) → Within S G → Sees S w p → Sees G w p

-- two worlds that look the same to a larger set look the same to a smaller one
abbrev pub ViewsShrink : Type 0
ViewsShrink = (S G : ℕ → Bool) (v w : World) → Within S G → SameView G v w → SameView S v w

-- after a run in which the others touch nothing that G sees, a task of G sees no part of an old thing except what G saw before the run
abbrev pub OnlyTogether : Type 0
OnlyTogether =
    (S G : ℕ → Bool) (w : World) (ms : List TaskCall) (p : Part) → Sound w → Within S G → Quiet G w ms → IsOld w p → Sees S (run w ms) p
    → Sees G w p

-- nor any node except one that G saw before the run, or made in it
abbrev pub OnlyMade : Type 0
OnlyMade =
    (S G : ℕ → Bool) (w : World) (ms : List TaskCall) (n : Name) → Sound w → Within S G → Quiet G w ms → Seen S (run w ms) n
    → Seen G w n ⊎ GivenSince G w n

-- A guards a part: all tasks without A, together, don't see it
abbrev pub Guards : (ℕ → Bool) → World → Part → Type 0
Guards A w p = Sees (λ t. not (A t)) w p → ⊥

-- no task of G is one of A
abbrev pub Without : (ℕ → Bool) → (ℕ → Bool) → Type 0
Without A G = (t : ℕ) → G t ≡ true → A t ≡ false

-- whoever is helped by nobody of A never comes to see a part that A guards
abbrev pub NeverWithout : Type 0
NeverWithout =
    (S G A : ℕ → Bool) (w : World) (ms : List TaskCall) (p : Part) → Sound w → Within S G → Without A G → Guards A w p → IsOld w p → Quiet G w ms
    → Sees S (run w ms) p → ⊥

-- so many calls of some tasks, each chosen by all replies so far
abbrev pub chosen : ℕ → (List Reply → TaskCall) → List Reply → World → List TaskCall
chosen zero next told w = []
chosen (suc k) next told w = let m = next told in m ∷ chosen k next (told ++ reply_of w m.task m.call ∷ []) (after w m.task m.call)

-- two worlds with as many tasks, which differ in hidden parts alone
pub record DifferIn (hidden : Part → Bool) (v w : World) : Type 0 where
  pub tasks : length w.tasks ≡ length v.tasks
  pub parts : (p : Part) → hidden p ≡ false → part w p ≡ part v p

-- of calls that are chosen so in two worlds: they are the same calls, S gets the same replies, and sees the same afterwards
pub record CannotTell (S : ℕ → Bool) (v w : World) (k : ℕ) (next : List Reply → TaskCall) : Type 0 where
  pub calls : chosen k next [] v ≡ chosen k next [] w
  pub told : replies_to S v (chosen k next [] v) ≡ replies_to S w (chosen k next [] w)
  pub sees : SameView S (run v (chosen k next [] v)) (run w (chosen k next [] w))

-- if two worlds differ only in parts that A guards, nobody can ever tell them apart without A, however the calls are chosen
abbrev pub NeverTellsWithout : Type 0
NeverTellsWithout =
    (S G A : ℕ → Bool) (v w : World) (hidden : Part → Bool) (k : ℕ) (next : List Reply → TaskCall) → Sound v → Sound w → Within S G → Without A G
    → DifferIn hidden v w → ((p : Part) → hidden p ≡ true → Guards A v p) → ((rs : List Reply) → G (next rs).task ≡ true)
    → CannotTell S v w k next
