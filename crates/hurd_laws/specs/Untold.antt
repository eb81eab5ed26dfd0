-- No reply tells how things are called inside, nor how many things others made unseen.
use Rattle.std.specs.Prelude.{◌≡◌, ◌≤◌, ◌+◌, ℕ, Bool, true, List, [], ◌∷◌}
use Rattle.hurd_creds.specs.declared.name.Name.{Name}
use Rattle.hurd_machine.specs.Calls.{Call}
use Rattle.hurd_machine.specs.World.{World}
use Rattle.hurd_machine.specs.Renamed.{OtherNames, renamed}
use Rattle.hurd_machine.specs.Sight.{SameView}
use Rattle.hurd_machine.specs.Sound.{AreGiven, Sound}
use Rattle.hurd_laws.specs.Runs.{TaskCall, calls_of, replies_to, worlds_of}
use Rattle.hurd_laws.specs.Step.{reply_of}

-- a call is told the same where all things have other names, and other tasks have made more
abbrev pub NamesUntold : Type 0
NamesUntold = (f : OtherNames) (w : World) (t : ℕ) (c : Call) → f.more t ≡ 0 → reply_of (renamed f w) t c ≡ reply_of w t c

-- with its other names too, all that stands was made by its task: each name's count is below what the task has made
abbrev pub KeepsGiven : OtherNames → World → Type 0
KeepsGiven f w = AreGiven (renamed f w)

-- a sound world is sound with other names, if with those too all that stands was made
abbrev pub RenamedSound : Type 0
RenamedSound = (f : OtherNames) (w : World) → KeepsGiven f w → Sound w → Sound (renamed f w)

-- two worlds look the same to S except for names: each gets other names of things, with which all that stands was made too, and of which S has made no more; then they
-- have one view
pub record SameViewRenamed (S : ℕ → Bool) (v w : World) : Type 0 where
  pub left : OtherNames
  pub right : OtherNames
  pub ours : (t : ℕ) → S t ≡ true → (left.more t ≡ 0) × (right.more t ≡ 0)
  pub given : KeepsGiven left v × KeepsGiven right w
  pub same : SameView S (renamed left v) (renamed right w)

-- so do worlds at the same places of two lists
abbrev pub SameViewsRenamed : (ℕ → Bool) → List World → List World → Type 0
SameViewsRenamed S [] [] = Unit {0}
SameViewsRenamed S (v ∷ vs) (w ∷ ws) = SameViewRenamed S v w × SameViewsRenamed S vs ws
SameViewsRenamed S vs ws = ⊥

-- a set of tasks that makes the same calls in two runs, each in worlds that look the same to it except for names, is told the same
abbrev pub SideBySideRenamed : Type 0
SideBySideRenamed =
    (S : ℕ → Bool) (v w : World) (ms ns : List TaskCall) → Sound v → Sound w
    → calls_of S ms ≡ calls_of S ns → SameViewsRenamed S (worlds_of S v ms) (worlds_of S w ns)
    → replies_to S v ms ≡ replies_to S w ns

-- names stay with their tasks, and no count rises by more than the task has made more
pub record RaisesCounts (f : OtherNames) : Type 0 where
  pub task : (n : Name) → (f.to n).task.0 ≡ n.task.0
  pub count : (n : Name) → (f.to n).count ≤ n.count + f.more n.task.0

-- a sound world, and the same with names raised where others have made more, look the same to S except for names
abbrev pub RaisedLooksSame : Type 0
RaisedLooksSame = (S : ℕ → Bool) (f : OtherNames) (w : World) → ((t : ℕ) → S t ≡ true → f.more t ≡ 0) → RaisesCounts f → Sound w → SameViewRenamed S w (renamed f w)
