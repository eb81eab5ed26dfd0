-- What a call leaves doesn't depend on how things are called inside.
use Rattle.std.specs.Prelude.{◌≡◌, ℕ, Bool, true, List, [], ◌∷◌}
use Rattle.hurd_creds.specs.declared.name.Name.{Name}
use Rattle.hurd_machine.specs.Calls.{Call}
use Rattle.hurd_machine.specs.World.{World}
use Rattle.hurd_machine.specs.Renamed.{OtherNames, renamed}
use Rattle.hurd_machine.specs.Sight.{SameView}
use Rattle.hurd_machine.specs.Sound.{Sound}
use Rattle.hurd_laws.specs.Step.{after, reply_of}
use Rattle.hurd_laws.specs.Untold.{KeepsGiven}

-- a task's own things keep their names, and it has made no more
pub record KeepsOwn (f : OtherNames) (t : ℕ) : Type 0 where
  pub none : f.more t ≡ 0
  pub own : (n : Name) → n.task.0 ≡ t → f.to n ≡ n

-- where all other things have other names, and other tasks have made more, a call leaves the same except for those
abbrev pub AfterRenamed : Type 0
AfterRenamed = (f : OtherNames) (w : World) (t : ℕ) (c : Call) → KeepsOwn f t → after (renamed f w) t c ≡ renamed f (after w t c)

-- a world, with these other names of what others made, looks to S as another does: of S's tasks each keeps its own; with them too all that stands was made; and then they
-- have one view
pub record LooksLike (S : ℕ → Bool) (f : OtherNames) (v w : World) : Type 0 where
  pub ours : (t : ℕ) → S t ≡ true → KeepsOwn f t
  pub given : KeepsGiven f v
  pub same : SameView S (renamed f v) w

-- two worlds look the same to S except for names of what others made
abbrev pub LookAlike : (ℕ → Bool) → World → World → Type 0
LookAlike S v w = (f : OtherNames) × LooksLike S f v w

-- so do worlds at the same places of two lists
abbrev pub AllLookAlike : (ℕ → Bool) → List World → List World → Type 0
AllLookAlike S [] [] = Unit {0}
AllLookAlike S (v ∷ vs) (w ∷ ws) = LookAlike S v w × AllLookAlike S vs ws
AllLookAlike S vs ws = ⊥

-- a call of S in two such worlds: it is told the same, and the one still looks to S as the other does, by the same names
abbrev pub OwnFromLooks : Type 0
OwnFromLooks =
    (S : ℕ → Bool) (f : OtherNames) (v w : World) (t : ℕ) (c : Call) → Sound v → Sound w → S t ≡ true → LooksLike S f v w
    → (reply_of v t c ≡ reply_of w t c) × LooksLike S f (after v t c) (after w t c)
