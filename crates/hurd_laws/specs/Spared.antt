-- What stays over a run, as nobody changes it.
use Rattle.std.specs.Prelude.{◌≡◌, ◌≢◌, ◌⊎◌, ℕ, Bool, true, false, List, [], ◌∷◌, Some}
use Rattle.hurd_creds.specs.declared.name.Name.{Name}
use Rattle.hurd_creds.specs.declared.attrs.Kind.TheVariants.{Dir}
use Rattle.hurd_creds.specs.Bits.{READ, WRITE}
use Rattle.hurd_trans_iface.specs.Nodes.{Header}
use Rattle.hurd_machine.specs.World.{World, body_at, header_at, home_at, stream_at}
use Rattle.hurd_machine.specs.Sight.{Part, AttrOf, BodyOf, IsGone, IsThing, part}
use Rattle.hurd_machine.specs.Sound.{Sound}
use Rattle.hurd_laws.specs.Step.{after, touches}
use Rattle.hurd_laws.specs.Laws.{IsOld}
use Rattle.hurd_laws.specs.Runs.{TaskCall, run}
use Rattle.hurd_laws.specs.Integrity.{HasOpen, IsLost, MayChange, Owns, Rules, SameOwned}

-- S makes each of its calls where it may not change this part, and no call of another touches it
abbrev pub Spared : (ℕ → Bool) → World → List TaskCall → Part → Type 0
Spared S w [] p = Unit {0}
Spared S w (m ∷ ms) p =
    ((S m.task ≡ true → MayChange S w p → ⊥) × (S m.task ≡ false → touches w m.task m.call p → ⊥)) × Spared S (after w m.task m.call) ms p

-- at one of these calls it went, as nobody saw it any more
abbrev pub WentUnseen : World → List TaskCall → Part → Type 0
WentUnseen w [] p = ⊥
WentUnseen w (m ∷ ms) p = IsLost (after w m.task m.call) p ⊎ WentUnseen (after w m.task m.call) ms p

-- a part that is spared stays as it was, or went unseen
abbrev pub SparedPart : (ℕ → Bool) → World → List TaskCall → World → Part → Type 0
SparedPart S w ms x p = IsThing p → IsOld w p → Spared S w ms p → (part x p ≡ part w p) ⊎ (IsGone x p × WentUnseen w ms p)

-- S has the node not open to write, nor to read where it is a stream; it doesn't own it; and it may not send its server away
pub record IsApart (S : ℕ → Bool) (w : World) (n : Name) : Type 0 where
  pub unwritten : HasOpen S w n WRITE → ⊥
  pub undrained : HasOpen S w n READ → stream_at w n ≡ true → ⊥
  pub unowned : Owns S w n → ⊥
  pub served : (s : Name) → home_at w n ≡ Some s → Rules S w s → ⊥

-- S makes each of its calls where it is apart from the node, and no call of another touches its attributes, or what is in it
abbrev pub Apart : (ℕ → Bool) → World → List TaskCall → Name → Type 0
Apart S w [] n = Unit {0}
Apart S w (m ∷ ms) n =
    ((S m.task ≡ true → IsApart S w n) × (S m.task ≡ false → (touches w m.task m.call (AttrOf n) → ⊥) × (touches w m.task m.call (BodyOf n) → ⊥)))
    × Apart S (after w m.task m.call) ms n

-- a file that they are apart from has its bytes, its owner, group and mode, and the words stored with it, as long as it is there
abbrev pub SparedFile : (ℕ → Bool) → World → List TaskCall → World → Name → Type 0
SparedFile S w ms x n =
    (h k : Header) → header_at w n ≡ Some h → k.kind ≢ Dir → Apart S w ms n → header_at x n ≡ Some k → SameOwned h k × (body_at x n ≡ body_at w n)

-- over any run from w to x
pub record SparesAll (w : World) (ms : List TaskCall) (x : World) : Type 0 where
  pub parts : (S : ℕ → Bool) (p : Part) → SparedPart S w ms x p
  pub files : (S : ℕ → Bool) (n : Name) → SparedFile S w ms x n

abbrev pub IntegrityRun : Type 0
IntegrityRun = (w : World) (ms : List TaskCall) → Sound w → SparesAll w ms (run w ms)
