-- Pairs of names that two views have in the same places.
use Rattle.std.specs.Prelude.{◌≡◌, ◌↔◌, ℕ, Bool, true, false, List, [], ◌∷◌, map}
use Rattle.hurd_creds.specs.declared.name.Name.{Name}
use Rattle.hurd_nodes.specs.Shown.{boot_name}
use Rattle.hurd_machine.specs.Renamed.{OtherNames}
use Rattle.hurd_laws.specs.Untold.{RaisesCounts}
use Rattle.hurd_sight.specs.Parts.{is_in}

-- pairs of a name and what it is called in the other view
abbrev pub Pairing : Type 0
Pairing = List (Name × Name)

-- other names are as these pairs say
abbrev pub Agrees : OtherNames → Pairing → Type 0
Agrees f [] = Unit {0}
Agrees f (p ∷ ps) = (f.to p.0 ≡ p.1) × Agrees f ps

-- pairs were added for what may hold of other names. If it could: names are as the new pairs say exactly where they are as the old ones say, and it holds of them.
-- If it couldn't: it holds of no names that are as the old pairs say
unfoldable pub PairsFor : ((Name → Name) → Type 0) → Pairing → Bool → Pairing → Type 0
PairsFor P old true new = (f : OtherNames) → RaisesCounts f → Agrees f new ↔ (Agrees f old × P f.to)
PairsFor P old false new = (f : OtherNames) → RaisesCounts f → Agrees f old → P f.to → ⊥

-- two things pair up: other names make the one of the other
abbrev pub PairUp : {A : Type 0} → ((Name → Name) → A → A) → A → A → Pairing → Bool → Pairing → Type 0
PairUp renamed a b old met new = PairsFor (λ f. renamed f a ≡ b) old met new

-- the pairs begin with the boot root, which keeps its name
abbrev pub FromBoot : Pairing → Type 0
FromBoot [] = ⊥
FromBoot (p ∷ ps) = p ≡ (boot_name, boot_name)

-- no name is there twice
abbrev pub AreApart : List Name → Type 0
AreApart [] = Unit {0}
AreApart (n ∷ ns) = (is_in n ns ≡ false) × AreApart ns

-- both names of each pair are of things that one task made
abbrev pub HaveOneMaker : Pairing → Type 0
HaveOneMaker [] = Unit {0}
HaveOneMaker (p ∷ ps) = (p.0.task ≡ p.1.task) × HaveOneMaker ps

-- no name is in two pairs of either view
pub record IsOneToOne (ps : Pairing) : Type 0 where
  pub names : AreApart (map (λ (p : Name × Name). p.0) ps)
  pub others : AreApart (map (λ (p : Name × Name). p.1) ps)
  pub makers : HaveOneMaker ps
  pub boot : FromBoot ps

-- what tasks of S made has the same name in both
abbrev pub KeepOwn : (ℕ → Bool) → Pairing → Type 0
KeepOwn S [] = Unit {0}
KeepOwn S (p ∷ ps) = (S p.0.task.0 ≡ true → p.0 ≡ p.1) × KeepOwn S ps
