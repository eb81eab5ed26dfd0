-- What is at a path stays there, as nobody takes an entry on the way.
use Rattle.std.specs.Prelude.{◌≡◌, ℕ, Bool, true, false, List, [], ◌∷◌, Some}
use Rattle.hurd_creds.specs.declared.name.Name.{Name}
use Rattle.hurd_trans_iface.specs.Nodes.{Header}
use Rattle.hurd_trans_iface.specs.Answers.{entry_of}
use Rattle.hurd_machine.specs.Calls.{Call}
use Rattle.hurd_machine.specs.World.{World, body_at, boot_root, header_at}
use Rattle.hurd_machine.specs.Sight.{BodyOf}
use Rattle.hurd_machine.specs.Sound.{Sound}
use Rattle.hurd_laws.specs.Step.{after, touches}
use Rattle.hurd_laws.specs.Runs.{TaskCall, run}
use Rattle.hurd_laws.specs.Integrity.{TakesEntry}

-- entries of these names lead from one node to another
abbrev pub Leads : World → Name → List (List ℕ) → Name → Type 0
Leads w d [] n = d ≡ n
Leads w d (name ∷ names) n = (m : Name) × (entry_of name (body_at w d) ≡ Some m) × Leads w m names n

-- a call of task t spares the entries on the way: if it is a call of S, S may take none of them; if not, it touches none of the directories
abbrev pub SparesPath : (ℕ → Bool) → World → ℕ → Call → Name → List (List ℕ) → Type 0
SparesPath S w t c d [] = Unit {0}
SparesPath S w t c d (name ∷ names) =
    (n : Name) → entry_of name (body_at w d) ≡ Some n
    → (S t ≡ true → TakesEntry S w d name n → ⊥) × (S t ≡ false → touches w t c (BodyOf d) → ⊥) × SparesPath S w t c n names

-- each of these calls does
abbrev pub SparesPathAlways : (ℕ → Bool) → World → List TaskCall → Name → List (List ℕ) → Type 0
SparesPathAlways S w [] d names = Unit {0}
SparesPathAlways S w (m ∷ ms) d names = SparesPath S w m.task m.call d names × SparesPathAlways S (after w m.task m.call) ms d names

-- a node to which entries lead from the root is there, and they still lead to it, if S may take none of these entries at any of its calls, and no call of the others
-- touches one of the directories
abbrev pub PathStays : Type 0
PathStays =
    (S : ℕ → Bool) (w : World) (ms : List TaskCall) (names : List (List ℕ)) (n : Name) → Sound w → SparesPathAlways S w ms boot_root names → Leads w boot_root names n
    → Leads (run w ms) boot_root names n × ((h : Header) × (header_at (run w ms) n ≡ Some h))
