-- The words that a server says of itself make it again.
use Rattle.std.proofs.Common.{◌≡◌, List, ℕ, [], ◌∷◌, ◌++◌, take, drop, ap, sym, ◌∙◌, subst}
use Rattle.std.specs.Prelude.{Some, Ok}
use Rattle.std.specs.Option.{option_map}
use Rattle.hurd_trans_iface.specs.Meaning.{Meaning, ServerKind, begin, behaviour_of, new_server, options_of}
use Rattle.hurd_trans_iface.specs.Words.{IsWithinLimits}
use Rattle.hurd_trans_iface.proofs.Beginnings.{begun-made}
use Rattle.hurd_trans_iface.proofs.Owed.{owed}
use Rattle.hurd_trans_iface.proofs.Owes.{SaysAgain}
pub use Rattle.hurd_trans_iface.proofs.Owed.Union.{words_back}

abbrev Remakes : Meaning → Type 0
Remakes m = begin (options_of m.kind m.text) ≡ Some m

first_named : (ws : List (List ℕ)) (w : List ℕ) → take 1 ws ≡ w ∷ [] → ws ≡ w ∷ drop 1 ws
first_named [] w h = absurd (cc)
first_named (v ∷ ws) w h = ap (λ (vs : List (List ℕ)). vs ++ ws) h

-- a text that its words say again
said_again : (k : ServerKind) (text : List ℕ) → SaysAgain (behaviour_of k) text → Remakes (new_server k text)
said_again k text says =
    ap begin (first_named (options_of k text) (behaviour_of k).program ((owed k).laws.good.named text))
    ∙ (owed k).begins (drop 1 (options_of k text))
    ∙ ap (option_map (new_server k)) says

pub begun-again : (ws : List (List ℕ)) (m : Meaning) → begin ws ≡ Some m → Remakes m
begun-again ws m h =
    let made = begun-made ws m h in
    subst Remakes (sym made.server) (said_again m.kind made.text ((owed m.kind).laws.said.again made.rest made.text made.says))

-- options that are taken

pub set-again : (k : ServerKind) (ws : List (List ℕ)) (text : List ℕ) → (behaviour_of k).set_options ws ≡ Ok (Some text) → Remakes (new_server k text)
set-again k ws text is = said_again k text ((owed k).laws.set_again ws text is)

pub set-within : (k : ServerKind) (ws : List (List ℕ)) (text : List ℕ) → (behaviour_of k).set_options ws ≡ Ok (Some text) → IsWithinLimits (options_of k text)
set-within k ws text is = (owed k).laws.set_within ws text is
