-- What words say that make a server, and the kinds.
use Rattle.std.proofs.Common.{◌≡◌, ◌∙◌, List, ℕ, [], ◌∷◌, ap, sym, subst}
use Rattle.std.specs.Prelude.{Option, Some, None, IfSome}
use Rattle.std.specs.Option.{option_map}
use Rattle.hurd_trans_iface.specs.declared.begun.Begun.{Begun}
use Rattle.hurd_trans_iface.specs.Sayings.{Fits, IsFit, server_said}
use Rattle.hurd_trans_iface.specs.Meaning.{ServerKind, begin, begin_as, new_server}
use Rattle.hurd_trans_iface.specs.Words.{IsWithinLimits}
use Rattle.hurd_trans_iface.proofs.Beginnings.{begins-kind, begins-other, begins-said}
use Rattle.hurd_trans_iface.proofs.Owed.{owed}

-- their kind takes them
pub begun-kind : (ws : List (List ℕ)) (o : Option Begun) → option_map server_said o ≡ begin ws → IfSome o (λ b. begin_as b.kind ws ≡ Some (server_said b))
begun-kind ws None h = tt
begun-kind ws (Some b) h = begins-kind ws (server_said b) (sym h)

-- another kind doesn't take them

other : (k : ServerKind) (ws : List (List ℕ)) (o : Option Begun) (b : Begun) → option_map server_said o ≡ begin ws → o ≡ Some b → (b.kind ≡ k → ⊥) → begin_as k ws ≡ None
other k ws None b h is apart = absurd (cc)
other k ws (Some a) b h is apart =
    let same : a ≡ b = cc in
    begins-other k ws (server_said a) (sym h) (λ of. apart (sym (ap (λ (x : Begun). x.kind) same) ∙ of))

pub begun-other : (k : ServerKind) {lent ws : List (List ℕ)} {o : Option Begun} {b : Begun} → lent ≡ ws → option_map server_said o ≡ begin lent → o ≡ Some b → (b.kind ≡ k → ⊥) → begin_as k ws ≡ None
begun-other k {lent} {ws} {o} {b} same h is apart = subst (λ (vs : List (List ℕ)). begin_as k vs ≡ None) same (other k lent o b h is apart)

-- what they say is no more than their kind takes

fits : (k : ServerKind) (w text : List ℕ) (ws : List (List ℕ)) → begin (w ∷ ws) ≡ Some (new_server k text) → IsWithinLimits (w ∷ ws) → Fits k text
fits k w text ws h within =
    let says = begins-said k w ws text h in
    (owed k).laws.said.fits ws text (subst (λ (v : List ℕ). IsWithinLimits (v ∷ ws)) says.0 within) says.1

pub begun-fits : (ws : List (List ℕ)) (o : Option Begun) → option_map server_said o ≡ begin ws → IsWithinLimits ws → IfSome o IsFit
begun-fits ws None h within = tt
begun-fits [] (Some b) h within = absurd (cc)
begun-fits (w ∷ ws) (Some b) h within = fits b.kind w (server_said b).text ws (sym h) within
