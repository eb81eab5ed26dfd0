-- Ports on nodes that their ids own: what an answer shows, and that it is the same in worlds that agree.
use Rattle.std.proofs.Common.{◌≡◌, ℕ, Bool, true, refl, subst}
use Rattle.std.specs.Prelude.{Ok}
use Rattle.hurd_machine.proofs.Common.{EPERM, Holds, Io, Named, Seen, World, bare, owns, port_asks}
use Rattle.hurd_machine.specs.Sight.{Held}
use Rattle.hurd_machine.proofs.Views.{Agree}
use Rattle.hurd_machine.proofs.Asks.{IsPlain, IsNamed, is_named, port_same, port_plain, holds_right, first_ok, given_ok, first_same, first_plain, given_plain, ok_plain}
use Rattle.hurd_fsys.specs.Owned.{owned_asks}

module _ (t p : ℕ) where
  -- a port on a node that is there, which its ids own
  pub record Owner (w : World) (n : Named) : Type 0 where
    pub is_named : IsNamed w t p n
    pub owned : owns n.right.ids (bare n.header) ≡ true

  pub owner : (w : World) (n : Named) → owned_asks w t p ≡ Ok n → Owner w n
  owner w n is =
      let k = first_ok (port_asks w t p) _ n is in
      let g = given_ok EPERM _ _ n k.2 in
      let same : k.0 ≡ n = cc (g.1) in
      subst (Owner w) same (record { is_named = is_named w t p k.0 k.1; owned = g.0 })

  -- a task of S holds its right, and sees its node
  module _ {S : ℕ → Bool} {w : World} (ours : S t ≡ true) (n : Named) (k : Owner w n) where
    pub owner_right : Holds S w (Io n.right)
    owner_right = holds_right t ours p (Io n.right) k.is_named.is_right

    pub owner_sees : Seen S w n.right.node
    owner_sees = Held n.right owner_right refl

  pub owned_same : {S : ℕ → Bool} {v w : World} → Agree S v w → S t ≡ true → owned_asks w t p ≡ owned_asks v t p
  owned_same a ours = first_same _ _ _ _ (port_same a t ours p) (λ n is. refl)

  pub owned_plain : (w : World) → IsPlain (owned_asks w t p)
  owned_plain w = first_plain _ _ (port_plain w t p) (λ n is. given_plain _ _ _ refl (λ e. ok_plain _))
