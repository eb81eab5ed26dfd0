-- Owner, group and mode of a node set, as a piece of any call.
use Rattle.std.proofs.Common.{◌≡◌, ◌⊎◌, ℕ, Bool, true, List, [], ◌∷◌, Some, refl, subst, inl, inr}
use Rattle.hurd_machine.proofs.Common.{AttrOf, Change, EditHeader, HasUid, Header, Mode, Name, Owns, OwnsIt, Part, Sound, World, header_at}
use Rattle.hurd_trans_iface.specs.Nodes.{with_attrs}
use Rattle.hurd_machine.proofs.Confine.{Less}
use Rattle.hurd_machine.proofs.Filled.{keeps_header}
use Rattle.hurd_machine.proofs.Piece.{Whole, stands, quiet, of_header}

module _ (n : Name) (owner group : ℕ) (mode : Mode) where
  abbrev set_attrs : List Change
  set_attrs = EditHeader n (with_attrs owner group mode) ∷ []

  -- whoever holds the owner's uid, or 0, could do all with the node before
  owned_less : (S : ℕ → Bool) (v : World) (u : ℕ) (h : Header) → HasUid S v u → (u ≡ h.owner) ⊎ (u ≡ 0) → Less S v n (with_attrs owner group mode h) h
  owned_less S v u h has is = record { kind = refl; parent = λ p e. inl e; could = λ want c. Owns u has is; owns = λ o. (u, has, is) }

  pub attrs_whole : {t : ℕ} {T : Part → Type 0} {w : World} → Sound w → T (AttrOf n) → (h : Header) → header_at w n ≡ Some h → ((S : ℕ → Bool) → S t ≡ true → OwnsIt S w h) → Whole t T w w set_attrs
  attrs_whole {t} {T} {w} s attr h at owns =
      quiet set_attrs (λ k e. e, tt) s (of_header n (with_attrs owner group mode) (λ k. (refl, refl, refl)) (λ k. refl) (keeps_header w n (with_attrs owner group mode) (λ k. (refl, refl))) (stands s) attr (inr (inl (λ k there. refl))) (λ S ours.
      let o = owns S ours in
      ((λ k there. let same : h ≡ k = cc (at, there) in subst (λ (z : Header). Less S w n (with_attrs owner group mode z) z) same (owned_less S w o.0 h o.1 o.2), inl (λ k. refl)), tt)))
