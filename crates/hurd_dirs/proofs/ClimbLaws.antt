-- Whether a directory is another, or below it.
use Rattle.std.proofs.Common.{◌≡◌, ◌⊎◌, ◌∙◌, ℕ, zero, suc, ◌-◌, ◌<◌, ◌||◌, Bool, true, false, true≢false, Option, Some, None, sym, refl, ap, inl, inr, arith}
use Rattle.std.proofs.lemmas.Bool.{or_parts}
use Rattle.hurd_machine.proofs.Common.{Above, AtRoot, Header, LeadsUp, Name, Seen, World, header_at, same_name}
use Rattle.hurd_creds.proofs.NameLaws.{apart_if_not_same}
use Rattle.hurd_machine.specs.World.{nodes_of}
use Rattle.hurd_machine.specs.Sight.{Parent}
use Rattle.hurd_machine.proofs.Views.{Agree, header_same}
use Rattle.hurd_machine.proofs.Moves.{LeadsAround, RootApart, AboveApart}
use Rattle.hurd_dirs.specs.Rename.{parent_in, above, met_within, is_inside}

-- it is the same in worlds that agree: all above a seen directory is seen

module _ {S : ℕ → Bool} {v w : World} (a : Agree S v w) (n : Name) where
  met_same : (k : ℕ) (d : Name) → Seen S v d → met_within k w n d ≡ met_within k v n d
  unfolding met_within
  met_same zero d seen = refl
  met_same (suc k) d seen =
      ap (λ o. same_name d n || above (met_within k w n) (parent_in o)) (header_same a d seen) ∙ ap (λ b. same_name d n || b) (by_header (header_at v d) refl (λ p h is up. met_same k p (Parent d h seen is up)))
    where
      by_parent : (o : Option Name) → ((p : Name) → o ≡ Some p → met_within k w n p ≡ met_within k v n p) → above (met_within k w n) o ≡ above (met_within k v n) o
      by_parent None ih = refl
      by_parent (Some p) ih = ih p refl

      by_header : (o : Option Header) → header_at v d ≡ o → ((p : Name) (h : Header) → header_at v d ≡ Some h → h.parent ≡ Some p → met_within k w n p ≡ met_within k v n p)
          → above (met_within k w n) (parent_in o) ≡ above (met_within k v n) (parent_in o)
      by_header None is ih = refl
      by_header (Some h) is ih = by_parent h.parent (λ p up. ih p h is up)

  pub inside_same : (d : Name) → Seen S v d → is_inside w n d ≡ is_inside v n d
  unfolding is_inside
  inside_same d seen = met_same 18446744073709551615 d seen

-- from a directory that isn't below n, the parents lead up around n

around : (w : World) (n : Name) (k : ℕ) (d : Name) → met_within k w n d ≡ false → LeadsUp (nodes_of w) d → LeadsAround (nodes_of w) n d
unfolding met_within
around w n zero d out up = absurd (true≢false out)
around w n (suc k) d out (AtRoot is) = let l = or_parts (same_name d n) _ out in RootApart (apart_if_not_same d n l.0) is
around w n (suc k) d out (Above p h is up rest) =
    let l = or_parts (same_name d n) _ out in
    AboveApart p h (apart_if_not_same d n l.0) is up (around w n k p (sym (ap (above (met_within k w n)) (ap parent_in is ∙ up)) ∙ l.1) rest)

pub inside_around : (w : World) (n d : Name) → is_inside w n d ≡ false → LeadsUp (nodes_of w) d → LeadsAround (nodes_of w) n d
unfolding is_inside
inside_around w n d out up = around w n 18446744073709551615 d out up

-- nothing is below n that wasn't, where each node keeps its parent or loses it

module _ (w x : World) (fewer : (d : Name) → (parent_in (header_at x d) ≡ parent_in (header_at w d)) ⊎ (parent_in (header_at x d) ≡ None)) (n : Name) where
  met_fewer : (k : ℕ) (d : Name) → met_within k w n d ≡ false → met_within k x n d ≡ false
  unfolding met_within
  met_fewer zero d out = out
  met_fewer (suc k) d out =
      let l = or_parts (same_name d n) _ out in
      ap (λ b. b || above (met_within k x n) (parent_in (header_at x d))) l.0
      ∙ elim (fewer d) [
        | inl same ↦ ap (above (met_within k x n)) same ∙ by_parent (parent_in (header_at w d)) (λ p. met_fewer k p) l.1
        | inr none ↦ ap (above (met_within k x n)) none
      ]
    where
      by_parent : (o : Option Name) → ((p : Name) → met_within k w n p ≡ false → met_within k x n p ≡ false) → above (met_within k w n) o ≡ false → above (met_within k x n) o ≡ false
      by_parent None ih h = refl
      by_parent (Some p) ih h = ih p h

  pub inside_fewer : (d : Name) → is_inside w n d ≡ false → is_inside x n d ≡ false
  unfolding is_inside
  inside_fewer d out = met_fewer 18446744073709551615 d out

-- one step more, of so many; and where none is left

module _ (w : World) (n : Name) where
  pub climb_step : (k : ℕ) (d : Name) → 0 < k → met_within k w n d ≡ (same_name d n || above (met_within (k - 1) w n) (parent_in (header_at w d)))
  unfolding met_within
  climb_step zero d low = absurd (omega arith)
  climb_step (suc k) d low = let e : k ≡ suc k - 1 = omega arith in ap (λ j. same_name d n || above (met_within j w n) (parent_in (header_at w d))) e

  pub climb_end : (k : ℕ) (d : Name) → k ≡ 0 → met_within k w n d ≡ true
  unfolding met_within
  climb_end zero d none = refl
  climb_end (suc k) d none = absurd (omega arith)
