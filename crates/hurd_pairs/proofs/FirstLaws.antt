-- Going through two lists together, up to the first two things that are other.
use Rattle.std.proofs.Common.{◌≡◌, ◌⊎◌, inl, inr, refl, sym, ap, subst, List, [], ◌∷◌, Option, Some, None, true}
use Rattle.std.specs.Prelude.{is_some}
use Rattle.hurd_pairs.specs.Differences.{FirstSaid}
use Rattle.hurd_pairs.specs.Moments.{FirstOther, Moment}
use Rattle.hurd_pairs.specs.Steps.{KeepsOrFinds}
use Rattle.hurd_pairs.specs.declared.difference.Difference.{Difference}

module _ {X : Type 0} (Same Other : X → X → Type 0) where
  -- one list is at its end
  pub none_left : (xs ys : List X) → (xs ≡ []) ⊎ (ys ≡ []) → FirstOther Same Other xs ys None
  unfolding FirstOther
  none_left xs ys (inl none) = rw none refl
  none_left [] ys (inr none) = refl
  none_left (x ∷ xs) ys (inr none) = rw none refl

  -- the first two are the same
  pub same_more : (x y : X) (xs ys : List X) (found : Option (X × X)) → Same x y → FirstOther Same Other xs ys found → FirstOther Same Other (x ∷ xs) (y ∷ ys) found
  unfolding FirstOther
  same_more x y xs ys found same rest = inl (same, rest)

  -- or other
  pub other_here : (x y : X) (xs ys : List X) → Other x y → FirstOther Same Other (x ∷ xs) (y ∷ ys) (Some (x, y))
  unfolding FirstOther
  other_here x y xs ys other = inr (other, refl)

module _ (Same Other : Moment → Moment → Type 0) (Says : Moment → Moment → Difference → Type 0) (ms ns : List Moment) where
  -- of two lists of moments what is in front of these was gone through: what was found is the first, or will be found in what is left
  abbrev pub SoFar : List Moment → List Moment → Option Difference → Type 0
  SoFar xs ys None = (found : Option (Moment × Moment)) → FirstOther Same Other xs ys found → FirstOther Same Other ms ns found
  SoFar xs ys (Some d) = FirstSaid Same Other Says ms ns (Some d)

  pub so_far_none : SoFar ms ns None
  so_far_none = λ found is. is

  pub so_far_more : (m n : Moment) (xs ys : List Moment) (old new : Option Difference) → SoFar (m ∷ xs) (n ∷ ys) old → KeepsOrFinds Same Other Says m n old new → SoFar xs ys new
  so_far_more m n xs ys (Some d) new so is = subst (λ (o : Option Difference). SoFar xs ys o) (sym is) so
  so_far_more m n xs ys None None so same = λ found rest. so found (same_more Same Other m n xs ys found same rest)
  so_far_more m n xs ys None (Some d) so (other, says) = (Some (m, n), so (Some (m, n)) (other_here Same Other m n xs ys other), says)

  pub so_far_done : (xs ys : List Moment) (o : Option Difference) → SoFar xs ys o → (xs ≡ []) ⊎ (ys ≡ []) → FirstSaid Same Other Says ms ns o
  so_far_done xs ys None so end = (None, so None (none_left Same Other xs ys end), tt)
  so_far_done xs ys (Some d) so end = so

  pub so_far_found : (xs ys : List Moment) (o : Option Difference) → SoFar xs ys o → is_some o ≡ true → FirstSaid Same Other Says ms ns o
  so_far_found xs ys None so some = absurd (cc)
  so_far_found xs ys (Some d) so some = so

-- something holds of each of these
abbrev pub Each : {X : Type 0} → (X → Type 0) → List X → Type 0
Each P [] = Unit {0}
Each P (x ∷ xs) = P x × Each P xs

module _ {X : Type 0} (Same Other : X → X → Type 0) where
  -- what comes of the first two, and of none
  pub opened : (x y : X) (xs ys : List X) (found : Option (X × X)) → FirstOther Same Other (x ∷ xs) (y ∷ ys) found
      → (Same x y × FirstOther Same Other xs ys found) ⊎ (Other x y × (found ≡ Some (x, y)))
  unfolding FirstOther
  opened x y xs ys found is = is

  pub none_found : (ys : List X) (found : Option (X × X)) → FirstOther Same Other [] ys found → found ≡ None
  unfolding FirstOther
  none_found ys found is = is

  -- what holds of each of both lists holds of what is found
  pub found_among : (P Q : X → Type 0) (xs ys : List X) (x y : X) → Each P xs → Each Q ys → FirstOther Same Other xs ys (Some (x, y)) → P x × Q y
  unfolding FirstOther
  found_among P Q [] ys x y ps qs is = absurd (cc)
  found_among P Q (a ∷ xs) [] x y ps qs is = absurd (cc)
  found_among P Q (a ∷ xs) (b ∷ ys) x y ps qs (inl (same, rest)) = found_among P Q xs ys x y ps.1 qs.1 rest
  found_among P Q (a ∷ xs) (b ∷ ys) x y ps qs (inr (other, is)) =
      let pair : (x, y) ≡ (a, b) = cc in
      (subst P (sym (ap (λ (p : X × X). p.0) pair)) ps.0, subst Q (sym (ap (λ (p : X × X). p.1) pair)) qs.0)

  -- what is the same or other may be said in other words, where these are the same of all that is in both lists
  pub said_otherwise : (P : X → Type 0) (Like Unlike : X → X → Type 0) → ((x y : X) → P x → P y → Same x y → Like x y) → ((x y : X) → P x → P y → Other x y → Unlike x y)
      → (xs ys : List X) (found : Option (X × X)) → Each P xs → Each P ys → FirstOther Same Other xs ys found → FirstOther Like Unlike xs ys found
  unfolding FirstOther
  said_otherwise P Like Unlike like unlike [] ys found ps qs is = is
  said_otherwise P Like Unlike like unlike (x ∷ xs) [] found ps qs is = is
  said_otherwise P Like Unlike like unlike (x ∷ xs) (y ∷ ys) found ps qs (inl (same, rest)) =
      inl (like x y ps.0 qs.0 same, said_otherwise P Like Unlike like unlike xs ys found ps.1 qs.1 rest)
  said_otherwise P Like Unlike like unlike (x ∷ xs) (y ∷ ys) found ps qs (inr (other, is)) = inr (unlike x y ps.0 qs.0 other, is)
