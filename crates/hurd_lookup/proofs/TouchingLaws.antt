-- A lookup touches what is found along its path.
use Rattle.std.proofs.Common.{◌≡◌, ◌∙◌, ℕ, List, refl, sym, subst}
use Rattle.std.specs.Prelude.{Result, Ok, Err}
use Rattle.hurd_machine.proofs.Common.{Errno, Mode, OpenFlags, Part, PendingStart, Task, World, asked_parts, task_at}
use Rattle.hurd_machine.proofs.Asks.{first_ok, on_ok}
use Rattle.hurd_lookup.specs.Lookup.{Makes, Opens, Outcome, Retries, Starts, ending_asks, finding_parts, found_asks, lookup_parts, request, whole_asks}
use Rattle.hurd_lookup.specs.Nested.{first_unstarted}
use Rattle.hurd_lookup.specs.Seeking.{seeking_asks, sooner, touches_lookup}

ok_is : {A : Type 0} {a b : A} → ◌≡◌ {A = Result A Errno} (Ok a) (Ok b) → a ≡ b
ok_is e = cc (e)

-- what is so of each start stays so
sooner_keeps : (P : Outcome → Type 0) → ((s : PendingStart) → P (Starts s)) → (w : World) (t : ℕ) (o p : Outcome) → sooner w t o ≡ Ok p → P o → P p
sooner_keeps P start w t (Starts s) p is has =
    let x = on_ok _ (task_at w t) _ p is in
    let n = first_ok (first_unstarted w x.0.ids s.node) _ p x.2 in
    subst P (ok_is n.2) (start _)
sooner_keeps P start w t (Opens e) p is has = subst P (ok_is is) has
sooner_keeps P start w t (Makes s f ids ways) p is has = subst P (ok_is is) has
sooner_keeps P start w t (Retries kind name at) p is has = subst P (ok_is is) has

parts_of : {A : Type 0} (x : Result A Errno) (k : A → Part → Type 0) (p : Part) → asked_parts x k p → (a : A) × (x ≡ Ok a) × k a p
unfolding asked_parts
parts_of (Err e) k p on = absurd on
parts_of (Ok a) k p on = (a, refl, on)

-- what is touched follows from what is found
found_parts : (w : World) (t : ℕ) (found : Result Outcome Errno) (p : Part) → finding_parts w t found p → (o : Outcome) × (found ≡ Ok o) × lookup_parts w o p
found_parts w t found p on =
    let l = parts_of (whole_asks w t found) (λ l. lookup_parts w l.0) p on in
    let o = first_ok found _ l.0 l.1 in
    let x = first_ok (ending_asks w t o.0) _ l.0 o.2 in
    let same : (o.0, x.0) ≡ l.0 = ok_is x.2 in
    (o.0, o.1, subst (λ (z : Outcome × Task). lookup_parts w z.0 p) (sym same) l.2)

module _ (w : World) (t d : ℕ) (path : List ℕ) (flags : OpenFlags) (mode : Mode) where
  -- a lookup touches no more than what is found
  pub touched_found : (o : Outcome) → found_asks w t d path (request path flags mode) ≡ Ok o → (p : Part) → touches_lookup w t d path flags mode p → lookup_parts w o p
  touched_found o is p on =
      let q = found_parts w t (seeking_asks w t d path flags mode) p on in
      let f = first_ok (found_asks w t d path (request path flags mode)) (sooner w t) q.0 q.1 in
      let same : f.0 ≡ o = ok_is (sym f.1 ∙ is) in
      subst (λ z. lookup_parts w z p) same (sooner_keeps (λ z. lookup_parts w z p → lookup_parts w f.0 p) (λ s on. absurd on) w t f.0 q.0 f.2 (λ on. on) q.2)

  -- and a refused one touches nothing
  pub touched_nothing : (e : Errno) → found_asks w t d path (request path flags mode) ≡ Err e → (p : Part) → touches_lookup w t d path flags mode p → ⊥
  touched_nothing e is p on =
      let q = found_parts w t (seeking_asks w t d path flags mode) p on in
      let f = first_ok (found_asks w t d path (request path flags mode)) (sooner w t) q.0 q.1 in
      let apart : ◌≡◌ {A = Result Outcome Errno} (Err e) (Ok f.0) = sym is ∙ f.1 in
      absurd (cc (apart))
