-- What is picked of a list: the same in another list after it, by another test that says the same, and whether a task is picked.
use Rattle.std.proofs.Common.{◌≡◌, ◌⊎◌, inl, inr, ℕ, Bool, true, false, true≢false, List, [], ◌∷◌, arith, refl, sym, ap, subst, ◌∙◌}
use Rattle.std.specs.Prelude.{◌↔◌, ◌||◌, ◌++◌, nat_eq}
use Rattle.std.proofs.lemmas.Bool.Decides.{nat_tests}
use Rattle.std.proofs.lemmas.Bool.{eqb-true}
use Rattle.hurd_creds.specs.declared.name.TaskId.{TaskId}
use Rattle.hurd_machine.specs.World.{IsAmong}
use Rattle.hurd_sight.specs.Reach.{among}
use Rattle.hurd_can.specs.Help.{Picks, pairs_of, with_each}
use Rattle.hurd_can.specs.declared.helped.Pair.{Pair}

-- what is picked of two lists one after another
pub picks_append : {X : Type 0} (P : X → Type 0) (xs zs ys us : List X) → Picks P xs ys → Picks P zs us → Picks P (xs ++ zs) (ys ++ us)
picks_append {X} P [] zs ys us is more = subst (λ (l : List X). Picks P zs (l ++ us)) (sym is) more
picks_append {X} P (x ∷ xs) zs ys us (inl (holds, rest, is, picks)) more = inl (holds, rest ++ us, ap (λ l. l ++ us) is, picks_append P xs zs rest us picks more)
picks_append {X} P (x ∷ xs) zs ys us (inr (fails, picks)) more = inr (fails, picks_append P xs zs ys us picks more)

-- another test that says the same of each of them
pub picks_as : {X : Type 0} (P Q : X → Type 0) (xs ys : List X) → ((x : X) → IsAmong x xs → P x ↔ Q x) → Picks P xs ys → Picks Q xs ys
picks_as P Q [] ys same is = is
picks_as P Q (x ∷ xs) ys same (inl (holds, rest, is, picks)) = inl ((same x (inl refl)).0 holds, rest, is, picks_as P Q xs rest (λ y i. same y (inr i)) picks)
picks_as P Q (x ∷ xs) ys same (inr (fails, picks)) = inr (λ q. fails ((same x (inl refl)).1 q), picks_as P Q xs ys (λ y i. same y (inr i)) picks)

-- one thing that is picked, or not
pub picks_one : {X : Type 0} (P : X → Type 0) (x : X) → P x → Picks P (x ∷ []) (x ∷ [])
picks_one P x holds = inl (holds, [], refl, refl)

pub picks_none : {X : Type 0} (P : X → Type 0) (x : X) → (P x → ⊥) → Picks P (x ∷ []) []
picks_none P x fails = inr (fails, refl)

-- a task that is this one, or passes already
first_holds : (P : TaskId → Type 0) (x d : TaskId) (b c : Bool) → nat_eq x.0 d.0 ≡ b → P x → (c ≡ true → P d) → (b || c) ≡ true → P d
first_holds P x d true c same holds more h = let one : x ≡ d = ap (λ n. let t : TaskId = record { 0 = n } in t) (eqb-true x.0 d.0 same) in subst P one holds
first_holds P x d false c other holds more h = more h

nat_itself : (n : ℕ) → nat_eq n n ≡ true
nat_itself n = grind (arith, nat_tests)

first_is : (x d : TaskId) (c : Bool) → x ≡ d → (nat_eq x.0 d.0 || c) ≡ true
first_is x d c same = ap (λ (y : TaskId). nat_eq y.0 d.0 || c) same ∙ ap (λ b. b || c) (nat_itself d.0)

later_is : (b c : Bool) → c ≡ true → (b || c) ≡ true
later_is true c h = refl
later_is false c h = h

-- a task that was picked passes the test
pub picked_holds : (P : TaskId → Type 0) (xs ys : List TaskId) → Picks P xs ys → (d : TaskId) → among ys d.0 ≡ true → P d
picked_holds P [] ys is d h = absurd (true≢false (sym h ∙ ap (λ l. among l d.0) is))
picked_holds P (x ∷ xs) ys (inl (holds, rest, is, picks)) d h =
    first_holds P x d (nat_eq x.0 d.0) (among rest d.0) refl holds (λ k. picked_holds P xs rest picks d k) (ap (λ l. among l d.0) (sym is) ∙ h)
picked_holds P (x ∷ xs) ys (inr (fails, picks)) d h = picked_holds P xs ys picks d h

-- one that passes it was picked
pub holds_picked : (P : TaskId → Type 0) (xs ys : List TaskId) → Picks P xs ys → (d : TaskId) → IsAmong d xs → P d → among ys d.0 ≡ true
holds_picked P [] ys is d i p = absurd i
holds_picked P (x ∷ xs) ys (inl (holds, rest, is, picks)) d (inl same) p = ap (λ l. among l d.0) is ∙ first_is x d (among rest d.0) same
holds_picked P (x ∷ xs) ys (inl (holds, rest, is, picks)) d (inr i) p = ap (λ l. among l d.0) is ∙ later_is (nat_eq x.0 d.0) (among rest d.0) (holds_picked P xs rest picks d i p)
holds_picked P (x ∷ xs) ys (inr (fails, picks)) d (inl same) p = absurd (fails (subst P (sym same) p))
holds_picked P (x ∷ xs) ys (inr (fails, picks)) d (inr i) p = holds_picked P xs ys picks d i p

-- pairs

pub among_append : {X : Type 0} (x : X) (xs ys : List X) → IsAmong x (xs ++ ys) → IsAmong x xs ⊎ IsAmong x ys
among_append x [] ys i = inr i
among_append x (z ∷ xs) ys (inl same) = inl (inl same)
among_append x (z ∷ xs) ys (inr i) = elim (among_append x xs ys i) [ inl here ↦ inl (inr here) | inr there ↦ inr there ]

each_among : (d : TaskId) (es : List TaskId) (pair : Pair) → IsAmong pair (with_each d es) → (pair.one ≡ d) × IsAmong pair.other es
each_among d [] pair i = absurd i
each_among d (e ∷ es) pair (inl same) = (ap (λ (p : Pair). p.one) (sym same), inl (ap (λ (p : Pair). p.other) same))
each_among d (e ∷ es) pair (inr i) = let k = each_among d es pair i in (k.0, inr k.1)

-- both of a pair are among the tasks that it was made of
pub pair_among : (ds : List TaskId) (pair : Pair) → IsAmong pair (pairs_of ds) → IsAmong pair.one ds × IsAmong pair.other ds
unfolding pairs_of
pair_among [] pair i = absurd i
pair_among (d ∷ ds) pair i = elim (among_append pair (with_each d ds) (pairs_of ds) i) [
  | inl here ↦ let k = each_among d ds pair here in (inl (sym k.0), inr k.1)
  | inr there ↦ let k = pair_among ds pair there in (inr k.0, inr k.1)
]

-- what is picked: those that pass the test, and no others

picked_passes : {X : Type 0} (P : X → Type 0) (xs ys : List X) → Picks P xs ys → (y : X) → IsAmong y ys → IsAmong y xs × P y
picked_passes {X} P [] ys is y i = absurd (subst (IsAmong y) is i)
picked_passes {X} P (x ∷ xs) ys (inl (holds, rest, is, picks)) y i = elim (subst (IsAmong y) is i) [
  | inl same ↦ (inl same, subst P same holds)
  | inr later ↦ let k = picked_passes P xs rest picks y later in (inr k.0, k.1)
]
picked_passes {X} P (x ∷ xs) ys (inr (fails, picks)) y i = let k = picked_passes P xs ys picks y i in (inr k.0, k.1)

passes_picked : {X : Type 0} (P : X → Type 0) (xs ys : List X) → Picks P xs ys → (y : X) → IsAmong y xs → P y → IsAmong y ys
passes_picked {X} P [] ys is y i p = absurd i
passes_picked {X} P (x ∷ xs) ys (inl (holds, rest, is, picks)) y (inl same) p = subst (IsAmong y) (sym is) (inl same)
passes_picked {X} P (x ∷ xs) ys (inl (holds, rest, is, picks)) y (inr i) p = subst (IsAmong y) (sym is) (inr (passes_picked P xs rest picks y i p))
passes_picked {X} P (x ∷ xs) ys (inr (fails, picks)) y (inl same) p = absurd (fails (subst P (sym same) p))
passes_picked {X} P (x ∷ xs) ys (inr (fails, picks)) y (inr i) p = passes_picked P xs ys picks y i p

pub picks_those : {X : Type 0} (P : X → Type 0) (xs ys : List X) → Picks P xs ys → (y : X) → IsAmong y ys ↔ (IsAmong y xs × P y)
picks_those P xs ys picks y = (λ i. picked_passes P xs ys picks y i, λ k. passes_picked P xs ys picks y k.0 k.1)

-- one list is picked
pub picks_once : {X : Type 0} (P : X → Type 0) (xs ys zs : List X) → Picks P xs ys → Picks P xs zs → ys ≡ zs
picks_once P [] ys zs a b = a ∙ sym b
picks_once P (x ∷ xs) ys zs (inl (p, rest, is, picks)) (inl (q, other, too, more)) = is ∙ (ap (λ l. x ∷ l) (picks_once P xs rest other picks more) ∙ sym too)
picks_once P (x ∷ xs) ys zs (inl (p, rest, is, picks)) (inr (fails, more)) = absurd (fails p)
picks_once P (x ∷ xs) ys zs (inr (fails, picks)) (inl (q, other, too, more)) = absurd (fails q)
picks_once P (x ∷ xs) ys zs (inr (fails, picks)) (inr (missed, more)) = picks_once P xs ys zs picks more
