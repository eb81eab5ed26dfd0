-- What is collected of nodes, one thing after another.
use Rattle.std.proofs.Common.{◌≡◌, ◌∙◌, ◌⊎◌, inl, inr, sym, refl, ap, subst, ℕ, zero, suc, ◌+◌, ◌<◌, ◌≤◌, arith, Bool, true, false, true≢false, if◌then◌else◌, List, [], ◌∷◌, ◌++◌, take, length, get_or, append_assoc, append-nil}
use Rattle.std.specs.Prelude.{Option, Some, None, is_some, slice_get}
use Rattle.hurd_machine.proofs.Common.{IsAmong, Name, flat_map, list_any, lookup, same_name}
use Rattle.indexmap.specs.IndexMap.{insert_entry}
use Rattle.std.proofs.lemmas.Bool.{or_left, or_right, or_parts, cases_Bool}
use Rattle.std.proofs.lemmas.List.{take_more}
use Rattle.std.proofs.lemmas.List.Concat.{flat_map-append}
use Rattle.std.proofs.lemmas.List.Folds.{list_any-append}
use Rattle.hurd_creds.proofs.NameLaws.{equal_if_same, same_name-itself}
use Rattle.hurd_sight.specs.Found.{found_more, gathered, is_found, why_of, with_why}
use Rattle.hurd_sight.specs.declared.found.Why.{Why}
use Rattle.hurd_machine.proofs.Holders.{any_among}
use Rattle.hurd_machine.proofs.Tasks.{among_cases, among_left, among_right}
use Rattle.hurd_sight.proofs.ReachLaws.{any_found}
use Rattle.hurd_sight.proofs.WalkLaws.{Walk, each}

abbrev pub Entries : Type 0
Entries = List (Name × Why)

-- what is found in two lists

pub found_left : (n : Name) (es fs : Entries) → is_found n es ≡ true → is_found n (es ++ fs) ≡ true
found_left n es fs f = list_any-append (λ (e : Name × Why). same_name n e.0) es fs ∙ or_left (is_found n es) (is_found n fs) f

pub found_right : (n : Name) (es fs : Entries) → is_found n fs ≡ true → is_found n (es ++ fs) ≡ true
found_right n es fs f = list_any-append (λ (e : Name × Why). same_name n e.0) es fs ∙ or_right (is_found n es) (is_found n fs) f

pub found_one : (n : Name) (y : Why) → is_found n ((n, y) ∷ []) ≡ true
found_one n y = or_left (same_name n n) false (same_name-itself n)

-- what is gathered, one list after another

-- what was there stays, and more may come after it
more_grown : (n : Name) (y : Why) (es : Entries) → (more : Entries) × (found_more n y es ≡ es ++ more)
more_grown n y es = elim (cases_Bool (is_found n es)) [ inl there ↦ ([], rw there (sym (append-nil es))) | inr absent ↦ ((n, y) ∷ [], rw absent refl) ]

pub gathered_grown : (xs es : Entries) → (more : Entries) × (gathered xs es ≡ es ++ more)
gathered_grown [] es = ([], sym (append-nil es))
gathered_grown (x ∷ xs) es =
    let one = more_grown x.0 x.1 es in
    let rest = gathered_grown xs (found_more x.0 x.1 es) in
    (one.0 ++ rest.0, rest.1 ∙ (ap (λ (gs : Entries). gs ++ rest.0) one.1 ∙ append_assoc es one.0 rest.0))

pub gathered_kept : (n : Name) (xs es : Entries) → is_found n es ≡ true → is_found n (gathered xs es) ≡ true
gathered_kept n xs es f = let it = gathered_grown xs es in ap (is_found n) it.1 ∙ found_left n es it.0 f

-- what is added is found
more_there : (n : Name) (y : Why) (es : Entries) → is_found n (found_more n y es) ≡ true
more_there n y es = elim (cases_Bool (is_found n es)) [ inl there ↦ rw there there | inr absent ↦ rw absent (found_right n es ((n, y) ∷ []) (found_one n y)) ]

pub gathered_there : (n : Name) (y : Why) (xs es : Entries) → IsAmong (n, y) xs → is_found n (gathered xs es) ≡ true
gathered_there n y [] es a = absurd a
gathered_there n y (x ∷ xs) es (inl e) =
    gathered_kept n xs (found_more x.0 x.1 es) (subst (λ (z : Name × Why). is_found n (found_more z.0 z.1 es) ≡ true) (sym e) (more_there n y es))
gathered_there n y (x ∷ xs) es (inr a) = gathered_there n y xs (found_more x.0 x.1 es) a

-- and nothing else comes
more_said : (e : Name × Why) (n : Name) (y : Why) (es : Entries) → IsAmong e (found_more n y es) → IsAmong e es ⊎ ((n, y) ≡ e)
more_said e n y es a = elim (cases_Bool (is_found n es)) [
  | inl there ↦ inl (rw there at a)
  | inr absent ↦ elim (among_cases e es ((n, y) ∷ []) (rw absent at a)) [ inl old ↦ inl old | inr (inl is) ↦ inr is | inr (inr none) ↦ absurd none ]
]

pub gathered_said : (e : Name × Why) (xs es : Entries) → IsAmong e (gathered xs es) → IsAmong e es ⊎ IsAmong e xs
gathered_said e [] es a = inl a
gathered_said e (x ∷ xs) es a = elim (gathered_said e xs (found_more x.0 x.1 es) a) [
  | inl b ↦ elim (more_said e x.0 x.1 es b) [ inl old ↦ inl old | inr is ↦ inr (inl is) ]
  | inr b ↦ inr (inr b)
]

pub gathered-append : (xs ys es : Entries) → gathered (xs ++ ys) es ≡ gathered ys (gathered xs es)
gathered-append [] ys es = refl
gathered-append (x ∷ xs) ys es = gathered-append xs ys (found_more x.0 x.1 es)

-- one after the other
pub gathered_both : (a : Entries) {b c : Entries} (xs ys : Entries) → b ≡ gathered xs a → c ≡ gathered ys b → c ≡ gathered (xs ++ ys) a
gathered_both a xs ys first second = second ∙ (ap (gathered ys) first ∙ sym (gathered-append xs ys a))

-- a walk that adds what each of a list shows
pub gathered_each : {X : Type 0} (f : X → Entries) → Walk (λ (xs : List X) (a b : Entries). b ≡ gathered (flat_map f xs) a) (λ (x : X) (b c : Entries). c ≡ gathered (f x) b)
gathered_each f = each gathered gathered-append f

-- of each of a list

pub flat_among : {X Y : Type 0} (f : X → List Y) (y : Y) (xs : List X) → IsAmong y (flat_map f xs) → (x : X) × IsAmong x xs × IsAmong y (f x)
flat_among f y [] a = absurd a
flat_among f y (x ∷ xs) a = elim (among_cases y (f x) (flat_map f xs) a) [
  | inl here ↦ (x, inl refl, here)
  | inr later ↦ let it = flat_among f y xs later in (it.0, inr it.1, it.2)
]

pub among_flat : {X Y : Type 0} (f : X → List Y) (x : X) (y : Y) (xs : List X) → IsAmong x xs → IsAmong y (f x) → IsAmong y (flat_map f xs)
among_flat f x y [] a b = absurd a
among_flat f x y (z ∷ xs) (inl e) b = among_left y (f z) (flat_map f xs) (subst (λ q. IsAmong y (f q)) (sym e) b)
among_flat f x y (z ∷ xs) (inr a) b = among_right y (f z) (flat_map f xs) (among_flat f x y xs a b)

pub flat_next : {X Y : Type 0} (f : X → List Y) (xs : List X) (i : ℕ) (d : X) → i < length xs → flat_map f (take (i + 1) xs) ≡ flat_map f (take i xs) ++ f (get_or xs i d)
flat_next f xs i d below =
    ap (flat_map f) (take_more xs i d below)
    ∙ (flat_map-append f (take i xs) (get_or xs i d ∷ []) ∙ ap (λ ys. flat_map f (take i xs) ++ ys) (append-nil (f (get_or xs i d))))

-- of one thing
pub among_one : {X : Type 0} (x y : X) → IsAmong x (y ∷ []) → y ≡ x
among_one x y (inl e) = e
among_one x y (inr none) = absurd none

-- where a test holds
pub among_tested : {X : Type 0} (t : Bool) (x : X) (xs : List X) → IsAmong x (if t then xs else []) → (t ≡ true) × IsAmong x xs
among_tested true x xs a = (refl, a)
among_tested false x xs a = absurd a

-- of a thing that may not be there

pub among_there : {A X : Type 0} (f : Option A → List X) → f None ≡ [] → (o : Option A) (x : X) → IsAmong x (f o) → (a : A) × (o ≡ Some a) × IsAmong x (f (Some a))
among_there f none None x a = absurd (subst (IsAmong x) none a)
among_there f none (Some s) x a = (s, refl, a)

pub tested : {A : Type 0} (test : Option A → Bool) → test None ≡ false → (o : Option A) → test o ≡ true → (a : A) × (o ≡ Some a) × (test (Some a) ≡ true)
tested test none None e = absurd (true≢false (sym e ∙ none))
tested test none (Some a) e = (a, refl, e)

pub some_of : {A B : Type 0} (f : Option A → Option B) → f None ≡ None → (o : Option A) (b : B) → f o ≡ Some b → (a : A) × (o ≡ Some a) × (f (Some a) ≡ Some b)
some_of f none None b e = absurd (cc)
some_of f none (Some a) b e = (a, refl, e)

pub among_why : (o : Option Name) (z : Why) (n : Name) (y : Why) → IsAmong (n, y) (with_why o z) → (o ≡ Some n) × (y ≡ z)
among_why None z n y a = absurd a
among_why (Some m) z n y (inl e) = (ap (λ (t : Name × Why). Some t.0) e, sym (ap (λ (t : Name × Why). t.1) e))
among_why (Some m) z n y (inr none) = absurd none

pub why_among : (o : Option Name) (z : Why) (n : Name) → o ≡ Some n → IsAmong (n, z) (with_why o z)
why_among o z n is = subst (λ (p : Option Name). IsAmong (n, z) (with_why p z)) (sym is) (inl refl)

-- what is among the first of a list

pub among_taken : {X : Type 0} (x : X) (xs : List X) (i : ℕ) → slice_get xs i ≡ Some x → IsAmong x (take (suc i) xs)
among_taken x [] i at = absurd (cc)
among_taken x (y ∷ ys) zero at = inl (cc)
among_taken x (y ∷ ys) (suc i) at = inr (among_taken x ys i at)

pub taken_among : {X : Type 0} (x : X) (k : ℕ) (xs : List X) → IsAmong x (take k xs) → IsAmong x xs
taken_among x zero xs a = absurd a
taken_among x (suc k) [] a = absurd a
taken_among x (suc k) (y ∷ ys) (inl e) = inl e
taken_among x (suc k) (y ∷ ys) (inr a) = inr (taken_among x k ys a)

-- more of the first of them
pub taken_front : {X : Type 0} (x : X) (j k : ℕ) (xs : List X) → j ≤ k → IsAmong x (take j xs) → IsAmong x (take k xs)
taken_front x zero k xs below a = absurd a
taken_front x (suc j) zero xs below a = absurd (omega (arith, below))
taken_front x (suc j) (suc k) [] below a = a
taken_front x (suc j) (suc k) (y ∷ ys) below (inl e) = inl e
taken_front x (suc j) (suc k) (y ∷ ys) below (inr a) = inr (taken_front x j k ys (omega (arith, below)) a)

-- what is among some entries is found
pub among_found : (e : Name × Why) (es : Entries) → IsAmong e es → is_found e.0 es ≡ true
among_found e es a = any_among (λ (x : Name × Why). same_name e.0 x.0) e es a (same_name-itself e.0)

-- and what is found is among them
pub found_among : (n : Name) (es : Entries) → is_found n es ≡ true → (e : Name × Why) × IsAmong e es × (n ≡ e.0)
found_among n es f = let it = any_found (λ (x : Name × Why). same_name n x.0) es f in (it.0, it.1, equal_if_same n it.0.0 it.2)

-- and so it is among more of the first of them
pub found_later : (n : Name) (j i : ℕ) (es : Entries) → j ≤ i → is_found n (take j es) ≡ true → is_found n (take i es) ≡ true
found_later n j i es below f =
    let it = found_among n (take j es) f in
    subst (λ (m : Name). is_found m (take i es) ≡ true) (sym it.2) (among_found it.0 (take i es) (taken_front it.0 j i es below it.1))

-- an element of a list is at an index
among_at : {X : Type 0} (x : X) (xs : List X) → IsAmong x xs → (i : ℕ) × (slice_get xs i ≡ Some x)
among_at x [] a = absurd a
among_at x (y ∷ ys) (inl e) = (zero, cc)
among_at x (y ∷ ys) (inr a) = let it = among_at x ys a in (suc it.0, it.1)

-- and the front of a list has it at the same index, or earlier
pub front_at : {X : Type 0} (x : X) (xs ys : List X) (i : ℕ) → slice_get (xs ++ ys) i ≡ Some x → IsAmong x xs → (j : ℕ) × (j ≤ i) × (slice_get xs j ≡ Some x)
front_at x [] ys i at a = absurd a
front_at x (z ∷ zs) ys zero at a = (zero, omega arith, at)
front_at x (z ∷ zs) ys (suc i) at (inl e) = (zero, omega arith, cc)
front_at x (z ∷ zs) ys (suc i) at (inr a) = let it = front_at x zs ys i at a in (suc it.0, omega (arith, it.1), it.2)

-- what is there already adds nothing
pub gathered_nothing : (xs es : Entries) → ((n : Name) (y : Why) → IsAmong (n, y) xs → is_found n es ≡ true) → gathered xs es ≡ es
gathered_nothing [] es there = refl
gathered_nothing (x ∷ xs) es there = rw (there x.0 x.1 (inl refl)) (gathered_nothing xs es (λ n y a. there n y (inr a)))

-- in the map of the code

-- whether a name is there, by what is looked up
pub is_looked_up : {X : Type 0} (n : Name) (es : List (Name × X)) → is_some (lookup (same_name n) es) ≡ list_any (λ (e : Name × X). same_name n e.0) es
is_looked_up n [] = refl
is_looked_up n (e ∷ es) = elim (cases_Bool (same_name n e.0)) [ inl is ↦ rw is refl | inr is ↦ rw is (is_looked_up n es) ]

-- why it was found, by what is looked up
pub why_got : (n : Name) (es : Entries) → lookup (same_name n) es ≡ why_of n es
why_got n [] = refl
why_got n (e ∷ es) = elim (cases_Bool (same_name n e.0)) [ inl is ↦ rw is refl | inr is ↦ rw is (why_got n es) ]

-- a name that is not there goes last
pub put_last : (n : Name) (y : Why) (es : Entries) → is_found n es ≡ false → insert_entry same_name es n y ≡ es ++ (n, y) ∷ []
put_last n y [] absent = refl
put_last n y (e ∷ es) absent = let none = or_parts (same_name n e.0) (is_found n es) absent in rw none.0 (ap (λ (fs : Entries). e ∷ fs) (put_last n y es none.1))

pub one_more : (n : Name) (y : Why) (es fs : Entries) → is_found n es ≡ false → fs ≡ insert_entry same_name es n y → fs ≡ found_more n y es
one_more n y es fs absent e = rw absent (e ∙ put_last n y es absent)
