-- A list of things, each with its name and its value, and the map that it stands for.
use Rattle.std.proofs.Common.{◌≡◌, ◌⊎◌, inl, inr, ℕ, suc, ◌+◌, ◌<◌, Bool, true, false, cond, List, [], ◌∷◌, map, length, get_or, take, ◌≤◌, refl, ap, sym, ◌∙◌, arith}
use Rattle.std.proofs.lemmas.List.{take_all}
use Rattle.std.specs.Prelude.{Option, Some, None, slice_set, slice_index_or, is_some}
use Rattle.std.specs.Option.{option_map}
use Rattle.std.specs.Ordering.{eq_by_cmp}
use Rattle.std.specs.FinMap as fin
use Rattle.hurd_creds.specs.Names.{name_cmp, same_name}
use Rattle.hurd_creds.specs.NameMaps.{keyed, place_by}
use Rattle.hurd_creds.specs.declared.name.Name.{Name}
use Rattle.hurd_creds.proofs.NameLaws.{name_total, name_tied, equal_if_same, same_map_by}

-- the first of a list has the name, or it is looked for in the rest
no_place : (b : Bool) (o : Option ℕ) → cond b (Some 0) (option_map (λ i. i + 1) o) ≡ None → (b ≡ false) × (o ≡ None)
no_place true o h = absurd (cc)
no_place false None h = (refl, refl)
no_place false (Some i) h = absurd (cc)

a_place : (b : Bool) (o : Option ℕ) (i : ℕ) → cond b (Some 0) (option_map (λ j. j + 1) o) ≡ Some i → ((b ≡ true) × (i ≡ 0)) ⊎ ((b ≡ false) × (j : ℕ) × (o ≡ Some j) × (i ≡ suc j))
a_place true o i h = inl (refl, cc)
a_place false None i h = absurd (cc)
a_place false (Some j) i h = let e : j + 1 ≡ i = cc in inr (refl, j, refl, omega arith)

-- two names that differ: a write at one is seen past the other
swapped : {A : Type 0} (a b : Bool) (x y z : A) → (a ≡ true → b ≡ true → ⊥) → cond a x (cond b y z) ≡ cond b y (cond a x z)
swapped true true x y z apart = absurd (apart refl refl)
swapped true false x y z apart = refl
swapped false b x y z apart = refl

shadowed : {A : Type 0} (b : Bool) (x y z : A) → cond b x z ≡ cond b x (cond b y z)
shadowed true x y z = refl
shadowed false x y z = refl

-- a name that ties with two ties them
ties_both : (q a b : Name) → eq_by_cmp name_cmp q a ≡ true → eq_by_cmp name_cmp q b ≡ true → same_name a b ≡ true
ties_both q a b h k =
    let e : q ≡ a = equal_if_same q a (sym (name_tied q a) ∙ h) in
    rw (← e) (sym (name_tied q b) ∙ k)

module _ {X V : Type 0} (key : X → Name) (value : X → V) where
  abbrev entry_of : X → Name × V
  entry_of x = (key x, value x)

  -- a scan that has found none in the whole list
  pub place-none : (n : Name) (xs : List X) (i : ℕ) → length xs ≤ i → place_by key n (take i xs) ≡ None → None ≡ place_by key n xs
  place-none n xs i past none = sym (rw (take_all i xs past) at none)

  find-no_place : (n : Name) (xs : List X) → place_by key n xs ≡ None → fin.find name_cmp n (map entry_of xs) ≡ None
  find-no_place n [] h = refl
  find-no_place n (x ∷ xs) h =
      let both = no_place (same_name n (key x)) (place_by key n xs) h in
      rw (name_tied n (key x), both.0) (find-no_place n xs both.1)

  pub get-keyed : (xs : List X) (n : Name) → fin.get (keyed key value xs) n ≡ fin.find name_cmp n (map entry_of xs)
  unfolding keyed
  get-keyed xs n = fin.get-from_entries name_total _ n

  -- what is known of the first thing of a name, at index i
  pub record PlaceIs (n : Name) (xs : List X) (i : ℕ) : Type 0 where
    pub below : i < length xs
    pub named : (d : X) → key (get_or xs i d) ≡ n
    pub finds : (d : X) → fin.get (keyed key value xs) n ≡ Some (value (get_or xs i d))

  record FoundAt (n : Name) (xs : List X) (i : ℕ) : Type 0 where
    below : i < length xs
    named : (d : X) → key (get_or xs i d) ≡ n
    finds : (d : X) → fin.find name_cmp n (map entry_of xs) ≡ Some (value (get_or xs i d))

  found_at : (n : Name) (xs : List X) (i : ℕ) → place_by key n xs ≡ Some i → FoundAt n xs i
  found_at n [] i h = absurd (cc)
  found_at n (x ∷ xs) i h = elim (a_place (same_name n (key x)) (place_by key n xs) i h) [
    | inl (t, e) ↦ rw e (record {
      below = omega arith;
      named = λ d. sym (equal_if_same n (key x) t);
      finds = λ d. rw (name_tied n (key x), t);
    })
    | inr (f, j, is, e) ↦
        let more = found_at n xs j is in
        rw e (record {
          below = let b = more.below in omega arith;
          named = more.named;
          finds = λ d. rw (name_tied n (key x), f) (more.finds d);
        })
  ]

  pub place-is : (n : Name) (xs : List X) (i : ℕ) → place_by key n xs ≡ Some i → PlaceIs n xs i
  place-is n xs i h =
      let at = found_at n xs i h in
      record { below = at.below; named = at.named; finds = λ d. get-keyed xs n ∙ at.finds d }

  -- the value of a thing of the name that was read at its place
  pub get-found : (n : Name) (xs : List X) (i : ℕ) (x : X) → Some i ≡ place_by key n xs → x ≡ slice_index_or xs i x → fin.get (keyed key value xs) n ≡ Some (value x)
  get-found n xs i x at is = (place-is n xs i (sym at)).finds x ∙ ap (λ (t : X). Some (value t)) (sym is)

  -- nothing of this name
  pub get-absent : (n : Name) (xs : List X) → None ≡ place_by key n xs → fin.get (keyed key value xs) n ≡ None
  get-absent n xs h = get-keyed xs n ∙ find-no_place n xs (sym h)

  is_some-place_by : (n : Name) (xs : List X) (o : Option ℕ) → o ≡ place_by key n xs → is_some o ≡ is_some (fin.get (keyed key value xs) n)
  is_some-place_by n xs None h = rw (get-absent n xs h)
  is_some-place_by n [] (Some i) h = absurd (cc)
  is_some-place_by n (x ∷ xs) (Some i) h = rw ((place-is n (x ∷ xs) i (sym h)).finds x)

  -- something of this name has a place exactly where the map has a value
  pub contains-place : (n : Name) (xs : List X) → is_some (place_by key n xs) ≡ is_some (fin.get (keyed key value xs) n)
  contains-place n xs = is_some-place_by n xs (place_by key n xs) refl

  find-set : (n : Name) (xs : List X) (i : ℕ) (x : X) → place_by key n xs ≡ Some i → key x ≡ n → (q : Name) → fin.find name_cmp q (map entry_of (slice_set xs i x)) ≡ cond (eq_by_cmp name_cmp q n) (Some (value x)) (fin.find name_cmp q (map entry_of xs))
  find-set n [] i x h is q = absurd (cc)
  find-set n (t ∷ xs) i x h is q = elim (a_place (same_name n (key t)) (place_by key n xs) i h) [
    | inl (y, e) ↦ rw (e, is, ← equal_if_same n (key t) y) (shadowed (eq_by_cmp name_cmp q n) (Some (value x)) (Some (value t)) (fin.find name_cmp q (map entry_of xs)))
    | inr (f, j, at, e) ↦
        rw (e, find-set n xs j x at is q) (swapped (eq_by_cmp name_cmp q (key t)) (eq_by_cmp name_cmp q n) (Some (value t)) (Some (value x)) (fin.find name_cmp q (map entry_of xs)) (λ a b. let k = ties_both q n (key t) b a in cc))
  ]

  -- a thing in place of the first of its name
  pub keyed-set : (n : Name) (xs : List X) (i : ℕ) (x : X) → place_by key n xs ≡ Some i → key x ≡ n → keyed key value (slice_set xs i x) ≡ fin.insert (keyed key value xs) n (value x)
  keyed-set n xs i x h is = same_map_by _ _ (λ q.
      get-keyed (slice_set xs i x) q ∙ find-set n xs i x h is q
      ∙ sym (fin.get-insert name_total (keyed key value xs) n (value x) q ∙ ap (cond (eq_by_cmp name_cmp q n) (Some (value x))) (get-keyed xs q)))

  -- the same where the thing was changed under its name, in the form that a write through an index gives
  pub keyed-changed : (n : Name) (xs : List X) (i : ℕ) (old new : X) → Some i ≡ place_by key n xs → old ≡ slice_index_or xs i old → key new ≡ key old → keyed key value (slice_set xs i new) ≡ fin.insert (keyed key value xs) n (value new)
  keyed-changed n xs i old new at is same = keyed-set n xs i new (sym at) (same ∙ ap key is ∙ (place-is n xs i (sym at)).named old)

  pub keyed-nothing : keyed key value [] ≡ fin.empty
  unfolding keyed
  keyed-nothing = refl
