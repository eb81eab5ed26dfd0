-- Nodes are followed in their order, until all that they show is there.
use Rattle.std.proofs.Common.{◌≡◌, ◌∙◌, ◌⊎◌, inl, inr, sym, refl, ap, subst, ℕ, zero, suc, ◌+◌, ◌<◌, ◌≤◌, arith, List, [], ◌∷◌, ◌++◌, append_assoc, take, take_all, length, length-append, ltb, Bool, true, false, true≢false}
use Rattle.std.specs.Prelude.{Option, Some, None, slice_get}
use Rattle.std.specs.Option.{option_map}
use Rattle.std.proofs.lemmas.Bool.{ltb-false, ltb-true}
use Rattle.std.proofs.lemmas.List.{take-append-le}
use Rattle.std.proofs.lemmas.Option.{get_or_from_slice_get, slice_get_within}
use Rattle.hurd_machine.proofs.Common.{IdSets, IsAmong, Name, NodeState, Task, TaskId, boot_root}
use Rattle.hurd_sight.specs.Found.{AllThatFollows, FoundAll, FoundIsOne, gathered, is_found, of_node, of_nodes, of_plain, of_tasks}
use Rattle.hurd_sight.specs.declared.found.Why.{Why}
use Rattle.hurd_sight.specs.declared.found.Why.TheVariants as why
use Rattle.hurd_sight.proofs.FoundLaws.{Entries, among_flat, among_found, among_taken, flat_among, flat_next, found_among, gathered_both, gathered_grown, gathered_kept, gathered_said, gathered_there, taken_among}

slice_get_none : (es : Entries) (k : ℕ) → slice_get es k ≡ None → length es ≤ k
slice_get_none [] k none = omega arith
slice_get_none (x ∷ es) zero none = absurd (cc)
slice_get_none (x ∷ es) (suc k) none = let rest = slice_get_none es k none in omega (arith, rest)

-- the node at an index
pub node_at : (es : Entries) (i : ℕ) (n : Name) → Some n ≡ option_map (λ (e : Name × Why). e.0) (slice_get es i) → (y : Why) × (slice_get es i ≡ Some (n, y))
node_at es i n told = go (slice_get es i) refl told
  where
    go : (o : Option (Name × Why)) → slice_get es i ≡ o → Some n ≡ option_map (λ (e : Name × Why). e.0) o → (y : Why) × (slice_get es i ≡ Some (n, y))
    go None is t = absurd (cc)
    go (Some e) is t = let same : n ≡ e.0 = cc in (e.1, is ∙ ap (λ (m : Name). Some (m, e.1)) (sym same))

-- what is below the next index is below this one, or is it
below_next : (j k : ℕ) → j < k + 1 → (j < k) ⊎ (j ≡ k)
below_next j k below = go (ltb j k) refl
  where
    go : (b : Bool) → ltb j k ≡ b → (j < k) ⊎ (j ≡ k)
    go true is = inl (ltb-true j k is)
    go false is = let not_below = ltb-false j k is in inr (omega (arith, below, not_below))

module _ (f : Name → Entries) where
  -- the nodes before an index were followed
  pub record Following (k : ℕ) (start es : Entries) : Type 0 where
    pub all : es ≡ gathered (of_nodes f (take k es)) start
    pub next : (j : ℕ) → j < k → take (suc j) es ≡ take (suc j) (gathered (of_nodes f (take j es)) start)
    pub within : k ≤ length es

  pub follow_none : (es : Entries) → Following 0 es es
  follow_none es = record { all = refl; next = λ j below. absurd (nothing j below); within = omega arith }
    where
      nothing : (j : ℕ) → j < 0 → ⊥
      nothing j below = omega (arith, below)

  -- one node more was followed
  pub follow_next : (start es fs : Entries) (k : ℕ) (m : Name) → Following k start es → Some m ≡ option_map (λ (e : Name × Why). e.0) (slice_get es k)
      → fs ≡ gathered (f m) es → Following (k + 1) start fs
  follow_next start es fs k m before told step = record {
    all =
        gathered_both start (of_nodes f (take k es)) (f m) before.all step
        ∙ ap (λ (gs : Entries). gathered gs start) (sym more ∙ ap (of_nodes f) (sym (same (k + 1) (omega (arith, inside)))));
    next = λ j below. elim (below_next j k below) [
      | inl past ↦ earlier j past
      | inr here ↦ subst (λ (i : ℕ). take (suc i) fs ≡ take (suc i) (gathered (of_nodes f (take i fs)) start)) (sym here) last
    ];
    within = subst (λ (gs : Entries). k + 1 ≤ length gs) (sym grown.1) (omega (arith, length-append es grown.0, inside));
  }
    where
      at_k : (y : Why) × (slice_get es k ≡ Some (m, y))
      at_k = node_at es k m told

      inside : k < length es
      inside = slice_get_within es k (m, at_k.0) at_k.1

      grown : (more : Entries) × (fs ≡ es ++ more)
      grown = let it = gathered_grown (f m) es in (it.0, step ∙ it.1)

      same : (j : ℕ) → j ≤ length es → take j fs ≡ take j es
      same j past = ap (take j) grown.1 ∙ take-append-le j es grown.0 past

      more : of_nodes f (take (k + 1) es) ≡ of_nodes f (take k es) ++ f m
      more =
          flat_next (λ (e : Name × Why). f e.0) es k (m, at_k.0) inside
          ∙ ap (λ (e : Name × Why). of_nodes f (take k es) ++ f e.0) (get_or_from_slice_get es k (m, at_k.0) (m, at_k.0) at_k.1)

      earlier : (j : ℕ) → j < k → take (suc j) fs ≡ take (suc j) (gathered (of_nodes f (take j fs)) start)
      earlier j past =
          same (suc j) (omega (arith, past, inside))
          ∙ (before.next j past ∙ ap (λ (gs : Entries). take (suc j) (gathered (of_nodes f gs) start)) (sym (same j (omega (arith, past, inside)))))

      last : take (suc k) fs ≡ take (suc k) (gathered (of_nodes f (take k fs)) start)
      last =
          same (suc k) (omega (arith, inside))
          ∙ (ap (take (suc k)) before.all ∙ ap (λ (gs : Entries). take (suc k) (gathered (of_nodes f gs) start)) (sym (same k (omega (arith, inside)))))

  -- where no more are left, all were followed
  pub follow_end : (start es : Entries) (k : ℕ) → Following k start es → None ≡ option_map (λ (e : Name × Why). e.0) (slice_get es k) → AllThatFollows f start es
  follow_end start es k before none = record { all = all; next = λ j. at j (ltb j k) refl }
    where
      past : length es ≤ k
      past = go (slice_get es k) refl none
        where
          go : (o : Option (Name × Why)) → slice_get es k ≡ o → None ≡ option_map (λ (e : Name × Why). e.0) o → length es ≤ k
          go None is t = slice_get_none es k is
          go (Some e) is t = absurd (cc)

      all : es ≡ gathered (of_nodes f es) start
      all = before.all ∙ ap (λ (gs : Entries). gathered (of_nodes f gs) start) (take_all k es past)

      at : (j : ℕ) (b : Bool) → ltb j k ≡ b → take (suc j) es ≡ take (suc j) (gathered (of_nodes f (take j es)) start)
      at j true is = before.next j (ltb-true j k is)
      at j false is =
          let not_below = ltb-false j k is in
          ap (take (suc j)) (all ∙ ap (λ (gs : Entries). gathered (of_nodes f gs) start) (sym (take_all j es (omega (arith, not_below, past)))))

-- what a list that follows of some nodes shows
module _ (f : Name → Entries) (start es : Entries) (it : AllThatFollows f start es) where
  -- it begins with these
  pub follows_grown : (more : Entries) × (es ≡ start ++ more)
  follows_grown = let grown = gathered_grown (of_nodes f es) start in (grown.0, it.all ∙ grown.1)

  pub follows_kept : (n : Name) → is_found n start ≡ true → is_found n es ≡ true
  follows_kept n found = ap (is_found n) it.all ∙ gathered_kept n (of_nodes f es) start found

  -- what one of its nodes shows is there
  pub follows_closed : (m n : Name) (y : Why) → is_found m es ≡ true → IsAmong (n, y) (f m) → is_found n es ≡ true
  follows_closed m n y found a =
      let at = found_among m es found in
      ap (is_found n) it.all
      ∙ gathered_there n y (of_nodes f es) start (among_flat (λ (e : Name × Why). f e.0) at.0 (n, y) es at.1 (subst (λ (q : Name). IsAmong (n, y) (f q)) at.2 a))

  -- and it was there, or one before it shows it
  pub follows_said : (i : ℕ) (n : Name) (y : Why) → slice_get es i ≡ Some (n, y)
      → IsAmong (n, y) start ⊎ ((m : Name) × (is_found m (take i es) ≡ true) × IsAmong (n, y) (f m))
  follows_said i n y at = elim (gathered_said (n, y) (of_nodes f (take i es)) start here) [
    | inl seed ↦ inl seed
    | inr a ↦ let of = flat_among (λ (e : Name × Why). f e.0) (n, y) (take i es) a in inr (of.0.0, among_found of.0 (take i es) of.1, of.2)
  ]
    where
      here : IsAmong (n, y) (gathered (of_nodes f (take i es)) start)
      here = taken_among (n, y) (suc i) _ (subst (IsAmong (n, y)) (it.next i) (among_taken (n, y) es i at))

  -- what is true of these, and of all that is shown by what it is true of, is true of all
  module _ (P : Name → Type 0) (begins : (n : Name) (y : Why) → IsAmong (n, y) start → P n) (goes : (m n : Name) (y : Why) → P m → IsAmong (n, y) (f m) → P n) where
    pub follows_up_to : (k : ℕ) (n : Name) → is_found n (take k es) ≡ true → P n
    follows_up_to zero n found = absurd (true≢false (sym found))
    follows_up_to (suc k) n found =
        let at = found_among n (take (suc k) es) found in
        let there = subst (IsAmong at.0) (it.next k) at.1 in
        subst P (sym at.2) (shown at.0.0 at.0.1 (taken_among at.0 (suc k) _ there) (follows_up_to k))
      where
        shown : (m : Name) (y : Why) → IsAmong (m, y) (gathered (of_nodes f (take k es)) start) → ((q : Name) → is_found q (take k es) ≡ true → P q) → P m
        shown m y a before = elim (gathered_said (m, y) (of_nodes f (take k es)) start a) [
          | inl seed ↦ begins m y seed
          | inr b ↦
              let of = flat_among (λ (e : Name × Why). f e.0) (m, y) (take k es) b in
              goes of.0.0 m y (before of.0.0 (among_found of.0 (take k es) of.1)) of.2
        ]

-- what the first round found begins the list
pub plain_grown : (h : NodeState) (ts : List Task) (ids : IdSets) (tasks : List TaskId) (es : Entries) (all : FoundAll h ts ids tasks es) → (more : Entries) × (es ≡ all.plain ++ more)
plain_grown h ts ids tasks es all =
    let held = gathered_grown (of_tasks h ts tasks) all.plain in
    let rest = follows_grown (of_node h ids) (gathered (of_tasks h ts tasks) all.plain) es all.follows in
    (held.0 ++ rest.0, rest.1 ∙ (ap (λ (gs : Entries). gs ++ rest.0) held.1 ∙ append_assoc all.plain held.0 rest.0))

-- there is one list

one_front : (f : Name → Entries) (start es fs : Entries) → AllThatFollows f start es → AllThatFollows f start fs → (k : ℕ) → take k es ≡ take k fs
one_front f start es fs x y zero = refl
one_front f start es fs x y (suc k) =
    x.next k ∙ (ap (λ (gs : Entries). take (suc k) (gathered (of_nodes f gs) start)) (one_front f start es fs x y k) ∙ sym (y.next k))

one_follows : (f : Name → Entries) (start es fs : Entries) → AllThatFollows f start es → AllThatFollows f start fs → es ≡ fs
one_follows f start es fs x y =
    let k : ℕ = length es + length fs in
    sym (take_all k es (omega arith)) ∙ (one_front f start es fs x y k ∙ take_all k fs (omega arith))

pub found_is_one : FoundIsOne
found_is_one h ts ids tasks es fs x y =
    let plain = one_follows (of_plain h ids) ((boot_root, why.Root) ∷ []) x.plain y.plain x.first y.first in
    one_follows (of_node h ids) (gathered (of_tasks h ts tasks) y.plain) es fs
    (subst (λ (gs : Entries). AllThatFollows (of_node h ids) (gathered (of_tasks h ts tasks) gs) es) plain x.follows) y.follows
