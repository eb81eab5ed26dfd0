-- A target is told by its number.
use Rattle.std.proofs.Common.{◌≡◌, ◌⊎◌, inl, inr, ◌∙◌, refl, sym, ap, subst, ℕ, suc, ◌+◌, ◌<◌, ◌≤◌, ◌^◌, Bool, true, false, true≢false, List, [], ◌∷◌, ◌++◌, length, length-append, Option, Some, None, arith, if◌then◌else◌, codes}
use Rattle.std.specs.Option.{option_map, option_or}
use Rattle.hurd_creds.specs.declared.name.Name.{Name}
use Rattle.hurd_creds.specs.declared.name.TaskId.{TaskId}
use Rattle.hurd_creds.specs.Names.{same_name}
use Rattle.hurd_creds.proofs.NameLaws.{equal_if_same, same_name-itself}
use Rattle.hurd_machine.specs.World.{World, IsAmong, home_at, nodes_of, server_at}
use Rattle.hurd_machine.specs.Sight.{Knows, OfNode, OfSeat}
use Rattle.hurd_sight.specs.Found.{is_found, why_of}
use Rattle.hurd_sight.specs.Looks.{sees_with}
use Rattle.hurd_sight.specs.Reach.{among}
use Rattle.hurd_sight.specs.declared.found.Why.TheVariants as why
use Rattle.hurd_sight.specs.declared.parts.SeenPart.TheVariants as seen
use Rattle.hurd_sight.proofs.PartLaws.{parts_are_seen}
use Rattle.hurd_views.specs.Views.{Views, node_row, server_row, told_if}
use Rattle.hurd_views.specs.declared.view.View.{View}
use Rattle.hurd_places.specs.Places.{bound_by, bound_to, number_in, numbered, or_zero, target_at, target_number, targets_in, targets_of}
use Rattle.hurd_places.specs.declared.servers.Bond.TheVariants as bond
use Rattle.hurd_places.proofs.SeenFacts.{active_seen, reason, row_is, some_once}
use Rattle.hurd_places.proofs.StepLaws.{numbered_once}

-- the number of a node among some

plus_next : (a k : ℕ) → a + (k + 1) ≡ suc a + k
plus_next a k = omega arith

plus_none : (k : ℕ) → 0 + k ≡ k
plus_none k = omega arith

number-append : (n : Name) (k : ℕ) (ms ns : List Name) → number_in n k (ms ++ ns) ≡ option_or (number_in n k ms) (number_in n (length ms + k) ns)
number-append n k [] ns = ap (λ (j : ℕ). number_in n j ns) (sym (plus_none k))
number-append n k (m ∷ ms) ns = go (number-append n (k + 1) ms ns) (same_name n m)
  where
    go : number_in n (k + 1) (ms ++ ns) ≡ option_or (number_in n (k + 1) ms) (number_in n (length ms + (k + 1)) ns) → (b : Bool)
        → (if b then Some k else number_in n (k + 1) (ms ++ ns)) ≡ option_or (if b then Some k else number_in n (k + 1) ms) (number_in n (suc (length ms) + k) ns)
    go rest true = refl
    go rest false = rest ∙ ap (λ (j : ℕ). option_or (number_in n (k + 1) ms) (number_in n j ns)) (plus_next (length ms) k)

number_within : (n : Name) (k a : ℕ) (ns : List Name) → number_in n k ns ≡ Some a → (k ≤ a) × (a < k + length ns)
number_within n k a [] is = absurd (cc)
number_within n k a (m ∷ ns) is = go (number_within n (k + 1) a ns) (same_name n m) is
  where
    go : (number_in n (k + 1) ns ≡ Some a → (k + 1 ≤ a) × (a < k + 1 + length ns)) → (b : Bool) → (if b then Some k else number_in n (k + 1) ns) ≡ Some a → (k ≤ a) × (a < k + suc (length ns))
    go rest true is = let same = some_once k a is in (omega (arith, same), omega (arith, same))
    go rest false is = let both = rest is in let low = both.0 in let high = both.1 in (omega (arith, low), omega (arith, high))

number_once : (n m : Name) (k a : ℕ) (ns : List Name) → number_in n k ns ≡ Some a → number_in m k ns ≡ Some a → n ≡ m
number_once n m k a [] x y = absurd (cc)
number_once n m k a (q ∷ ns) x y = go (number_once n m (k + 1) a ns) (same_name n q) (same_name m q) refl refl x y
  where
    go : (number_in n (k + 1) ns ≡ Some a → number_in m (k + 1) ns ≡ Some a → n ≡ m) → (b c : Bool) → same_name n q ≡ b → same_name m q ≡ c → (if b then Some k else number_in n (k + 1) ns) ≡ Some a
        → (if c then Some k else number_in m (k + 1) ns) ≡ Some a → n ≡ m
    go rest true true p q x y = equal_if_same _ _ p ∙ sym (equal_if_same _ _ q)
    go rest true false p q x y = let same = some_once k a x in let far = (number_within m (k + 1) a ns y).0 in absurd (omega (arith, same, far))
    go rest false true p q x y = let same = some_once k a y in let far = (number_within n (k + 1) a ns x).0 in absurd (omega (arith, same, far))
    go rest false false p q x y = rest x y

number_there : (n : Name) (k : ℕ) (ns : List Name) → IsAmong n ns → (a : ℕ) × (number_in n k ns ≡ Some a)
number_there n k [] there = absurd there
number_there n k (m ∷ ns) there = go (number_there n (k + 1) ns) (same_name n m) refl there
  where
    go : (IsAmong n ns → (a : ℕ) × (number_in n (k + 1) ns ≡ Some a)) → (b : Bool) → same_name n m ≡ b → (m ≡ n) ⊎ IsAmong n ns → (a : ℕ) × ((if b then Some k else number_in n (k + 1) ns) ≡ Some a)
    go rest true same there = (k, refl)
    go rest false other (inl is) = absurd (true≢false (sym (ap (same_name n) is ∙ same_name-itself n) ∙ other))
    go rest false other (inr later) = rest later

among_left : (n : Name) (ms ns : List Name) → IsAmong n ms → IsAmong n (ms ++ ns)
among_left n [] ns there = absurd there
among_left n (m ∷ ms) ns (inl is) = inl is
among_left n (m ∷ ms) ns (inr later) = inr (among_left n ms ns later)

among_right : (n : Name) (ms ns : List Name) → IsAmong n ns → IsAmong n (ms ++ ns)
among_right n [] ns there = there
among_right n (m ∷ ms) ns there = inr (among_right n ms ns there)

target_as : (n : Name) (ms ns : List Name) → target_number n ms ns ≡ or_zero (number_in n 1 (ms ++ ns))
target_as n ms ns = ap or_zero (sym (number-append n 1 ms ns))

number_most : (n : Name) (ns : List Name) → or_zero (number_in n 1 ns) ≤ length ns
number_most n ns = go (number_in n 1 ns) refl
  where
    go : (o : Option ℕ) → number_in n 1 ns ≡ o → or_zero o ≤ length ns
    go None is = omega arith
    go (Some a) is = let high = (number_within n 1 a ns is).1 in omega (arith, high)

same_number : (n m : Name) (ns : List Name) → IsAmong n ns → IsAmong m ns → or_zero (number_in n 1 ns) ≡ or_zero (number_in m 1 ns) → n ≡ m
same_number n m ns in_n in_m same =
    let a = number_there n 1 ns in_n in
    let b = number_there m 1 ns in_m in
    let numbers : a.0 ≡ b.0 = sym (ap or_zero a.1) ∙ (same ∙ ap or_zero b.1) in
    number_once n m 1 a.0 ns a.1 (b.1 ∙ ap (λ (x : ℕ). Some x) (sym numbers))

-- the servers to which a found node is bound, and their targets

pub home_seen : (tasks : List TaskId) (w : World) (v : View) (n : Name) → Views tasks w v → is_found n v.sight.found ≡ true → bound_to v bond.Home n ≡ home_at w n
home_seen tasks w v n views is = ap (λ (r : _). bound_by bond.Home r.attributes) (row_is tasks w v n views) ∙ ap (λ (t : Bool). bound_by bond.Home (told_if t (node_row w n))) is

targets_seen : (tasks : List TaskId) (w : World) (v : View) (s : Name) → Views tasks w v → Knows (among tasks) w s → targets_of v (Some s) ≡ targets_in (Some (option_map server_row (server_at w s)))
targets_seen tasks w v s views knows =
    let sees : sees_with (nodes_of w) v.sight (seen.Options s) ≡ true = (parts_are_seen (among tasks) w v.sight (seen.Options s) views.looks).1 knows in
    ap (λ (r : _). targets_in r.server) (row_is tasks w v s views) ∙ ap (λ (t : Bool). targets_in (told_if t (option_map server_row (server_at w s)))) sees

in_targets : (tasks : List TaskId) (w : World) (v : View) (n s : Name) (o : Option Name) → Views tasks w v → Knows (among tasks) w s → o ≡ Some s
    → IsAmong n (targets_in (Some (option_map server_row (server_at w s)))) → IsAmong n (targets_of v o)
in_targets tasks w v n s o views knows is there =
    subst (λ (ns : List Name). IsAmong n ns) (sym (ap (targets_of v) is ∙ targets_seen tasks w v s views knows)) there

pub is_target : (tasks : List TaskId) (w : World) (v : View) (d n : Name) → Views tasks w v → why_of n v.sight.found ≡ Some (why.Target d)
    → IsAmong n (targets_of v (bound_to v bond.Home d) ++ targets_of v (bound_to v bond.Active d))
is_target tasks w v d n views is =
    let r = reason tasks w v n (why.Target d) views is in
    let found = r.from d refl in
    let here : IsAmong n (targets_in (Some (option_map server_row (server_at w r.holds.0)))) = subst (λ (o : _). IsAmong n (targets_in (Some (option_map server_row o)))) (sym r.holds.3) r.holds.4 in
    elim r.holds.2 [
      | inl home ↦ among_left n (targets_of v (bound_to v bond.Home d)) (targets_of v (bound_to v bond.Active d))
          (in_targets tasks w v n r.holds.0 (bound_to v bond.Home d) views (OfNode d ((views.looks.found.exact d).0 found) home) (home_seen tasks w v d views found ∙ home) here)
      | inr active ↦ among_right n (targets_of v (bound_to v bond.Home d)) (targets_of v (bound_to v bond.Active d))
          (in_targets tasks w v n r.holds.0 (bound_to v bond.Active d) views (OfSeat d ((views.looks.found.exact d).0 found) active) (active_seen tasks w v d views found ∙ active) here)
    ]

pub target_once : (tasks : List TaskId) (w : World) (v : View) (d n m : Name) → Views tasks w v → ((s : Option Name) → length (targets_of v s) < 2 ^ 62) → why_of n v.sight.found ≡ Some (why.Target d)
    → why_of m v.sight.found ≡ Some (why.Target d) → numbered (codes "target") (target_at v d n) ≡ numbered (codes "target") (target_at v d m) → n ≡ m
target_once tasks w v d n m views few a b same =
    let ms = targets_of v (bound_to v bond.Home d) in
    let ns = targets_of v (bound_to v bond.Active d) in
    let few_ms = few (bound_to v bond.Home d) in
    let few_ns = few (bound_to v bond.Active d) in
    let both = length-append ms ns in
    let most_n = number_most n (ms ++ ns) in
    let most_m = number_most m (ms ++ ns) in
    let is_n = target_as n ms ns in
    let is_m = target_as m ms ns in
    let numbers = numbered_once (codes "target") (target_at v d n) (target_at v d m) (omega (arith, few_ms, few_ns, both, most_n, is_n)) (omega (arith, few_ms, few_ns, both, most_m, is_m)) same in
    same_number n m (ms ++ ns) (is_target tasks w v d n views a) (is_target tasks w v d m views b) (sym is_n ∙ (numbers ∙ is_m))
