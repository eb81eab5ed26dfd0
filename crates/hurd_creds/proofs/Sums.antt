-- The sum of a number of each thing that a map holds.
use Rattle.std.proofs.Common.{◌≡◌, ◌≢◌, ◌⊎◌, ℕ, ◌+◌, ◌≤◌, ◌&&◌, Bool, true, false, cond, List, [], ◌∷◌, Option, Some, None, map, sym, refl, ◌∙◌, ap, ap₂, subst, inl, inr, arith}
use Rattle.std.specs.Prelude.{T}
use Rattle.std.specs.List.{sum_by}
use Rattle.std.specs.declared.cmp.Ordering.{Ordering}
use Rattle.std.specs.declared.cmp.Ordering.TheVariants.{Less, Equal, Greater}
use Rattle.std.specs.Ordering.{eq_by_cmp, is_eq, is_lt}
use Rattle.std.specs.FinMap.{entries, entries-insert, entries_sorted, entries-from_sorted, find, from_sorted, get, get-entries, insert, is_sorted, put, remove, retain_keys, values}
use Rattle.std.specs.FinMap.Entries.{by_order, below_all, where_key, is_sorted-where_key, find-where_key}
use Rattle.std.proofs.lemmas.List.Sums.{sum_by-cons}
use Rattle.hurd_creds.specs.Names.{name_cmp}
use Rattle.hurd_creds.specs.NameMaps.{NameMap, edit}
use Rattle.hurd_creds.specs.declared.name.Name.{Name}
use Rattle.hurd_creds.proofs.NameLaws.{name_total, name_exact, equal_if_tied, tied-itself, same_map_by, same_or_apart, edit_found, edit_absent, get_here, get_apart, remove_here, remove_apart}
use Rattle.hurd_creds.proofs.Retained.{get-retained}

-- x is one of a list
abbrev IsAmong : {X : Type 0} → X → List X → Type 0
IsAmong x [] = ⊥
IsAmong x (y ∷ ys) = (y ≡ x) ⊎ IsAmong x ys

-- lists in the order of their names

first_of_two : (a b : Bool) → T (a && b) → T a
first_of_two true b h = tt
first_of_two false b h = h

second_of_two : (a b : Bool) → T (a && b) → T b
second_of_two true b h = h
second_of_two false b h = absurd h

is_less : (o : Ordering) → T (is_lt o) → o ≡ Less
is_less Less h = refl
is_less Equal h = absurd h
is_less Greater h = absurd h

module _ {X : Type 0} where
  -- a name below all of a list is not there
  find-above : (q : Name) (es : List (Name × X)) → T (below_all name_cmp q es) → find name_cmp q es ≡ None
  find-above q [] h = refl
  find-above q (e ∷ es) h =
      ap (λ r. cond (is_eq r) (Some e.1) (find name_cmp q es)) (is_less (name_cmp q e.0) (first_of_two _ _ h))
      ∙ find-above q es (second_of_two _ _ h)

  rest_sorted : (e : Name × X) (es : List (Name × X)) → T (is_sorted name_cmp (e ∷ es)) → T (is_sorted name_cmp es)
  rest_sorted e es h = second_of_two (below_all name_cmp e.0 es) (is_sorted name_cmp es) h

  below_more : (q p : Name) (es : List (Name × X)) → name_cmp q p ≡ Less → T (below_all name_cmp p es) → find name_cmp q es ≡ None
  below_more q p [] lt h = refl
  below_more q p (e ∷ es) lt h =
      ap (λ r. cond (is_eq r) (Some e.1) (find name_cmp q es)) (name_total.trans q p e.0 lt (is_less (name_cmp p e.0) (first_of_two _ _ h)))
      ∙ below_more q p es lt (second_of_two _ _ h)

  -- the entries of what is kept
  entries-retained : (m : NameMap X) (p : Name → Bool) → entries (retain_keys m p) ≡ where_key name_cmp p (entries m)
  entries-retained m p = ap entries (same_map_by (retain_keys m p) kept same) ∙ entries-from_sorted name_cmp _ sorted
    where
      sorted : T (is_sorted name_cmp (where_key name_cmp p (entries m)))
      sorted = is_sorted-where_key name_cmp p (entries m) (entries_sorted m)

      kept : NameMap X
      kept = from_sorted (where_key name_cmp p (entries m))

      same : (n : Name) → get (retain_keys m p) n ≡ get kept n
      same n =
          get-retained m p n ∙ ap (λ o. cond (p n) o None) (get-entries m n) ∙ sym (find-where_key name_cmp p n (λ q e. ap p (sym (name_exact n q e))) (entries m))
          ∙ sym (get-entries kept n ∙ ap (find name_cmp n) (entries-from_sorted name_cmp _ sorted))

module _ {X : Type 0} (f : X → ℕ) where
  -- the number of what may be there
  abbrev pub of_found : Option X → ℕ
  of_found None = 0
  of_found (Some x) = f x

  abbrev of_list : List (Name × X) → ℕ
  of_list es = sum_by f (map (λ (e : Name × X). e.1) es)

  abbrev pub total : NameMap X → ℕ
  total m = sum_by f (values m)

  more : (e : Name × X) (es : List (Name × X)) → of_list (e ∷ es) ≡ f e.1 + of_list es
  more e es = sum_by-cons f e.1 (map (λ (d : Name × X). d.1) es)

  put_sum : (k : Name) (v : X) (es : List (Name × X)) → T (is_sorted name_cmp es) → of_list (put name_cmp k v es) + of_found (find name_cmp k es) ≡ of_list es + f v
  put_sum k v [] h = let one = more (k, v) [] in omega arith
  put_sum k v (e ∷ es) h =
      elim (name_cmp k e.0) as (λ r. name_cmp k e.0 ≡ r → of_list (by_order r ((k, v) ∷ e ∷ es) ((e.0, v) ∷ es) (e ∷ put name_cmp k v es)) + of_found (cond (is_eq r) (Some e.1) (find name_cmp k es)) ≡ of_list (e ∷ es) + f v) [
        | Less ↦ λ lt.
            let none : of_found (find name_cmp k es) ≡ 0 = ap of_found (below_more k e.0 es lt (first_of_two _ _ h)) in
            let two = more (k, v) (e ∷ es) in
            omega arith
        | Equal ↦ λ eq. let new = more (e.0, v) es in let old = more e es in omega arith
        | Greater ↦ λ gt.
            let rest : of_list (put name_cmp k v es) + of_found (find name_cmp k es) ≡ of_list es + f v = put_sum k v es (rest_sorted e es h) in
            let new = more e (put name_cmp k v es) in
            let old = more e es in
            omega arith
      ] refl

  -- with a thing put in, in place of what was there
  pub total_insert : (m : NameMap X) (k : Name) (v : X) → total (insert m k v) + of_found (get m k) ≡ total m + f v
  total_insert m k v =
      ap₂ (λ (es : List (Name × X)) (o : Option X). of_list es + of_found o) (entries-insert name_total m k v) (get-entries m k)
      ∙ put_sum k v (entries m) (entries_sorted m)

  -- with what is there changed
  pub total_edit : (m : NameMap X) (k : Name) (g : X → X) (x : X) → get m k ≡ Some x → total (edit k g m) + f x ≡ total m + f (g x)
  total_edit m k g x is =
      ap₂ (λ (n : NameMap X) (o : Option X). total n + of_found o) (edit_found m k g x is) (sym is) ∙ total_insert m k (g x)

  pub total_kept : (m : NameMap X) (k : Name) (g : X → X) → ((x : X) → get m k ≡ Some x → f (g x) ≡ f x) → total (edit k g m) ≡ total m
  total_kept m k g same = go (get m k) refl
    where
      go : (o : Option X) → get m k ≡ o → total (edit k g m) ≡ total m
      go None is = ap total (edit_absent m k g is)
      go (Some x) is = let e = total_edit m k g x is in let s = same x is in omega arith

  -- without what is there
  pub total_remove : (m : NameMap X) (k : Name) → total (remove m k) + of_found (get m k) ≡ total m
  total_remove m k = go (get m k) refl
    where
      back : (x : X) → get m k ≡ Some x → (q : Name) → (q ≡ k) ⊎ (q ≢ k) → get (insert (remove m k) k x) q ≡ get m q
      back x is q (inl e) = rw e (get_here (remove m k) k x ∙ sym is)
      back x is q (inr apart) = get_apart (remove m k) k x q apart ∙ remove_apart m k q apart

      gone : get m k ≡ None → (q : Name) → (q ≡ k) ⊎ (q ≢ k) → get (remove m k) q ≡ get m q
      gone is q (inl e) = rw e (remove_here m k ∙ sym is)
      gone is q (inr apart) = remove_apart m k q apart

      go : (o : Option X) → get m k ≡ o → total (remove m k) + of_found o ≡ total m
      go None is = let same = ap total (same_map_by (remove m k) m (λ q. gone is q (same_or_apart q k))) in omega arith
      go (Some x) is =
          let same = ap total (same_map_by (insert (remove m k) k x) m (λ q. back x is q (same_or_apart q k))) in
          let all = total_insert (remove m k) k x in
          let none = ap of_found (remove_here m k) in
          omega arith

  -- what is in a list is found there under its name
  among_found : (d : Name × X) (es : List (Name × X)) → T (is_sorted name_cmp es) → IsAmong d es → find name_cmp d.0 es ≡ Some d.1
  among_found d [] h i = absurd i
  among_found d (e ∷ es) h (inl same) = subst (λ z. find name_cmp z.0 (e ∷ es) ≡ Some z.1) same (ap (λ b. cond b (Some e.1) (find name_cmp e.0 es)) (tied-itself e.0))
  among_found d (e ∷ es) h (inr i) = go (eq_by_cmp name_cmp d.0 e.0) refl (among_found d es (rest_sorted e es h) i)
    where
      go : (b : Bool) → eq_by_cmp name_cmp d.0 e.0 ≡ b → find name_cmp d.0 es ≡ Some d.1 → find name_cmp d.0 (e ∷ es) ≡ Some d.1
      go true t found = let gone : find name_cmp d.0 es ≡ None = rw (equal_if_tied d.0 e.0 t) (find-above e.0 es (first_of_two _ _ h)) in absurd (cc)
      go false t found = ap (λ b. cond b (Some e.1) (find name_cmp d.0 es)) t ∙ found

  stands : (m : NameMap X) (d : Name × X) → IsAmong d (entries m) → get m d.0 ≡ Some d.1
  stands m d i = get-entries m d.0 ∙ among_found d (entries m) (entries_sorted m) i

  none_sum : (es : List (Name × X)) → ((d : Name × X) → IsAmong d es → f d.1 ≡ 0) → of_list es ≡ 0
  none_sum [] none = refl
  none_sum (e ∷ es) none =
      let first = none e (inl refl) in
      let rest = none_sum es (λ d i. none d (inr i)) in
      let all = more e es in
      omega arith

  -- a sum of nothing
  pub total_none : (m : NameMap X) → ((k : Name) (x : X) → get m k ≡ Some x → f x ≡ 0) → total m ≡ 0
  total_none m none = none_sum (entries m) (λ d i. none d.0 d.1 (stands m d i))

  found_sum : (k : Name) (x : X) (es : List (Name × X)) → find name_cmp k es ≡ Some x → f x ≤ of_list es
  found_sum k x [] is = absurd (cc)
  found_sum k x (e ∷ es) is = go (eq_by_cmp name_cmp k e.0) (found_sum k x es) is
    where
      go : (b : Bool) → (find name_cmp k es ≡ Some x → f x ≤ of_list es) → cond b (Some e.1) (find name_cmp k es) ≡ Some x → f x ≤ of_list (e ∷ es)
      go true rest here = let same : e.1 ≡ x = cc in let one = ap f same in let all = more e es in omega arith
      go false rest there = let low = rest there in let all = more e es in omega arith

  -- each is at most the sum
  pub total_above : (m : NameMap X) (k : Name) (x : X) → get m k ≡ Some x → f x ≤ total m
  total_above m k x is = found_sum k x (entries m) (sym (get-entries m k) ∙ is)

  kept_sum : (p : Name → Bool) (es : List (Name × X)) → ((d : Name × X) → IsAmong d es → p d.0 ≡ false → f d.1 ≡ 0) → of_list (where_key name_cmp p es) ≡ of_list es
  kept_sum p [] none = refl
  kept_sum p (e ∷ es) none = go (p e.0) refl (kept_sum p es (λ d i. none d (inr i)))
    where
      go : (b : Bool) → p e.0 ≡ b → of_list (where_key name_cmp p es) ≡ of_list es → of_list (cond b (e ∷ where_key name_cmp p es) (where_key name_cmp p es)) ≡ of_list (e ∷ es)
      go true is rest = let new = more e (where_key name_cmp p es) in let old = more e es in omega arith
      go false is rest = let first = none e (inl refl) is in let old = more e es in omega arith

  -- of what is kept, where the others count for nothing
  pub total_retained : (m : NameMap X) (p : Name → Bool) → ((k : Name) (x : X) → p k ≡ false → get m k ≡ Some x → f x ≡ 0) → total (retain_keys m p) ≡ total m
  total_retained m p none = ap of_list (entries-retained m p) ∙ kept_sum p (entries m) (λ d i out. none d.0 d.1 out (stands m d i))

  find_among : (q : Name) (x : X) (es : List (Name × X)) → find name_cmp q es ≡ Some x → IsAmong q (map (λ (e : Name × X). e.0) es)
  find_among q x [] is = absurd (cc)
  find_among q x (e ∷ es) is = go (eq_by_cmp name_cmp q e.0) refl (find_among q x es) is
    where
      go : (b : Bool) → eq_by_cmp name_cmp q e.0 ≡ b → (find name_cmp q es ≡ Some x → IsAmong q (map (λ (d : Name × X). d.0) es)) → cond b (Some e.1) (find name_cmp q es) ≡ Some x
          → (e.0 ≡ q) ⊎ IsAmong q (map (λ (d : Name × X). d.0) es)
      go true t rest here = inl (sym (equal_if_tied q e.0 t))
      go false t rest there = inr (rest there)

  -- maps in which each name counts for as much have one sum
  pointwise : (ns : List Name) (m k : NameMap X) → ((q : Name) (x : X) → get m q ≡ Some x → IsAmong q ns) → ((q : Name) → of_found (get k q) ≡ of_found (get m q)) → total k ≡ total m
  pointwise [] m k all same = total_none k (λ q x is. ap of_found (sym is) ∙ same q ∙ none q (get m q) refl) ∙ sym (total_none m (λ q x is. absurd (all q x is)))
    where
      none : (q : Name) (o : Option X) → get m q ≡ o → of_found (get m q) ≡ 0
      none q None e = ap of_found e
      none q (Some x) e = absurd (all q x e)
  pointwise (n ∷ ns) m k all same =
      let one = total_remove m n in
      let two = total_remove k n in
      let here = same n in
      let rest = pointwise ns (remove m n) (remove k n) (λ q x is. elim (same_or_apart q n) [
        | inl e ↦ let gone : None ≡ Some x = sym (remove_here m n) ∙ ap (get (remove m n)) (sym e) ∙ is in absurd (cc)
        | inr a ↦ elim (all q x (sym (remove_apart m n q a) ∙ is)) [ inl e ↦ absurd (a (sym e)) | inr i ↦ i ]
      ]) (λ q. elim (same_or_apart q n) [
        | inl e ↦ rw e (ap of_found (remove_here k n) ∙ sym (ap of_found (remove_here m n)))
        | inr a ↦ ap of_found (remove_apart k n q a) ∙ same q ∙ sym (ap of_found (remove_apart m n q a))
      ]) in
      omega (arith, one, two, here, rest)

  pub total_pointwise : (m k : NameMap X) → ((q : Name) → of_found (get k q) ≡ of_found (get m q)) → total k ≡ total m
  total_pointwise m k = pointwise (map (λ (e : Name × X). e.0) (entries m)) m k (λ q x is. find_among q x (entries m) (sym (get-entries m q) ∙ is))

  -- and where one name counts for other than it did, so does the sum
  pub total_else : (m k : NameMap X) (n : Name) → ((q : Name) → q ≢ n → of_found (get k q) ≡ of_found (get m q)) → total k + of_found (get m n) ≡ total m + of_found (get k n)
  total_else m k n same =
      let one = total_remove m n in
      let two = total_remove k n in
      let rest = total_pointwise (remove m n) (remove k n) (λ q. elim (same_or_apart q n) [
        | inl e ↦ rw e (ap of_found (remove_here k n) ∙ sym (ap of_found (remove_here m n)))
        | inr a ↦ ap of_found (remove_apart k n q a) ∙ same q a ∙ sym (ap of_found (remove_apart m n q a))
      ]) in
      omega (arith, one, two, rest)
