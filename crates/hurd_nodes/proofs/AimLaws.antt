-- How often servers aim at nodes, as servers come and go.
use Rattle.std.proofs.Common.{◌≡◌, ◌≢◌, ◌⊎◌, inl, inr, ℕ, zero, suc, ◌+◌, ◌*◌, ◌<◌, ◌≤◌, ◌||◌, Bool, true, false, cond, List, [], ◌∷◌, length, drop, refl, sym, subst, ap, ◌∙◌, arith, add-one}
use Rattle.std.proofs.lemmas.Bool.Decides.{nat_tests}
use Rattle.std.proofs.lemmas.Bool.{cases_Bool}
use Rattle.std.proofs.lemmas.List.{drop_all}
use Rattle.std.specs.Option.{option_map}
use Rattle.std.specs.Prelude.{Option, Some, None, is_some, slice_get, slice_index_or, nat_lt}
use Rattle.std.specs.Map.{values_of}
use Rattle.indexmap.specs.IndexMap.{set_value_at}
use Rattle.std.specs.FinMap as fin
use Rattle.std.specs.declared.cmp.Ordering.{Ordering}
use Rattle.std.specs.declared.cmp.Ordering.TheVariants.{Less, Equal, Greater}
use Rattle.hurd_creds.specs.declared.name.Name.{Name}
use Rattle.hurd_creds.specs.Names.{name_cmp, same_name}
use Rattle.hurd_creds.specs.NameMaps.{NameMap, keyed, place_by}
use Rattle.hurd_creds.specs.Weights.{count_list, one_if, weigh_list}
use Rattle.hurd_creds.specs.Counts.{counted}
use Rattle.hurd_creds.proofs.KeyedLaws.{keyed-nothing}
use Rattle.hurd_creds.proofs.NameLaws.{get_apart, get_here, insert_same, name_total, remove_apart, remove_here, same_map_by, same_name-itself, same_or_apart, tied-itself}
use Rattle.hurd_trans_iface.specs.Nodes.{is_listed}
use Rattle.hurd_trans_iface.specs.Meaning.{Meaning}
use Rattle.hurd_nodes.specs.declared.seat.Seat.{Seat}
use Rattle.hurd_nodes.specs.declared.seat.Site.{Site}
use Rattle.hurd_nodes.specs.Tables.{AreKept}
use Rattle.hurd_nodes.specs.Aims.{AreAims, aimed, listings}
use Rattle.hurd_nodes.specs.Held.{Seated, mean, mean_seat, seat_key, seat_value, seated_in, seats_of}
use Rattle.hurd_nodes.specs.Settle.{any_in, is_target}
use Rattle.hurd_nodes.specs.Shown.{ServerInfo, info_of, servers_of}
use Rattle.hurd_nodes.proofs.LookLaws.{all-seated}
use Rattle.hurd_nodes.proofs.PartLaws.{any_in-found, any_in-here, any_in-none, mapped-some, removed-is, same_bool}
use Rattle.hurd_nodes.proofs.SeatLaws.{seat-changed, seat-found}
use Rattle.hurd_nodes.proofs.SeatedLaws.{tables-set}
use Rattle.hurd_nodes.proofs.StayLaws.{info-is}

-- lists of targets

-- from a place on, a list has the one there that passes, and those after it
next_one : (p : Name → Bool) (ns : List Name) (i : ℕ) (d : Name) → i < length ns → count_list p (drop i ns) ≡ one_if (p (slice_index_or ns i d)) + count_list p (drop (suc i) ns)
next_one p [] i d below = absurd (omega arith)
next_one p (m ∷ ns) zero d below = refl
next_one p (m ∷ ns) (suc i) d below = next_one p ns i d (omega arith)

-- from a place on, a list names a node by the one there, and from the next place on
pub listings-next : (n : Name) (ns : List Name) (i : ℕ) (d : Name) → i < length ns → listings n (drop i ns) ≡ one_if (same_name n (slice_index_or ns i d)) + listings n (drop (i + 1) ns)
listings-next n ns i d below = rw (add-one i) (next_one (same_name n) ns i d below)

-- from its end on, a list names nothing
pub listings-end : (n : Name) (ns : List Name) (i : ℕ) → length ns ≤ i → listings n (drop i ns) ≡ 0
listings-end n ns i end = ap (listings n) (drop_all i ns end)

-- what is at a place of a list is named from there on
pub listings_least : (ns : List Name) (i : ℕ) (d : Name) → i < length ns → 1 ≤ listings (slice_index_or ns i d) (drop i ns)
listings_least ns i d below =
    let n = slice_index_or ns i d in
    let next = listings-next n ns i d below in
    let one = ap one_if (same_name-itself n) in
    omega arith

-- a test counts for one at most
one_most : (b : Bool) → one_if b ≤ 1
one_most true = omega arith
one_most false = omega arith

-- a list names a node no more often than it is long
pub listings_most : (n : Name) (ns : List Name) → listings n ns ≤ length ns
listings_most n [] = omega arith
listings_most n (m ∷ ns) = omega (arith, one_most (same_name n m), listings_most n ns)

-- one of two numbers is more than 0 where their sum is
either_weighed : (a b : ℕ) → (nat_lt 0 a || nat_lt 0 b) ≡ nat_lt 0 (a + b)
either_weighed zero b = ap (λ n. nat_lt 0 n) (omega arith)
either_weighed (suc a) b = grind (arith, nat_tests)

-- a test holds where it counts for something
one_told : (b : Bool) → b ≡ nat_lt 0 (one_if b)
one_told true = refl
one_told false = refl

-- a list names a node exactly where it names it at least once
pub listed_counted : (n : Name) (ns : List Name) → is_listed n ns ≡ nat_lt 0 (listings n ns)
listed_counted n [] = refl
listed_counted n (m ∷ ns) = rw (listed_counted n ns) (ap (λ (b : Bool). b || nat_lt 0 (listings n ns)) (one_told (same_name n m)) ∙ either_weighed (one_if (same_name n m)) (listings n ns))

-- maps by name

module _ {X : Type 0} (W : Name × X → ℕ) where
  -- what the entries of a map weigh together
  abbrev weigh : NameMap X → ℕ
  weigh m = weigh_list W (fin.entries m)

  -- an entry that is put into a list that lacks its name weighs besides the others
  put_weighs : (k : Name) (v : X) (es : List (Name × X)) → fin.find name_cmp k es ≡ None → weigh_list W (fin.put name_cmp k v es) ≡ W (k, v) + weigh_list W es
  put_weighs k v [] none = refl
  put_weighs k v (e ∷ es) none = go (name_cmp k e.0) refl (put_weighs k v es)
    where
      go : (r : Ordering) → name_cmp k e.0 ≡ r → (fin.find name_cmp k es ≡ None → weigh_list W (fin.put name_cmp k v es) ≡ W (k, v) + weigh_list W es) → weigh_list W (fin.put name_cmp k v (e ∷ es)) ≡ W (k, v) + weigh_list W (e ∷ es)
      go Less is ih = rw is refl
      go Equal is ih = absurd (let c : Some e.1 ≡ None = rw is at none in cc)
      go Greater is ih = let rest = ih (rw is at none) in rw is (omega (arith, rest))

  -- what is put in where nothing stood weighs besides the others
  insert_weighs : (m : NameMap X) (k : Name) (v : X) → fin.get m k ≡ None → weigh (fin.insert m k v) ≡ W (k, v) + weigh m
  insert_weighs m k v none = ap (weigh_list W) (fin.entries-insert name_total m k v) ∙ put_weighs k v (fin.entries m) (sym (fin.get-entries m k) ∙ none)

  -- to put a thing in is to take away what is there, and then to put it in
  put_anew : (m : NameMap X) (k : Name) (v : X) → fin.insert m k v ≡ fin.insert (fin.remove m k) k v
  put_anew m k v = same_map_by _ _ (λ q. go q (same_or_apart q k))
    where
      go : (q : Name) → (q ≡ k) ⊎ (q ≢ k) → fin.get (fin.insert m k v) q ≡ fin.get (fin.insert (fin.remove m k) k v) q
      go q (inl e) = rw e (get_here m k v ∙ sym (get_here (fin.remove m k) k v))
      go q (inr apart) = get_apart m k v q apart ∙ sym (get_apart (fin.remove m k) k v q apart ∙ remove_apart m k q apart)

  -- with a thing put in, a map weighs that and all that has another name
  put_over : (m : NameMap X) (k : Name) (v : X) → weigh (fin.insert m k v) ≡ W (k, v) + weigh (fin.remove m k)
  put_over m k v = ap weigh (put_anew m k v) ∙ insert_weighs (fin.remove m k) k v (remove_here m k)

  -- a map weighs what is under a name, and what is left without it
  remove_weighs : (m : NameMap X) (k : Name) (v : X) → fin.get m k ≡ Some v → weigh m ≡ W (k, v) + weigh (fin.remove m k)
  remove_weighs m k v is = ap weigh (sym (insert_same m k v is)) ∙ put_over m k v

  -- without what is under a name, a map is shorter by one
  removed_len : (m : NameMap X) (k : Name) (v : X) → fin.get m k ≡ Some v → fin.len m ≡ fin.len (fin.remove m k) + 1
  removed_len m k v is =
      let less = fin.remove m k in
      ap fin.len (sym (insert_same m k v is) ∙ put_anew m k v)
      ∙ fin.len-insert name_total less k v
      ∙ ap (λ (o : Option X). cond (is_some o) (fin.len less) (fin.len less + 1)) (remove_here m k)

  -- a map that is not empty has something
  first_of : (m : NameMap X) (es : List (Name × X)) (k : ℕ) → fin.entries m ≡ es → length es ≡ suc k → (n : Name) × (x : X) × (fin.get m n ≡ Some x)
  first_of m [] k is len = absurd (cc)
  first_of m (e ∷ es) k is len = (e.0, e.1, fin.get-entries m e.0 ∙ ap (fin.find name_cmp e.0) is ∙ ap (λ b. cond b (Some e.1) (fin.find name_cmp e.0 es)) (tied-itself e.0))

  -- no entries weigh nothing
  no_entries : (es : List (Name × X)) → length es ≡ 0 → weigh_list W es ≡ 0
  no_entries [] none = refl
  no_entries (e ∷ es) none = absurd (omega arith)

  -- where each entry weighs b at most, all weigh at most b times the length of the map
  weigh_most : (b k : ℕ) (m : NameMap X) → fin.len m ≡ k → ((n : Name) (x : X) → fin.get m n ≡ Some x → W (n, x) ≤ b) → weigh m ≤ k * b
  weigh_most b zero m is each = omega (arith, no_entries (fin.entries m) (sym (fin.len-entries m) ∙ is))
  weigh_most b (suc k) m is each =
      let f = first_of m (fin.entries m) k refl (sym (fin.len-entries m) ∙ is) in
      let less = removed_len m f.0 f.1 f.2 in
      let one = each f.0 f.1 f.2 in
      let parts = remove_weighs m f.0 f.1 f.2 in
      let rest = weigh_most b k (fin.remove m f.0) (omega arith) (λ n x there. each n x (removed-is m f.0 n x there).1) in
      omega arith

  -- something in a map passes exactly where the map weighs anything
  weigh_told : (p : Name → X → Bool) → ((n : Name) (x : X) → p n x ≡ nat_lt 0 (W (n, x))) → (m : NameMap X) → any_in p m ≡ nat_lt 0 (weigh m)
  weigh_told p same m = elim (cases_Bool (any_in p m)) [
    | inl some ↦
        let f = any_in-found p m some in
        some ∙ sym (more (W (f.name, f.item)) (weigh (fin.remove m f.name)) (weigh m) (remove_weighs m f.name f.item f.is) (sym (same f.name f.item) ∙ f.holds))
    | inr none ↦
        let nothing = weigh_most 0 (fin.len m) m refl (λ n x is. least (W (n, x)) (sym (same n x) ∙ any_in-none p m none n x is)) in
        none ∙ ap (nat_lt 0) (nought (fin.len m) (weigh m) nothing)
  ]
    where
      more : (a b w : ℕ) → w ≡ a + b → nat_lt 0 a ≡ true → nat_lt 0 w ≡ true
      more a b w is some = grind (arith, nat_tests)

      least : (a : ℕ) → nat_lt 0 a ≡ false → a ≤ 0
      least a none = grind (arith, nat_tests)

      nought : (k w : ℕ) → w ≤ k * 0 → 0 ≡ w
      nought k w le = omega arith

-- servers that come and go

module _ {S : Type 0} (seats : NameMap (Seated S)) (s : Name) (e : Seated S) where
  -- how often a server aims at a node
  abbrev aims : Name → Name × Seated S → ℕ
  aims n x = listings n x.1.targets

  -- a server came, and its targets were counted more
  pub aims-more : (es fs : List (Name × ℕ)) → fin.get seats s ≡ None → AreAims es seats → ((n : Name) → counted fs n ≡ counted es n + listings n e.targets) → AreAims fs (fin.insert seats s e)
  unfolding aimed
  aims-more es fs none are more n = omega (arith, insert_weighs (aims n) seats s e none, are n, more n)

  -- a server went, and its targets were counted less
  pub aims-less : (es fs : List (Name × ℕ)) → fin.get seats s ≡ Some e → AreAims es seats → ((n : Name) → counted fs n + listings n e.targets ≡ counted es n) → AreAims fs (fin.remove seats s)
  unfolding aimed
  aims-less es fs is are less n = omega (arith, remove_weighs (aims n) seats s e is, are n, less n)

  -- a server changed, but its targets are the same: so are the counts
  pub aims-kept : (es : List (Name × ℕ)) (f : Seated S) → fin.get seats s ≡ Some e → f.targets ≡ e.targets → AreAims es seats → AreAims es (fin.insert seats s f)
  unfolding aimed
  aims-kept es f is same are n = omega (arith, remove_weighs (aims n) seats s e is, put_over (aims n) seats s f, ap (listings n) same, are n)

  -- the targets of a server that is there are counted
  pub aims-held : (es : List (Name × ℕ)) → fin.get seats s ≡ Some e → AreAims es seats → (n : Name) → listings n e.targets ≤ counted es n
  unfolding aimed
  aims-held es is are n = omega (arith, remove_weighs (aims n) seats s e is, are n)

-- where there is no server, nothing is counted
pub aims-none : (S : Type 0) → AreAims [] (fin.empty {X = Seated S} {R = name_cmp})
unfolding aimed
aims-none S n = sym (no_entries (λ (x : Name × Seated S). listings n x.1.targets) (fin.entries (fin.empty {R = name_cmp})) (sym (fin.len-entries (fin.empty {R = name_cmp})) ∙ fin.len-empty name_cmp (Seated S)))

-- where the only server aims at nothing, nothing is counted
pub aims-alone : {S : Type 0} (s : Name) (e : Seated S) → e.targets ≡ [] → AreAims [] (fin.insert (fin.empty {R = name_cmp}) s e)
aims-alone {S} s e aimless = aims-more (fin.empty {R = name_cmp}) s e [] [] (fin.get-empty name_cmp s) (aims-none S) (λ n. omega (arith, ap (listings n) aimless))

-- targets

-- a test of what the things of a map come to is a test of the map
any_mapped : {X Y : Type 0} (p : Name → X → Bool) (q : Name → Y → Bool) (g : X → Y) (a : NameMap X) (b : NameMap Y) → ((n : Name) → fin.get b n ≡ option_map g (fin.get a n))
    → ((n : Name) (x : X) → p n x ≡ q n (g x)) → any_in p a ≡ any_in q b
any_mapped p q g a b is same = same_bool _ _
    (λ h.
    let k = any_in-found p a h in
    any_in-here q b k.name (g k.item) (is k.name ∙ ap (option_map g) k.is) (sym (same k.name k.item) ∙ k.holds))
    (λ h.
    let k = any_in-found q b h in
    let x = mapped-some g (fin.get a k.name) k.item (sym (is k.name) ∙ k.is) in
    any_in-here p a k.name x.0 x.1 (same k.name x.0 ∙ ap (q k.name) x.2 ∙ k.holds))

-- to map twice is to map once by both
mapped_twice : {X Y Z : Type 0} (f : X → Y) (g : Y → Z) (o : Option X) → option_map g (option_map f o) ≡ option_map (λ x. g (f x)) o
mapped_twice f g None = refl
mapped_twice f g (Some x) = refl

-- whether a node is a target, as the seats tell it
target_told : {S : Type 0} (f : S → Meaning) (seats : NameMap (Seated S)) (n : Name) → any_in (λ (s : Name) (e : Seated S). is_listed n e.targets) seats ≡ is_target (servers_of (mean f seats)) n
target_told {S} f seats n =
    any_mapped (λ (s : Name) (e : Seated S). is_listed n e.targets) (λ (s : Name) (i : ServerInfo). is_listed n i.targets) (λ (e : Seated S). info_of (mean_seat f e)) seats (servers_of (mean f seats))
    (λ s. info-is f seats s ∙ mapped_twice (mean_seat f) info_of (fin.get seats s)) (λ s e. refl)

-- a node is a target exactly where it is counted
pub aims-counted : {S : Type 0} (f : S → Meaning) (seats : NameMap (Seated S)) (es : List (Name × ℕ)) → AreAims es seats → (n : Name) → nat_lt 0 (counted es n) ≡ is_target (servers_of (mean f seats)) n
unfolding aimed
aims-counted {S} f seats es are n =
    ap (nat_lt 0) (are n)
    ∙ sym (weigh_told (λ (x : Name × Seated S). listings n x.1.targets) (λ (s : Name) (e : Seated S). is_listed n e.targets) (λ s e. listed_counted n e.targets) seats)
    ∙ target_told f seats n

-- counts fit

-- a server has fewer than 2^64 targets
abbrev AreFew : {S : Type 0} → Name × Seat S → Type 0
AreFew x = length x.1.targets.items ≤ 18446744073709551615

-- each seat has no more targets than memory can hold
targets_few : {S : Type 0} (x : Name × Seat S) → AreFew x
targets_few x = omega (arith, x.1.targets.ok.0, x.1.targets.ok.1, x.1.targets.small)

-- one longer at most
one_longer : (b : Bool) (k j : ℕ) → k ≤ j → cond b k (k + 1) ≤ suc j
one_longer true k j le = omega arith
one_longer false k j le = omega arith

-- there are no more servers than the list is long
seats_few : {S : Type 0} (ss : List (Name × Seat S)) → fin.len (seats_of ss) ≤ length ss
unfolding seats_of keyed
seats_few {S} [] = omega (arith, fin.len-empty name_cmp (Seated S))
seats_few (x ∷ ss) = rw (fin.len-insert name_total (seats_of ss) x.0 (seated_in x)) (one_longer (fin.contains_key (seats_of ss) x.0) (fin.len (seats_of ss)) (length ss) (seats_few ss))

-- each server that is there aims at a node fewer than 2^64 times
listings_few : {S : Type 0} (ss : List (Name × Seat S)) (n s : Name) (e : Seated S) → fin.get (seats_of ss) s ≡ Some e → listings n e.targets ≤ 18446744073709551615
listings_few ss n s e is =
    let x = all-seated AreFew ss (λ i d below. targets_few (slice_index_or ss i d)) s e is in
    let same = ap (λ (e : Seated _). length e.targets) x.1 in
    omega (arith, listings_most n e.targets, same, x.2)

-- with one list of targets more, the counts still fit
pub aims-fit : {S : Type 0} (ss : List (Name × Seat S)) (es : List (Name × ℕ)) → AreAims es (seats_of ss) → length ss ≤ 18446744073709551615
    → (ts : List Name) → length ts ≤ 18446744073709551615 → (n : Name) → counted es n + listings n ts ≤ 340282366920938463463374607431768211455
unfolding aimed
aims-fit {S} ss es are few ts short n =
    let most = weigh_most (λ (x : Name × Seated S). listings n x.1.targets) 18446744073709551615 (fin.len (seats_of ss)) (seats_of ss) refl (listings_few ss n) in
    omega (arith, most, seats_few ss, are n, listings_most n ts, few, short)

-- where the first server aims at nothing, nothing is counted
pub aims-first : {S : Type 0} (s : Name) (e : Seated S) → e.targets ≡ [] → AreAims [] (fin.insert (seats_of []) s e)
unfolding seats_of
aims-first {S} s e none = subst (λ (m : NameMap (Seated S)). AreAims [] (fin.insert m s e)) (sym (keyed-nothing seat_key seated_in)) (aims-alone s e none)

-- of a server that isn't there nothing goes
pub aims-absent : {S : Type 0} (seats : NameMap (Seated S)) (s : Name) (es : List (Name × ℕ)) → fin.get seats s ≡ None → AreAims es seats → AreAims es (fin.remove seats s)
aims-absent {S} seats s es none counts = subst (λ (m : NameMap (Seated S)). AreAims es m) (sym same) counts
  where
    same : fin.remove seats s ≡ seats
    same = same_map_by _ _ (λ q. elim (same_or_apart q s) [
      | inl here ↦ ap (fin.get (fin.remove seats s)) here ∙ remove_here seats s ∙ sym (ap (fin.get seats) here ∙ none)
      | inr apart ↦ remove_apart seats s q apart
    ])

-- with another box in a seat all is kept
pub kept-set : {S : Type 0} (sites : List (Name × Site)) (ss : List (Name × Seat S)) (es : List (Name × ℕ)) (k : ℕ) (s : Name) (i : ℕ) (x : Seat S) (w : S)
    → Some i ≡ place_by seat_key s ss → slice_get (values_of ss) i ≡ Some x → AreKept sites ss es k → AreKept sites (set_value_at ss i (record x { server = w })) es k
kept-set {S} sites ss es k s i x w at read kept =
    let y : Seat S = record x { server = w } in
    record {
      tables = tables-set sites ss k i x w read kept.tables;
      aims = subst (λ (m : NameMap (Seated S)). AreAims es m) (sym (seat-changed ss s i x at read y)) (aims-kept (seats_of ss) s (seat_value x) es (seat_value y) (seat-found ss s i x at read) refl kept.aims);
    }
