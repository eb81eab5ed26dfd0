-- What a map with other names has, what it becomes by a change, and what its values come to in all.
use Rattle.std.proofs.Common.{◌≡◌, inl, inr, ℕ, ◌&&◌, Bool, true, false, cond, List, [], ◌∷◌, Option, Some, None, map, refl, sym, ap, ◌∙◌, arith}
use Rattle.std.specs.Prelude.{T}
use Rattle.std.specs.Option.{option_map}
use Rattle.std.specs.List.{sum_by}
use Rattle.std.specs.declared.cmp.Ordering.{Ordering}
use Rattle.std.specs.declared.cmp.Ordering.TheVariants.{Less, Equal, Greater}
use Rattle.std.specs.Ordering.{eq_by_cmp, is_eq, is_lt}
use Rattle.std.specs.FinMap as fin
use Rattle.std.specs.FinMap.Entries.{below_all}
use Rattle.std.specs.FinMap.{is_sorted}
use Rattle.std.proofs.lemmas.List.Sums.{sum_by-cons}
unfoldable use Rattle.hurd_creds.specs.NameMaps.{keyed}
use Rattle.hurd_creds.proofs.KeyedLaws.{get-keyed}
use Rattle.hurd_creds.proofs.NameLaws.{equal_if_tied, name_tied, same_map_by, same_name-apart, same_name-itself, same_or_apart, name_total, get_here, get_apart, remove_here, remove_apart, edit_here, edit_apart}
use Rattle.hurd_creds.proofs.Retained.{get-retained, was_retained}
use Rattle.hurd_creds.proofs.Sums.{of_found, total, total_insert, total_none}
use Rattle.hurd_machine.proofs.Common.{Name, NameMap, edit, name_cmp, same_name}
use Rattle.hurd_machine.specs.Renamed.{OtherNames, map_renamed}

module _ (f : OtherNames) where
  -- two names are one exactly where their other names are
  pub same_name-renamed : (a b : Name) → same_name (f.to a) (f.to b) ≡ same_name a b
  same_name-renamed a b = elim (same_or_apart a b) [
    | inl e ↦ rw e (same_name-itself (f.to b) ∙ sym (same_name-itself b))
    | inr apart ↦ same_name-apart (f.to a) (f.to b) (λ e. apart (f.apart a b e)) ∙ sym (same_name-apart a b apart)
  ]

  tied-renamed : (a b : Name) → eq_by_cmp name_cmp (f.to a) (f.to b) ≡ eq_by_cmp name_cmp a b
  tied-renamed a b = name_tied (f.to a) (f.to b) ∙ same_name-renamed a b ∙ sym (name_tied a b)

  module _ {X Y : Type 0} (g : X → Y) where
    abbrev pair : Name × X → Name × Y
    pair e = (f.to e.0, g e.1)

    found : (b : Bool) (x : X) (o : Option X) → cond b (Some (g x)) (option_map g o) ≡ option_map g (cond b (Some x) o)
    found true x o = refl
    found false x o = refl

    find-renamed : (es : List (Name × X)) (n : Name) → fin.find name_cmp (f.to n) (map pair es) ≡ option_map g (fin.find name_cmp n es)
    find-renamed [] n = refl
    find-renamed (e ∷ es) n = rw (tied-renamed n e.0, find-renamed es n) (found (eq_by_cmp name_cmp n e.0) e.1 (fin.find name_cmp n es))

    -- what is at another name
    pub get-renamed : (m : NameMap X) (n : Name) → fin.get (map_renamed f.to g m) (f.to n) ≡ option_map g (fin.get m n)
    unfolding map_renamed
    get-renamed m n = get-keyed (λ (e : Name × X). f.to e.0) (λ (e : Name × X). g e.1) (fin.entries m) (f.to n) ∙ find-renamed (fin.entries m) n ∙ ap (option_map g) (sym (fin.get-entries m n))

    find-origin : (es : List (Name × X)) (q : Name) (y : Y) → fin.find name_cmp q (map pair es) ≡ Some y → (n : Name) × (f.to n ≡ q)
    find-origin [] q y is = absurd (cc)
    find-origin (e ∷ es) q y is = go (eq_by_cmp name_cmp q (f.to e.0)) refl (find-origin es q y) is
      where
        go : (b : Bool) → eq_by_cmp name_cmp q (f.to e.0) ≡ b → (fin.find name_cmp q (map pair es) ≡ Some y → (n : Name) × (f.to n ≡ q))
            → cond b (Some (g e.1)) (fin.find name_cmp q (map pair es)) ≡ Some y → (n : Name) × (f.to n ≡ q)
        go true t rest here = (e.0, sym (equal_if_tied q (f.to e.0) t))
        go false t rest there = rest there

    -- what is there is at one of the other names
    pub origin : (m : NameMap X) (q : Name) (y : Y) → fin.get (map_renamed f.to g m) q ≡ Some y → (n : Name) × (f.to n ≡ q)
    unfolding map_renamed
    origin m q y is = find-origin (fin.entries m) q y (sym (get-keyed (λ (e : Name × X). f.to e.0) (λ (e : Name × X). g e.1) (fin.entries m) q) ∙ is)

    -- a map that answers so, and has nothing at any more names, is the one with other names
    pub is_renamed : (m : NameMap X) (k : NameMap Y) → ((n : Name) → fin.get k (f.to n) ≡ option_map g (fin.get m n)) → ((q : Name) (y : Y) → fin.get k q ≡ Some y → (n : Name) × (f.to n ≡ q))
        → map_renamed f.to g m ≡ k
    is_renamed m k alike named = same_map_by _ _ (λ q. go q (fin.get (map_renamed f.to g m) q) (fin.get k q) refl refl)
      where
        here : (n : Name) → fin.get (map_renamed f.to g m) (f.to n) ≡ fin.get k (f.to n)
        here n = get-renamed m n ∙ sym (alike n)

        at : (q : Name) → (n : Name) × (f.to n ≡ q) → fin.get (map_renamed f.to g m) q ≡ fin.get k q
        at q n = rw (← n.1) (here n.0)

        go : (q : Name) (o p : Option Y) → fin.get (map_renamed f.to g m) q ≡ o → fin.get k q ≡ p → fin.get (map_renamed f.to g m) q ≡ fin.get k q
        go q None None a b = a ∙ sym b
        go q (Some y) p a b = at q (origin m q y a)
        go q None (Some y) a b = at q (named q y b)

    -- after a change

    pub insert-renamed : (m : NameMap X) (n : Name) (x : X) → map_renamed f.to g (fin.insert m n x) ≡ fin.insert (map_renamed f.to g m) (f.to n) (g x)
    insert-renamed m n x = is_renamed (fin.insert m n x) _ (λ q. elim (same_or_apart q n) [
      | inl e ↦ rw e (get_here (map_renamed f.to g m) (f.to n) (g x) ∙ ap (option_map g) (sym (get_here m n x)))
      | inr a ↦ get_apart (map_renamed f.to g m) (f.to n) (g x) (f.to q) (λ e. a (f.apart q n e)) ∙ get-renamed m q ∙ ap (option_map g) (sym (get_apart m n x q a))
    ]) (λ q y is. elim (same_or_apart q (f.to n)) [
      | inl e ↦ (n, sym e)
      | inr a ↦ origin m q y (sym (get_apart (map_renamed f.to g m) (f.to n) (g x) q a) ∙ is)
    ])

    pub remove-renamed : (m : NameMap X) (n : Name) → map_renamed f.to g (fin.remove m n) ≡ fin.remove (map_renamed f.to g m) (f.to n)
    remove-renamed m n = is_renamed (fin.remove m n) _ (λ q. elim (same_or_apart q n) [
      | inl e ↦ rw e (remove_here (map_renamed f.to g m) (f.to n) ∙ ap (option_map g) (sym (remove_here m n)))
      | inr a ↦ remove_apart (map_renamed f.to g m) (f.to n) (f.to q) (λ e. a (f.apart q n e)) ∙ get-renamed m q ∙ ap (option_map g) (sym (remove_apart m n q a))
    ]) (λ q y is. elim (same_or_apart q (f.to n)) [
      | inl e ↦ (n, sym e)
      | inr a ↦ origin m q y (sym (remove_apart (map_renamed f.to g m) (f.to n) q a) ∙ is)
    ])

    edited : (h : X → X) (k : Y → Y) → ((x : X) → k (g x) ≡ g (h x)) → (o : Option X) → option_map k (option_map g o) ≡ option_map g (option_map h o)
    edited h k same None = refl
    edited h k same (Some x) = ap (λ (y : Y). Some y) (same x)

    pub edit-renamed : (m : NameMap X) (n : Name) (h : X → X) (k : Y → Y) → ((x : X) → k (g x) ≡ g (h x)) → map_renamed f.to g (edit n h m) ≡ edit (f.to n) k (map_renamed f.to g m)
    edit-renamed m n h k same = is_renamed (edit n h m) _ (λ q. elim (same_or_apart q n) [
      | inl e ↦ rw e (edit_here (map_renamed f.to g m) (f.to n) k ∙ ap (option_map k) (get-renamed m n) ∙ edited h k same (fin.get m n) ∙ ap (option_map g) (sym (edit_here m n h)))
      | inr a ↦ edit_apart (map_renamed f.to g m) (f.to n) k (f.to q) (λ e. a (f.apart q n e)) ∙ get-renamed m q ∙ ap (option_map g) (sym (edit_apart m n h q a))
    ]) (λ q y is. elim (same_or_apart q (f.to n)) [
      | inl e ↦ (n, sym e)
      | inr a ↦ origin m q y (sym (edit_apart (map_renamed f.to g m) (f.to n) k q a) ∙ is)
    ])

    kept : (b : Bool) (o : Option X) → cond b (option_map g o) None ≡ option_map g (cond b o None)
    kept true o = refl
    kept false o = refl

    -- where names are kept by a test that holds of other names alike
    pub retain_keys-renamed : (m : NameMap X) (p q : Name → Bool) → ((n : Name) → q (f.to n) ≡ p n) → map_renamed f.to g (fin.retain_keys m p) ≡ fin.retain_keys (map_renamed f.to g m) q
    retain_keys-renamed m p q same = is_renamed (fin.retain_keys m p) _ (λ n.
        get-retained (map_renamed f.to g m) q (f.to n) ∙ rw (same n, get-renamed m n) (kept (p n) (fin.get m n)) ∙ ap (option_map g) (sym (get-retained m p n)))
        (λ n y is. origin m n y (was_retained (map_renamed f.to g m) q n y is).0)

    -- where each value weighs as much, all of them do

    first_of_two : (a b : Bool) → T (a && b) → T a
    first_of_two true b h = tt
    first_of_two false b h = absurd h

    second_of_two : (a b : Bool) → T (a && b) → T b
    second_of_two true b h = h
    second_of_two false b h = absurd h

    not_tied : (o : Ordering) → T (is_lt o) → is_eq o ≡ false
    not_tied Less h = refl
    not_tied Equal h = absurd h
    not_tied Greater h = absurd h

    find-below : (q : Name) (es : List (Name × X)) → T (below_all name_cmp q es) → fin.find name_cmp q es ≡ None
    find-below q [] h = refl
    find-below q (e ∷ es) h =
        ap (λ b. cond b (Some e.1) (fin.find name_cmp q es)) (not_tied (name_cmp q e.0) (first_of_two _ _ h)) ∙ find-below q es (second_of_two _ _ h)

    module _ (V : Y → ℕ) (W : X → ℕ) (same : (x : X) → V (g x) ≡ W x) where
      sum-renamed : (es : List (Name × X)) → T (is_sorted name_cmp es) → total V (fin.from_entries (map pair es)) ≡ sum_by W (map (λ (e : Name × X). e.1) es)
      sum-renamed [] h = total_none V fin.empty (λ k y is. let none = fin.get-empty {X = Y} name_cmp k in absurd (cc))
      sum-renamed (e ∷ es) h =
          let rest = sum-renamed es (second_of_two (below_all name_cmp e.0 es) (is_sorted name_cmp es) h) in
          let more = total_insert V (fin.from_entries (map pair es)) (f.to e.0) (g e.1) in
          let none : fin.get (fin.from_entries (map pair es)) (f.to e.0) ≡ None =
          fin.get-from_entries name_total (map pair es) (f.to e.0) ∙ find-renamed es e.0 ∙ ap (option_map g) (find-below e.0 es (first_of_two (below_all name_cmp e.0 es) (is_sorted name_cmp es) h)) in
          let zero_found : of_found V (fin.get (fin.from_entries (map pair es)) (f.to e.0)) ≡ 0 = ap (of_found V) none in
          let one = same e.1 in
          let all = sum_by-cons W e.1 (map (λ (d : Name × X). d.1) es) in
          omega (arith, rest, more, zero_found, one, all)

      pub total-renamed : (m : NameMap X) → total V (map_renamed f.to g m) ≡ total W m
      unfolding map_renamed keyed
      total-renamed m = sum-renamed (fin.entries m) (fin.entries_sorted m)
