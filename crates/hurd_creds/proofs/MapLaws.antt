-- What a map with a function at each value has.
use Rattle.std.proofs.Common.{◌≡◌, ◌≢◌, ◌⊎◌, inl, inr, List, [], ◌∷◌, Bool, true, false, cond, map, refl, ap, sym, ◌∙◌}
use Rattle.std.specs.Prelude.{Option, Some, None}
use Rattle.std.specs.Option.{option_map}
use Rattle.std.specs.Ordering.{eq_by_cmp}
use Rattle.std.specs.FinMap as fin
use Rattle.hurd_creds.specs.Names.{name_cmp}
use Rattle.hurd_creds.specs.NameMaps.{NameMap, edit, map_values}
use Rattle.hurd_creds.specs.declared.name.Name.{Name}
use Rattle.hurd_creds.proofs.NameLaws.{name_total, same_map_by, same_or_apart, edit_here, edit_apart}

module _ {A B : Type 0} (f : A → B) where
  option_map-cond : (b : Bool) (x : A) (o : Option A) → option_map f (cond b (Some x) o) ≡ cond b (Some (f x)) (option_map f o)
  option_map-cond true x o = refl
  option_map-cond false x o = refl

  option_map-without : (b : Bool) (o : Option A) → option_map f (cond b None o) ≡ cond b None (option_map f o)
  option_map-without true o = refl
  option_map-without false o = refl

  find-map : (es : List (Name × A)) (q : Name) → fin.find name_cmp q (map (λ (e : Name × A). (e.0, f e.1)) es) ≡ option_map f (fin.find name_cmp q es)
  find-map [] q = refl
  find-map (e ∷ es) q =
      ap (cond (eq_by_cmp name_cmp q e.0) (Some (f e.1))) (find-map es q)
      ∙ sym (option_map-cond (eq_by_cmp name_cmp q e.0) e.1 (fin.find name_cmp q es))

  pub get-map_values : (m : NameMap A) (q : Name) → fin.get (map_values f m) q ≡ option_map f (fin.get m q)
  unfolding map_values
  get-map_values m q =
      fin.get-from_entries name_total _ q ∙ find-map (fin.entries m) q ∙ ap (option_map f) (sym (fin.get-entries m q))

  pub map_values-insert : (m : NameMap A) (n : Name) (x : A) → map_values f (fin.insert m n x) ≡ fin.insert (map_values f m) n (f x)
  map_values-insert m n x = same_map_by _ _ (λ q.
      get-map_values (fin.insert m n x) q ∙ ap (option_map f) (fin.get-insert name_total m n x q) ∙ option_map-cond (eq_by_cmp name_cmp q n) x (fin.get m q)
      ∙ sym (fin.get-insert name_total (map_values f m) n (f x) q ∙ ap (cond (eq_by_cmp name_cmp q n) (Some (f x))) (get-map_values m q)))

  pub map_values-remove : (m : NameMap A) (n : Name) → map_values f (fin.remove m n) ≡ fin.remove (map_values f m) n
  map_values-remove m n = same_map_by _ _ (λ q.
      get-map_values (fin.remove m n) q ∙ ap (option_map f) (fin.get-remove name_total m n q) ∙ option_map-without (eq_by_cmp name_cmp q n) (fin.get m q)
      ∙ sym (fin.get-remove name_total (map_values f m) n q ∙ ap (cond (eq_by_cmp name_cmp q n) None) (get-map_values m q)))

  pub map_values-empty : map_values f fin.empty ≡ fin.empty
  map_values-empty = same_map_by _ _ (λ q. get-map_values fin.empty q ∙ ap (option_map f) (fin.get-empty name_cmp q) ∙ sym (fin.get-empty name_cmp q))

  option_map-kept : (g : A → A) → ((x : A) → f (g x) ≡ f x) → (o : Option A) → option_map f (option_map g o) ≡ option_map f o
  option_map-kept g kept None = refl
  option_map-kept g kept (Some x) = ap (λ (y : B). Some y) (kept x)

  -- an edit that keeps what the function tells isn't seen through it
  pub map_values-edit_kept : (n : Name) (g : A → A) → ((x : A) → f (g x) ≡ f x) → (m : NameMap A) → map_values f (edit n g m) ≡ map_values f m
  map_values-edit_kept n g kept m = same_map_by _ _ (λ q. go q (same_or_apart q n))
    where
      go : (q : Name) → (q ≡ n) ⊎ (q ≢ n) → fin.get (map_values f (edit n g m)) q ≡ fin.get (map_values f m) q
      go q (inl e) = rw e (get-map_values (edit n g m) n ∙ ap (option_map f) (edit_here m n g) ∙ option_map-kept g kept (fin.get m n) ∙ sym (get-map_values m n))
      go q (inr apart) = get-map_values (edit n g m) q ∙ ap (option_map f) (edit_apart m n g q apart) ∙ sym (get-map_values m q)
