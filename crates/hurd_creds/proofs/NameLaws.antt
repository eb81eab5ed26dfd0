-- Names are in a total order, two names that tie are one, and what a map by names has after a change.
use Rattle.std.proofs.Common.{◌≡◌, ◌≢◌, ◌⊎◌, inl, inr, ◌&&◌, ◌==◌, ℕ, Bool, true, false, cond, refl, ap, sym, subst, ◌∙◌, true≢false}
use Rattle.std.specs.Prelude.{Option, Some, None}
use Rattle.std.specs.Option.{option_map}
use Rattle.std.specs.Cmp.{IsEquivalence, IsTotalOrder, Equal-is, tied_itself, unsigned_tied}
use Rattle.std.specs.Ordering.{nat_cmp, ordering_then, is_eq, eq_by_cmp}
use Rattle.std.specs.declared.cmp.Ordering.{Ordering}
use Rattle.std.specs.declared.cmp.Ordering.TheVariants.{Less, Equal, Greater}
use Rattle.std.proofs.lemmas.Cmp.{on_total, then_total, nat_cmp_total}
use Rattle.std.proofs.lemmas.Map.Lookups.{exact_pairs, exact_unsigned}
use Rattle.std.specs.FinMap.{IsAntisymmetric, get, insert, remove, get-insert, get-remove, same_map}
use Rattle.hurd_creds.specs.Names.{name_cmp, name_of, same_name}
use Rattle.hurd_creds.specs.NameMaps.{NameMap, edit, put_back}
use Rattle.hurd_creds.specs.declared.name.Name.{Name}

pub name_total : IsTotalOrder name_cmp
unfolding name_cmp
name_total = then_total (on_total (λ (n : Name). n.task.0) nat_cmp_total) (on_total (λ (n : Name). n.count) nat_cmp_total)

pub name_exact : IsAntisymmetric name_cmp
unfolding name_cmp
name_exact a b h =
    ap (λ (p : ℕ × ℕ). name_of p.0 p.1)
    (exact_pairs nat_cmp nat_cmp exact_unsigned exact_unsigned (a.task.0, a.count) (b.task.0, b.count) h)

is_eq-then : (r s : Ordering) → is_eq (ordering_then r s) ≡ (is_eq r && is_eq s)
is_eq-then Less s = refl
is_eq-then Equal s = refl
is_eq-then Greater s = refl

pub name_tied : (a b : Name) → eq_by_cmp name_cmp a b ≡ same_name a b
unfolding name_cmp
name_tied a b =
    is_eq-then (nat_cmp a.task.0 b.task.0) (nat_cmp a.count b.count)
    ∙ ap (λ x. x && is_eq (nat_cmp a.count b.count)) (unsigned_tied a.task.0 b.task.0)
    ∙ ap (λ x. (a.task.0 == b.task.0) && x) (unsigned_tied a.count b.count)

-- a name ties with itself
pub tied-itself : (a : Name) → eq_by_cmp name_cmp a a ≡ true
tied-itself a = ap is_eq (tied_itself name_total a)

pub same_name-itself : (a : Name) → same_name a a ≡ true
same_name-itself a = sym (name_tied a a) ∙ tied-itself a

pub equal_if_tied : (a b : Name) → eq_by_cmp name_cmp a b ≡ true → a ≡ b
equal_if_tied a b h = name_exact a b ((Equal-is (name_cmp a b)).0 h)

pub equal_if_same : (a b : Name) → same_name a b ≡ true → a ≡ b
equal_if_same a b h = equal_if_tied a b (name_tied a b ∙ h)

pub apart_if_not_same : (a b : Name) → same_name a b ≡ false → a ≢ b
apart_if_not_same a b h e = true≢false (sym (same_name-itself a) ∙ subst (λ x. same_name a x ≡ false) (sym e) h)

pub tied-apart : (a b : Name) → a ≢ b → eq_by_cmp name_cmp a b ≡ false
tied-apart a b apart = go (eq_by_cmp name_cmp a b) refl
  where
    go : (r : Bool) → eq_by_cmp name_cmp a b ≡ r → r ≡ false
    go true e = absurd (apart (equal_if_tied a b e))
    go false e = refl

pub same_name-apart : (a b : Name) → a ≢ b → same_name a b ≡ false
same_name-apart a b apart = sym (name_tied a b) ∙ tied-apart a b apart

-- two names are one or they aren't
pub same_or_apart : (a b : Name) → (a ≡ b) ⊎ (a ≢ b)
same_or_apart a b = go (same_name a b) refl
  where
    go : (r : Bool) → same_name a b ≡ r → (a ≡ b) ⊎ (a ≢ b)
    go true e = inl (equal_if_same a b e)
    go false e = inr (apart_if_not_same a b e)

-- which of two names comes first doesn't matter
pub name_turned : (a b : Name) → same_name a b ≡ same_name b a
name_turned a b = elim (same_or_apart a b) [
  | inl e ↦ rw e refl
  | inr apart ↦ same_name-apart a b apart ∙ sym (same_name-apart b a (λ e. apart (sym e)))
]

-- a test for the same name tells names as well as any
pub names-alike : IsEquivalence same_name
names-alike = record { refl = same_name-itself; symm = name_turned; congr = λ a b c is. ap (λ (n : Name). same_name n c) (equal_if_same a b is) }

-- two maps that answer alike are equal
pub same_map_by : {X : Type 0} (m n : NameMap X) → ((q : Name) → get m q ≡ get n q) → m ≡ n
same_map_by m n alike = same_map name_total name_exact m n alike

module _ {X : Type 0} (m : NameMap X) (n : Name) where
  pub get_here : (x : X) → get (insert m n x) n ≡ Some x
  get_here x = get-insert name_total m n x n ∙ ap (λ b. cond b (Some x) (get m n)) (tied-itself n)

  pub get_apart : (x : X) (q : Name) → q ≢ n → get (insert m n x) q ≡ get m q
  get_apart x q apart = get-insert name_total m n x q ∙ ap (λ b. cond b (Some x) (get m q)) (tied-apart q n apart)

  pub remove_here : get (remove m n) n ≡ None
  remove_here = get-remove name_total m n n ∙ ap (λ b. cond b None (get m n)) (tied-itself n)

  pub remove_apart : (q : Name) → q ≢ n → get (remove m n) q ≡ get m q
  remove_apart q apart = get-remove name_total m n q ∙ ap (λ b. cond b None (get m q)) (tied-apart q n apart)

  put_here : (o : Option X) → get m n ≡ o → (f : X → X) → get (put_back n m (option_map f o)) n ≡ option_map f o
  put_here None e f = e
  put_here (Some x) e f = get_here (f x)

  pub edit_here : (f : X → X) → get (edit n f m) n ≡ option_map f (get m n)
  unfolding edit
  edit_here f = put_here (get m n) refl f

  put_apart : (o : Option X) (q : Name) → q ≢ n → get (put_back n m o) q ≡ get m q
  put_apart None q apart = refl
  put_apart (Some x) q apart = get_apart x q apart

  pub edit_apart : (f : X → X) (q : Name) → q ≢ n → get (edit n f m) q ≡ get m q
  unfolding edit
  edit_apart f q apart = put_apart (option_map f (get m n)) q apart

  -- to edit what is there is to put the changed value in its place
  pub edit_found : (f : X → X) (x : X) → get m n ≡ Some x → edit n f m ≡ insert m n (f x)
  unfolding edit
  edit_found f x is = ap (λ (o : Option X). put_back n m (option_map f o)) is

  -- an edit where nothing is there changes nothing
  pub edit_absent : (f : X → X) → get m n ≡ None → edit n f m ≡ m
  unfolding edit
  edit_absent f is = ap (λ (o : Option X). put_back n m (option_map f o)) is

  -- what is there already
  pub insert_same : (x : X) → get m n ≡ Some x → insert m n x ≡ m
  insert_same x is = same_map_by (insert m n x) m (λ q. go q (same_or_apart q n))
    where
      go : (q : Name) → (q ≡ n) ⊎ (q ≢ n) → get (insert m n x) q ≡ get m q
      go q (inl e) = rw e (get_here x ∙ sym is)
      go q (inr apart) = get_apart x q apart

-- of two values put in at one name the last counts
pub insert-insert : {X : Type 0} (m : NameMap X) (n : Name) (x y : X) → insert (insert m n x) n y ≡ insert m n y
insert-insert {X} m n x y = same_map_by _ _ (λ q. go q (same_or_apart q n))
  where
    go : (q : Name) → (q ≡ n) ⊎ (q ≢ n) → get (insert (insert m n x) n y) q ≡ get (insert m n y) q
    go q (inl e) = rw e (get_here (insert m n x) n y ∙ sym (get_here m n y))
    go q (inr apart) = get_apart (insert m n x) n y q apart ∙ get_apart m n x q apart ∙ sym (get_apart m n y q apart)
