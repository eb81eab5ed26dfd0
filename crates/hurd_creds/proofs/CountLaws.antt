-- What is counted after a name was counted more often, or less.
use Rattle.std.proofs.Common.{◌≡◌, refl, inl, inr, ℕ, ◌+◌, ◌<◌, List, Bool, true, cond, if◌then◌else◌, sym, ap, ◌∙◌, arith}
use Rattle.std.specs.Prelude.{Option, None, Some, nat_lt}
use Rattle.std.specs.Option.{unwrap_or}
use Rattle.std.specs.Map.{lookup, lookup_key}
use Rattle.std.proofs.lemmas.Bool.Decides.{nat_tests}
use Rattle.std.proofs.lemmas.Map.Made.{lookup_key_passes}
use Rattle.hurd_creds.specs.Counts.{counted, or_none}
use Rattle.hurd_creds.specs.Names.{same_name}
use Rattle.hurd_creds.specs.Weights.{if_so}
use Rattle.hurd_creds.specs.declared.name.Name.{Name}
use Rattle.hurd_creds.proofs.NameLaws.{equal_if_same, same_name-itself, same_name-apart, same_or_apart}

-- a count that is lent: none is nothing
pub lent-count : (o : Option ℕ) → unwrap_or o 0 ≡ or_none o
lent-count None = refl
lent-count (Some k) = refl

-- a name that is found is the one that was looked for
pub name-found : {X : Type 0} (n k : Name) (es : List (Name × X)) → Some k ≡ lookup_key (same_name n) es → n ≡ k
name-found n k es is = equal_if_same n k (lookup_key_passes (same_name n) es k (sym is))

-- in one place stands one pair
pub one_entry : {X Y : Type 0} (o : Option (X × Y)) (k l : X) (v w : Y) → o ≡ Some (k, v) → o ≡ Some (l, w) → (k ≡ l) × (v ≡ w)
one_entry {X} {Y} o k l v w a b =
    let pair : X × Y = (k, v) in
    let other : X × Y = (l, w) in
    let same : pair ≡ other = cc in
    (ap (λ (p : X × Y). p.0) same, ap (λ (p : X × Y). p.1) same)

-- what is counted stays, and else goes
pub stays : (k : ℕ) (n : Name) → 0 < k → None ≡ (if nat_lt 0 k then None else Some n)
stays k n some = let more : nat_lt 0 k ≡ true = grind (arith, nat_tests) in rw more refl

pub goes : (k : ℕ) (n : Name) → k ≡ 0 → Some n ≡ (if nat_lt 0 k then None else Some n)
goes k n none = rw none refl

-- nothing more is no more
no_more : (a : ℕ) → a ≡ a + 0
no_more a = omega arith

module _ (m l : List (Name × ℕ)) (n : Name) where
  -- what is written under the name is there
  pub count-written : (v : Option ℕ) → ((q : Name) → lookup (same_name q) l ≡ cond (same_name n q) v (lookup (same_name q) m)) → lookup (same_name n) l ≡ v
  count-written v w = w n ∙ ap (λ (b : Bool). cond b v (lookup (same_name n) m)) (same_name-itself n)

  -- so many more are counted
  pub count-added : (k j : ℕ) → k ≡ counted m n → ((q : Name) → lookup (same_name q) l ≡ cond (same_name n q) (Some (k + j)) (lookup (same_name q) m))
      → (o : Name) → counted l o ≡ counted m o + if_so (same_name o n) j
  count-added k j is w o = elim (same_or_apart o n) [
    | inl e ↦ rw (e, same_name-itself n) (ap or_none (count-written (Some (k + j)) w) ∙ ap (λ (i : ℕ). i + j) is)
    | inr apart ↦
        let other = same_name-apart n o (λ e. apart (sym e)) in
        rw (same_name-apart o n apart) (ap or_none (w o ∙ ap (λ (b : Bool). cond b (Some (k + j)) (lookup (same_name o) m)) other) ∙ no_more (counted m o))
  ]

  -- so many less are counted
  pub count-lowered : (left : Option ℕ) (j : ℕ) → or_none left + j ≡ counted m n → ((q : Name) → lookup (same_name q) l ≡ cond (same_name n q) left (lookup (same_name q) m))
      → (o : Name) → counted l o + if_so (same_name o n) j ≡ counted m o
  count-lowered left j is w o = elim (same_or_apart o n) [
    | inl e ↦ rw (e, same_name-itself n) (ap (λ (i : Option ℕ). or_none i + j) (count-written left w) ∙ is)
    | inr apart ↦
        let other = same_name-apart n o (λ e. apart (sym e)) in
        rw (same_name-apart o n apart) (sym (no_more (counted l o)) ∙ ap or_none (w o ∙ ap (λ (b : Bool). cond b left (lookup (same_name o) m)) other))
  ]
