-- Two lists of ids are the same set where all of each are in the other.
use Rattle.std.proofs.Common.{◌≡◌, Bool, true, false, ℕ, List, refl, sym, ap, ◌∙◌}
use Rattle.std.specs.List.{list_all}
use Rattle.std.specs.Ordering.{nat_cmp}
use Rattle.std.specs.Cmp.{nat_cmp_total}
use Rattle.std.specs.FinMap.{nat_cmp-IsAntisymmetric}
use Rattle.std.specs.FinSet as set
use Rattle.hurd_creds.specs.Access.{IdSet, is_among}
use Rattle.hurd_creds.proofs.IdLaws.{all_subset}

same_test : (a b : Bool) → (a ≡ true → b ≡ true) → (b ≡ true → a ≡ true) → a ≡ b
same_test true true to from = refl
same_test true false to from = sym (to refl)
same_test false true to from = from refl
same_test false false to from = refl

-- a subset both ways is the same set
same_sets : (s t : IdSet) → set.is_subset s t ≡ true → set.is_subset t s ≡ true → s ≡ t
same_sets s t to from = set.same_set nat_cmp_total nat_cmp-IsAntisymmetric s t (λ q.
    same_test _ _ (set.is_subset-contains nat_cmp_total s t to q) (set.is_subset-contains nat_cmp_total t s from q))

subset_itself : (s : IdSet) → set.is_subset s s ≡ true
subset_itself s = set.contains-is_subset nat_cmp_total s s (λ q h. h)

-- all of each are among the other: the sets are the same
pub same_of_among : (us vs : List ℕ) → list_all (is_among vs) us ≡ true → list_all (is_among us) vs ≡ true → set.from_list {R = nat_cmp} us ≡ set.from_list vs
same_of_among us vs to from = same_sets _ _ (sym (all_subset us vs) ∙ to) (sym (all_subset vs us) ∙ from)

-- and back
pub among_of_same : (us vs : List ℕ) → set.from_list {R = nat_cmp} us ≡ set.from_list vs → list_all (is_among vs) us ≡ true
among_of_same us vs same =
    all_subset us vs ∙ ap (λ (s : IdSet). set.is_subset s (set.from_list vs)) same ∙ subset_itself (set.from_list vs)
