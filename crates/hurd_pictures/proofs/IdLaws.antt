-- Two pairs of sets of ids are the same where each set has all of the other.
use Rattle.std.proofs.Common.{◌≡◌, ◌&&◌, Bool, true, false, refl, sym, ap, ◌∙◌}
use Rattle.std.specs.Prelude.{◌↔◌, IsTrue}
use Rattle.std.specs.Cmp.{nat_cmp_total}
use Rattle.std.specs.FinMap.{nat_cmp-IsAntisymmetric}
use Rattle.std.specs.FinSet as set
use Rattle.std.proofs.lemmas.Bool.{and_parts}
use Rattle.hurd_creds.specs.Access.{IdSet, IdSets}
use Rattle.hurd_pictures.specs.Tasks.{same_ids}

same_test : (a b : Bool) → (a ≡ true → b ≡ true) → (b ≡ true → a ≡ true) → a ≡ b
same_test true true to from = refl
same_test true false to from = sym (to refl)
same_test false true to from = from refl
same_test false false to from = refl

same_sets : (s t : IdSet) → (set.is_subset s t && set.is_subset t s) ≡ true → s ≡ t
same_sets s t both = set.same_set nat_cmp_total nat_cmp-IsAntisymmetric s t (λ q.
    same_test _ _ (set.is_subset-contains nat_cmp_total s t (and_parts _ _ both).0 q) (set.is_subset-contains nat_cmp_total t s (and_parts _ _ both).1 q))

subset_itself : (s : IdSet) → set.is_subset s s ≡ true
subset_itself s = set.contains-is_subset nat_cmp_total s s (λ q h. h)

ids_themselves : (a : IdSets) → same_ids a a ≡ true
ids_themselves a = rw (subset_itself a.uids, subset_itself a.gids) refl

ids_joined : (a b : IdSets) → a.uids ≡ b.uids → a.gids ≡ b.gids → a ≡ b
ids_joined a b us gs i = record { uids = us i; gids = gs i }

-- a test of whether they are the same is this test
pub ids_tested : (a b : IdSets) (r : Bool) → IsTrue r ↔ (a ≡ b) → r ≡ same_ids a b
ids_tested a b r told = same_test r (same_ids a b) to from
  where
    to : r ≡ true → same_ids a b ≡ true
    to t = sym (ap (λ (x : IdSets). same_ids a x) (told.0 t)) ∙ ids_themselves a

    from : same_ids a b ≡ true → r ≡ true
    from s =
        let parts = and_parts (set.is_subset a.uids b.uids && set.is_subset b.uids a.uids) (set.is_subset a.gids b.gids && set.is_subset b.gids a.gids) s in
        told.1 (ids_joined a b (same_sets a.uids b.uids parts.0) (same_sets a.gids b.gids parts.1))
