-- What is lent of some ids: it is held without memory, and gives no power that who has these ids hasn't.
use Rattle.std.proofs.Common.{◌≡◌, ◌≢◌, ◌≤◌, ℕ, ◌||◌, Bool, true, false, true≢false, if◌then◌else◌, List, [], ◌∷◌, length, nat_eq, refl, sym, ◌∙◌, ap, inl, inr, arith}
use Rattle.std.proofs.lemmas.Bool.{or_cases}
use Rattle.std.proofs.lemmas.Bool.Decides.{nat_tests}
use Rattle.std.specs.Prelude.{Result, Ok, Err, nat_le}
use Rattle.std.specs.FinSet as set
use Rattle.hurd_creds.specs.Access.{most_ids}
use Rattle.hurd_creds.proofs.IdLaws.{len-listed}
use Rattle.hurd_machine.proofs.Common.{ENOMEM, Errno, IdSets, Meets, Owns, Taken, World, holds_gid, holds_uid, ids_of, nat_cmp}
use Rattle.hurd_lookup.specs.Lent.{lent, server_ids}
use Rattle.hurd_lookup.specs.Lookup.{no_ids}
use Rattle.hurd_lookup.proofs.WalkLaws.{Powers, no_ids_taken, taken_powers}

-- so few ids are never too many, and need no memory

few_fit : (us : List ℕ) → length us ≤ 1 → nat_le (set.len (set.from_list {R = nat_cmp} us)) most_ids ≡ true
few_fit us few =
    let fits : set.len (set.from_list {R = nat_cmp} us) ≤ 32 = omega (arith, few, len-listed us) in
    grind (arith, nat_tests)

few_ids : (us : List ℕ) → length us ≤ 1 → ids_of us [] ≡ Ok (record { uids = set.from_list us; gids = set.from_list [] })
few_ids us few = rw (few_fit us few, few_fit [] (omega arith)) refl

pub few_are_held : (us : List ℕ) → length us ≤ 1 → (r : Result IdSets Errno) → Meets (ids_of us []) r → r ≢ Err ENOMEM → r ≡ Ok (record { uids = set.from_list us; gids = set.from_list [] })
few_are_held us few (Ok ids) is has = sym is ∙ few_ids us few
few_are_held us few (Err e) (inl never) has = absurd (cc (never, few_ids us few))
few_are_held us few (Err e) (inr lacks) has = absurd (has (ap Err lacks.0))

-- the uid of an owner alone

owners_uid : (owner u : ℕ) → holds_uid (server_ids owner) u ≡ true → u ≡ owner
owners_uid owner u h = elim (or_cases (nat_eq owner u) false (sym (set.contains-from_list_nat (owner ∷ []) u) ∙ h)) [
  | inl same ↦ grind (arith, nat_tests, same)
  | inr none ↦ absurd (true≢false (sym none))
]

owners_gid : (owner g : ℕ) → holds_gid (server_ids owner) g ≡ true → ⊥
owners_gid owner g h = true≢false (sym h ∙ set.contains-empty nat_cmp g)

-- what is lent, S could do itself
module _ (S : ℕ → Bool) (v : World) (ids : IdSets) (taken : Taken S v ids) (owner : ℕ) where
  pub lent_powers : Powers S v (lent ids owner)
  lent_powers = by (holds_uid ids owner) (holds_uid ids 0) refl refl
    where
      by : (b c : Bool) → holds_uid ids owner ≡ b → holds_uid ids 0 ≡ c → Powers S v (if b || c then server_ids owner else no_ids)
      by true c e k = taken_powers S v (server_ids owner) (record { uids = λ u h. taken.uids u (ap (holds_uid ids) (owners_uid owner u h) ∙ e); gids = λ g h. absurd (owners_gid owner g h) })
      by false true e k = λ h want m. Owns 0 (taken.uids 0 k) (inr refl)
      by false false e k = taken_powers S v no_ids (no_ids_taken S v)
