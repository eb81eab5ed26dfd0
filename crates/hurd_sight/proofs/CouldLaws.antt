-- Which ids, taken from those that a set of tasks reaches, may do something: no more than a few of them need be tried.
use Rattle.std.proofs.Common.{◌≡◌, ◌∙◌, inl, inr, sym, refl, ap, subst, ℕ, zero, suc, ◌==◌, Bool, true, false, true≢false, if◌then◌else◌, arith}
use Rattle.std.specs.Prelude.{◌||◌, ◌&&◌, not}
use Rattle.std.proofs.lemmas.Bool.{or_cases, or_left, or_right, and_parts, not-true, or_parts, false_from_ne_true, and_from, cases_Bool}
use Rattle.std.proofs.lemmas.Bool.Decides.{nat_tests}
use Rattle.hurd_machine.proofs.Common.{Allowed, Attrs, Could, HasGid, Header, IdSet, IdSets, Owns, Taken, Want, World, bare, eq_by_cmp, has_no_uids, holds_gid, holds_uid, is_eq, may, nat_cmp, nat_cmp-IsAntisymmetric, nat_cmp_total, owns, tied_itself}
use Rattle.std.specs.Cmp.{Equal-is}
use Rattle.std.specs.FinSet as set
use Rattle.hurd_creds.specs.Access.{USE_UNK, group_bit, is_root, others_bit, unknown_bit}
use Rattle.hurd_creds.specs.Bits.{has_bits}
use Rattle.hurd_sight.specs.Reach.{CouldIsEnough, Reaches, could_with, others_or_group}
use Rattle.hurd_sight.proofs.ReachLaws.{owns_is}

-- a set that holds something isn't empty
some_held : (s : IdSet) (u : ℕ) → set.contains s u ≡ true → (set.len s == 0) ≡ false
some_held s u h = go (set.len s) refl
  where
    go : (n : ℕ) → set.len s ≡ n → (n == 0) ≡ false
    go zero e = let none = set.contains-empty nat_cmp u in let is_empty = set.empty_of_len s e in absurd (cc (ap (λ t. set.contains t u) is_empty))
    go (suc n) e = grind (arith, nat_tests)

-- no uid is held of ids that have none
none_in : (ids : IdSets) (u : ℕ) → has_no_uids ids ≡ true → holds_uid ids u ≡ true → ⊥
none_in ids u none held = true≢false (sym none ∙ some_held ids.uids u held)

empty_none : (u : ℕ) → set.contains {R = nat_cmp} set.empty u ≡ true → ⊥
empty_none u h = true≢false (sym h ∙ set.contains-empty nat_cmp u)

no_len : (set.len {R = nat_cmp} set.empty == 0) ≡ true
no_len = ap (λ (n : ℕ). n == 0) (set.len-empty nat_cmp)

-- what is in a set of one is that one
of_one : (g q : ℕ) → set.contains (set.insert {R = nat_cmp} set.empty g) q ≡ true → q ≡ g
of_one g q h =
    elim (or_cases (eq_by_cmp nat_cmp q g) (set.contains {R = nat_cmp} set.empty q) (sym (set.contains-insert nat_cmp_total set.empty g q) ∙ h)) [
      | inl tied ↦ nat_cmp-IsAntisymmetric q g ((Equal-is (nat_cmp q g)).0 tied)
      | inr none ↦ absurd (empty_none q none)
    ]

one_in : (g : ℕ) → set.contains (set.insert {R = nat_cmp} set.empty g) g ≡ true
one_in g =
    set.contains-insert nat_cmp_total set.empty g g
    ∙ ap (λ (b : Bool). b || set.contains {R = nat_cmp} set.empty g) (ap is_eq (tied_itself nat_cmp_total g))

-- what ids may, by whether they have uid 0, the owner, no uid at all where unknown bits count, and the group
may_plain : (ids : IdSets) (a : Attrs) (want : Want) (nobody member : Bool) → is_root ids ≡ false → holds_uid ids a.owner ≡ false
    → (has_no_uids ids && has_bits a.mode.0 USE_UNK) ≡ nobody → holds_gid ids a.group ≡ member
    → may ids a want
    ≡ (if nobody then has_bits a.mode.0 (unknown_bit want) else if member then has_bits a.mode.0 (group_bit want) else has_bits a.mode.0 (others_bit want))
may_plain ids a want nobody member root owner n g = rw (root, owner, n, g) refl

module _ (S : ℕ → Bool) (w : World) (ids : IdSets) (r : Reaches S w ids) where
  -- the ids reached without any group, and with one
  abbrev without_groups : IdSets
  without_groups = record { uids = ids.uids; gids = set.empty }

  abbrev with_group : ℕ → IdSets
  with_group g = record { uids = ids.uids; gids = set.insert set.empty g }

  abbrev nobody : IdSets
  nobody = record { uids = set.empty; gids = set.empty }

  nobody_taken : Taken S w nobody
  nobody_taken = record { uids = λ u h. absurd (empty_none u h); gids = λ g h. absurd (empty_none g h) }

  groupless_taken : Taken S w without_groups
  groupless_taken = record { uids = λ u h. (r.uids u).0 h; gids = λ g h. absurd (empty_none g h) }

  group_taken : (g : ℕ) → holds_gid ids g ≡ true → Taken S w (with_group g)
  group_taken g held = record { uids = λ u h. (r.uids u).0 h; gids = λ q h. subst (HasGid S w) (sym (of_one g q h)) ((r.gids g).0 held) }

  -- ids that are taken hold what is reached alone
  taken_uid : (got : IdSets) (u : ℕ) → Taken S w got → holds_uid ids u ≡ false → holds_uid got u ≡ false
  taken_uid got u t none = false_from_ne_true (holds_uid got u) (λ e. true≢false (sym ((r.uids u).1 (t.uids u e)) ∙ none))

  taken_gid : (got : IdSets) (g : ℕ) → Taken S w got → holds_gid got g ≡ true → holds_gid ids g ≡ true
  taken_gid got g t held = (r.gids g).1 (t.gids g held)

  -- where none is reached, none is taken
  none_taken : (got : IdSets) → Taken S w got → has_no_uids ids ≡ true → has_no_uids got ≡ true
  none_taken got t none =
      let not_held : (q : ℕ) → holds_uid ids q ≡ false = λ q. false_from_ne_true (holds_uid ids q) (none_in ids q none) in
      let same = set.same_set nat_cmp_total nat_cmp-IsAntisymmetric got.uids set.empty (λ q. taken_uid got q t (not_held q) ∙ sym (set.contains-empty nat_cmp q)) in
      ap (λ (s : IdSet). set.len s == 0) same ∙ no_len

  module _ (h : Header) (want : Want) where
    abbrev unknown : Bool
    unknown = has_bits h.mode.0 USE_UNK

    -- where the owner and 0 are not reached

    module _ (no_owner : holds_uid ids h.owner ≡ false) (no_root : is_root ids ≡ false) where
      -- nobody's ids serve where the unknown bits allow it
      by_unknown : unknown ≡ true → has_bits h.mode.0 (unknown_bit want) ≡ true → Could S w h want
      by_unknown unk bit =
          Allowed nobody nobody_taken
          (may_plain nobody (bare h) want true false (set.contains-empty nat_cmp 0) (set.contains-empty nat_cmp h.owner) (rw (no_len, unk) refl) (set.contains-empty nat_cmp h.group) ∙ bit)

      -- all uids without a group serve where the others' bits allow it
      by_others : (has_no_uids ids && unknown) ≡ false → has_bits h.mode.0 (others_bit want) ≡ true → Could S w h want
      by_others some bit =
          Allowed without_groups groupless_taken
          (may_plain without_groups (bare h) want false false no_root no_owner some (set.contains-empty nat_cmp h.group) ∙ bit)

      -- all uids with that group serve where the group's bits allow it
      by_group : (has_no_uids ids && unknown) ≡ false → holds_gid ids h.group ≡ true → has_bits h.mode.0 (group_bit want) ≡ true → Could S w h want
      by_group some held bit =
          Allowed (with_group h.group) (group_taken h.group held)
          (may_plain (with_group h.group) (bare h) want false true no_root no_owner some (one_in h.group) ∙ bit)

      by_either : (has_no_uids ids && unknown) ≡ false → others_or_group ids (bare h) want ≡ true → Could S w h want
      by_either some e = elim (or_cases _ _ e) [
        | inl bit ↦ by_others some bit
        | inr both ↦ let p = and_parts _ _ both in by_group some p.0 p.1
      ]

      by_some : ((unknown && has_bits h.mode.0 (unknown_bit want)) || (not (has_no_uids ids && unknown) && others_or_group ids (bare h) want)) ≡ true → Could S w h want
      by_some e = elim (or_cases _ _ e) [
        | inl both ↦ let p = and_parts _ _ both in by_unknown p.0 p.1
        | inr both ↦ let p = and_parts _ _ both in by_either (not-true _ p.0) p.1
      ]

      -- and whoever may is found by one of these
      told : (nobody_asks member : Bool) (got : IdSets) → Taken S w got → (has_no_uids got && unknown) ≡ nobody_asks → holds_gid got h.group ≡ member
          → may got (bare h) want ≡ true
          → ((unknown && has_bits h.mode.0 (unknown_bit want)) || (not (has_no_uids ids && unknown) && others_or_group ids (bare h) want)) ≡ true
      told true member got t n g m =
          let p = and_parts (has_no_uids got) unknown n in
          let bit : has_bits h.mode.0 (unknown_bit want) ≡ true = sym (may_plain got (bare h) want true member (taken_uid got 0 t no_root) (taken_uid got h.owner t no_owner) n g) ∙ m in
          rw (p.1, bit) refl
      told false member got t n g m =
          let bit = sym (may_plain got (bare h) want false member (taken_uid got 0 t no_root) (taken_uid got h.owner t no_owner) n g) ∙ m in
          or_right (unknown && has_bits h.mode.0 (unknown_bit want)) (not (has_no_uids ids && unknown) && others_or_group ids (bare h) want) (rw (some, by_member member g bit) refl)
        where
          some : (has_no_uids ids && unknown) ≡ false
          some = false_from_ne_true (has_no_uids ids && unknown) (λ e. let p = and_parts (has_no_uids ids) unknown e in true≢false (sym (and_from (has_no_uids got) unknown (none_taken got t p.0) p.1) ∙ n))

          by_member : (b : Bool) → holds_gid got h.group ≡ b → (if b then has_bits h.mode.0 (group_bit want) else has_bits h.mode.0 (others_bit want)) ≡ true
              → others_or_group ids (bare h) want ≡ true
          by_member true held bit = or_right (has_bits h.mode.0 (others_bit want)) (holds_gid ids h.group && has_bits h.mode.0 (group_bit want)) (rw (taken_gid got h.group t held, bit) refl)
          by_member false held bit = rw bit refl

    could_from : could_with ids (bare h) want ≡ true → Could S w h want
    could_from e = elim (cases_Bool (owns ids (bare h))) [
      | inl own ↦ let o = (owns_is r h).0 own in Owns o.0 o.1 o.2
      | inr own ↦ elim (or_cases (owns ids (bare h)) _ e) [
        | inl other ↦ absurd (true≢false (sym other ∙ own))
        | inr rest ↦ let none = or_parts (holds_uid ids h.owner) (is_root ids) own in by_some none.0 none.1 rest
      ]
    ]

    could_to : Could S w h want → could_with ids (bare h) want ≡ true
    could_to (Owns u has which) = or_left (owns ids (bare h)) _ ((owns_is r h).1 (u, has, which))
    could_to (Allowed got t m) = elim (cases_Bool (owns ids (bare h))) [
      | inl own ↦ or_left (owns ids (bare h)) _ own
      | inr own ↦
          let none = or_parts (holds_uid ids h.owner) (is_root ids) own in
          or_right (owns ids (bare h)) _ (told none.0 none.1 (has_no_uids got && unknown) (holds_gid got h.group) got t refl refl m)
    ]

pub could_is_enough : CouldIsEnough
could_is_enough S w ids h want r = (could_from S w ids r h want, could_to S w ids r h want)
