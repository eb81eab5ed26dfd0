-- Ids that are restricted, and ids that a task may take: with uid 0 held any, else none but those that are held.
use Rattle.std.proofs.Common.{◌≡◌, ◌&&◌, ◌⊎◌, inl, inr, ℕ, Bool, true, false, refl, sym, ◌∙◌}
use Rattle.std.proofs.lemmas.Bool.{and_parts, or_cases}
use Rattle.std.specs.FinSet as set
use Rattle.std.specs.Cmp.{nat_cmp_total}
use Rattle.hurd_creds.specs.Access.{IdSets, holds_uid, holds_gid, is_root, restrict, may_take}

-- each of the ids asked for is held
pub record AreHeld (held asked : IdSets) : Type 0 where
  pub uids : (u : ℕ) → holds_uid asked u ≡ true → holds_uid held u ≡ true
  pub gids : (g : ℕ) → holds_gid asked g ≡ true → holds_gid held g ≡ true

module _ (held asked : IdSets) where
  abbrev common : IdSets
  common = record { uids = set.intersection asked.uids held.uids; gids = set.intersection asked.gids held.gids }

  common_held : AreHeld held common
  common_held = record {
    uids = λ u h. (and_parts (holds_uid asked u) (holds_uid held u) (sym (set.contains-intersection nat_cmp_total asked.uids held.uids u) ∙ h)).1;
    gids = λ g h. (and_parts (holds_gid asked g) (holds_gid held g) (sym (set.contains-intersection nat_cmp_total asked.gids held.gids g) ∙ h)).1;
  }

  pub restrict_held : (is_root held ≡ true) ⊎ AreHeld held (restrict held asked)
  restrict_held = go (is_root held) refl
    where
      go : (b : Bool) → is_root held ≡ b → (is_root held ≡ true) ⊎ AreHeld held (restrict held asked)
      go true root = inl root
      go false other = inr (rw other common_held)

  pub take_held : may_take held asked ≡ true → (is_root held ≡ true) ⊎ AreHeld held asked
  take_held may = elim (or_cases (is_root held) (set.is_subset asked.uids held.uids && set.is_subset asked.gids held.gids) may) [
    | inl root ↦ inl root
    | inr all ↦
        let l = and_parts (set.is_subset asked.uids held.uids) (set.is_subset asked.gids held.gids) all in
        inr (record { uids = set.is_subset-contains nat_cmp_total asked.uids held.uids l.0; gids = set.is_subset-contains nat_cmp_total asked.gids held.gids l.1 })
  ]
