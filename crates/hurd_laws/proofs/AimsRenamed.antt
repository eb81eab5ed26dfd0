-- The nodes at which a server is to aim where things have other names.
use Rattle.std.proofs.Common.{◌≡◌, ◌&&◌, ℕ, List, [], ◌∷◌, Option, Some, None, map, refl, ap, ap₂, ◌∙◌}
use Rattle.std.specs.Option.{option_map}
use Rattle.hurd_machine.proofs.Common.{Crossing, ENOTDIR, Errno, Header, IdSets, Meaning, Name, World, header_at}
use Rattle.hurd_trans_iface.specs.Meaning.{root_of, targets_of}
use Rattle.hurd_trans_iface.specs.declared.root.Crossing.TheVariants.{Union}
use Rattle.hurd_machine.specs.Renamed.{OtherNames, header_renamed, renamed}
use Rattle.hurd_machine.proofs.RenamedNodes.{header_at-renamed}
use Rattle.hurd_machine.proofs.RenamedPlans.{answer_renamed, first-renamed, given-renamed}
use Rattle.hurd_lookup.specs.Resolve.{resolve_all}
use Rattle.hurd_fsys.specs.Aims.{aims_asks, are_dirs, fits, is_dir_there}

-- paths lead to the same nodes, with other names
abbrev pub ResolvesRenamed : OtherNames → World → Type 0
ResolvesRenamed f w = (asleep : Errno) (ids : IdSets) (paths : List (List ℕ)) → resolve_all asleep (renamed f w) ids paths ≡ answer_renamed (map f.to) (resolve_all asleep w ids paths)

module _ (f : OtherNames) (w : World) where
  pub dir_there-renamed : (o : Option Header) → is_dir_there (option_map (header_renamed f.to) o) ≡ is_dir_there o
  dir_there-renamed None = refl
  dir_there-renamed (Some h) = refl

  pub are_dirs-renamed : (ns : List Name) → are_dirs (renamed f w) (map f.to ns) ≡ are_dirs w ns
  are_dirs-renamed [] = refl
  are_dirs-renamed (n ∷ ns) = ap₂ ◌&&◌ (ap is_dir_there (header_at-renamed f w n) ∙ dir_there-renamed (header_at w n)) (are_dirs-renamed ns)

  pub fits-renamed : (c : Crossing) (ns : List Name) → fits (renamed f w) c (map f.to ns) ≡ fits w c ns
  fits-renamed Union ns = are_dirs-renamed ns
  fits-renamed _ ns = refl

  -- the targets of a server that means this
  pub aims_asks-renamed : ResolvesRenamed f w → (asleep : Errno) (ids : IdSets) (m : Meaning) → aims_asks asleep (renamed f w) ids m ≡ answer_renamed (map f.to) (aims_asks asleep w ids m)
  aims_asks-renamed resolves asleep ids m =
      first-renamed (map f.to) (map f.to) _ _ _ (resolves asleep ids (targets_of m.kind m.text)) (λ ns.
      given-renamed (map f.to) ENOTDIR _ (fits-renamed (root_of m.kind m.text).crossing ns) refl)
