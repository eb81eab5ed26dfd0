-- How long a map is with other names, a function at each of its values, and nodes that get a size.
use Rattle.std.proofs.Common.{◌≡◌, ◌⊎◌, ℕ, List, [], ◌∷◌, Option, Some, None, length, map, inl, inr, refl, sym, ap, ◌∙◌, arith}
use Rattle.std.specs.Option.{option_map}
use Rattle.std.specs.List.{sum_by}
use Rattle.std.specs.FinMap as fin
use Rattle.std.proofs.lemmas.List.Sums.{sum_by-cons}
use Rattle.hurd_creds.proofs.MapLaws.{get-map_values}
use Rattle.hurd_creds.proofs.NameLaws.{same_or_apart}
use Rattle.hurd_creds.proofs.Sums.{total}
use Rattle.hurd_creds.specs.NameMaps.{map_values}
use Rattle.hurd_nodes.specs.declared.seat.Site.{Site}
use Rattle.hurd_machine.proofs.Common.{Name, NameMap, Node, NodeMap, edit_all, home_in, own_nodes, sizing}
use Rattle.hurd_machine.specs.Renamed.{OtherNames, map_renamed, node_renamed, site_renamed}
use Rattle.hurd_machine.proofs.RenamedMaps.{get-renamed, is_renamed, origin, total-renamed}
use Rattle.hurd_machine.proofs.RenamedNodes.{home_in-renamed}
use Rattle.hurd_machine.proofs.Retexting.{own_here, own_home, sized, sized_apart, sized_here}

-- how long

ones : {X : Type 0} (es : List (Name × X)) → length es ≡ sum_by (λ x. 1) (map (λ (e : Name × X). e.1) es)
ones [] = refl
ones (e ∷ es) = let rest = ones es in let all = sum_by-cons (λ x. 1) e.1 (map (λ (d : _). d.1) es) in omega (arith, rest, all)

len_total : {X : Type 0} (m : NameMap X) → fin.len m ≡ total (λ x. 1) m
len_total m = fin.len-entries m ∙ ones (fin.entries m)

module _ (f : OtherNames) {X Y : Type 0} (g : X → Y) where
  pub len-renamed : (m : NameMap X) → fin.len (map_renamed f.to g m) ≡ fin.len m
  len-renamed m = len_total (map_renamed f.to g m) ∙ total-renamed f g (λ y. 1) (λ x. 1) (λ x. refl) m ∙ sym (len_total m)

  -- a function at each value

  module _ (h : X → X) (k : Y → Y) (same : (x : X) → k (g x) ≡ g (h x)) where
    mapped : (o : Option X) → option_map k (option_map g o) ≡ option_map g (option_map h o)
    mapped None = refl
    mapped (Some x) = ap (λ (y : Y). Some y) (same x)

    was_there : (o : Option Y) (y : Y) → option_map k o ≡ Some y → (z : Y) × (o ≡ Some z)
    was_there None y is = absurd (cc)
    was_there (Some z) y is = (z, refl)

    pub map_values-renamed : (m : NameMap X) → map_renamed f.to g (map_values h m) ≡ map_values k (map_renamed f.to g m)
    map_values-renamed m = is_renamed f g (map_values h m) _
        (λ n. get-map_values k (map_renamed f.to g m) (f.to n) ∙ ap (option_map k) (get-renamed f g m n) ∙ mapped (fin.get m n) ∙ ap (option_map g) (sym (get-map_values h m n)))
        (λ q y is. let z = was_there (fin.get (map_renamed f.to g m) q) y (sym (get-map_values k (map_renamed f.to g m) q) ∙ is) in origin f g m q z.0 z.1)

-- nodes that get a size

module _ (f : OtherNames) (k : ℕ) where
  sized_mapped : (o : Option Node) → option_map (sized k) (option_map (node_renamed f.to) o) ≡ option_map (node_renamed f.to) (option_map (sized k) o)
  sized_mapped None = refl
  sized_mapped (Some x) = refl

  -- a server is a node's, or it isn't

  here_or_not : (s : Name) (o : Option Name) → (o ≡ Some s) ⊎ (o ≡ Some s → ⊥)
  here_or_not s None = inr (λ e. absurd (cc))
  here_or_not s (Some q) = elim (same_or_apart q s) [
    | inl e ↦ inl (ap (λ (n : Name). Some n) e)
    | inr a ↦ inr (λ e. let same : q ≡ s = cc in a same)
  ]

  named_back : (s : Name) (o : Option Name) → option_map f.to o ≡ Some (f.to s) → o ≡ Some s
  named_back s None e = absurd (cc)
  named_back s (Some q) e = let same : f.to q ≡ f.to s = cc in ap (λ (n : Name). Some n) (f.apart q s same)

  no_value : (y : Node) → option_map (sized k) None ≡ Some y → ⊥
  no_value y e = absurd (cc)

  none_is : (y : Node) → ◌≡◌ {A = Option Node} None (Some y) → ⊥
  none_is y e = absurd (cc)

  module _ (s : Name) (sites : NameMap Site) (m : NodeMap) where
    abbrev other_sites : NameMap Site
    other_sites = map_renamed f.to (site_renamed f.to) sites

    abbrev other_nodes : NodeMap
    other_nodes = map_renamed f.to (node_renamed f.to) m

    -- a server's own nodes get it under other names too

    abbrev left : NodeMap
    left = edit_all (sizing k (own_nodes s sites)) m

    abbrev other_left : NodeMap
    other_left = edit_all (sizing k (own_nodes (f.to s) other_sites)) other_nodes

    size_at : (n : Name) → fin.get other_left (f.to n) ≡ option_map (node_renamed f.to) (fin.get left n)
    size_at n = elim (here_or_not s (home_in sites n)) [
      | inl e ↦
          sized_here k (own_nodes (f.to s) other_sites) other_nodes (f.to n) (own_here (f.to s) (f.to n) other_sites (home_in-renamed f sites n ∙ ap (option_map f.to) e))
          ∙ ap (option_map (sized k)) (get-renamed f (node_renamed f.to) m n) ∙ sized_mapped (fin.get m n)
          ∙ ap (option_map (node_renamed f.to)) (sym (sized_here k (own_nodes s sites) m n (own_here s n sites e)))
      | inr out ↦
          sized_apart k (own_nodes (f.to s) other_sites) other_nodes (f.to n)
          (λ i. out (named_back s (home_in sites n) (sym (home_in-renamed f sites n) ∙ own_home (f.to s) (f.to n) other_sites i)))
          ∙ get-renamed f (node_renamed f.to) m n
          ∙ ap (option_map (node_renamed f.to)) (sym (sized_apart k (own_nodes s sites) m n (λ i. out (own_home s n sites i))))
    ]

    size_from : (q : Name) (y : Node) → fin.get other_left q ≡ Some y → (o : Option Node) → fin.get other_nodes q ≡ o → (n : Name) × (f.to n ≡ q)
    size_from q y is (Some z) there = origin f (node_renamed f.to) m q z there
    size_from q y is None there = elim (here_or_not (f.to s) (home_in other_sites q)) [
      | inl e ↦ absurd (no_value y (sym (sized_here k (own_nodes (f.to s) other_sites) other_nodes q (own_here (f.to s) q other_sites e) ∙ ap (option_map (sized k)) there) ∙ is))
      | inr out ↦ absurd (none_is y (sym (sized_apart k (own_nodes (f.to s) other_sites) other_nodes q (λ i. out (own_home (f.to s) q other_sites i)) ∙ there) ∙ is))
    ]

    pub sizes-renamed : map_renamed f.to (node_renamed f.to) left ≡ other_left
    sizes-renamed = is_renamed f (node_renamed f.to) left other_left size_at (λ q y is. size_from q y is (fin.get other_nodes q) refl)
