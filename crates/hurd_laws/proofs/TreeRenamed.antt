-- Directories, and what is in them, hang together where things have other names.
use Rattle.std.proofs.Common.{◌≡◌, ◌∙◌, ◌+◌, ◌≤◌, ℕ, true, cond, List, [], ◌∷◌, Some, map, refl, sym, ap, ap₂, subst}
use Rattle.std.specs.Option.{option_map}
use Rattle.hurd_creds.specs.declared.attrs.Kind.TheVariants.{Dir}
use Rattle.hurd_trans_iface.specs.Nodes.{Entry}
use Rattle.hurd_nodes.specs.Shown.{is_root}
use Rattle.hurd_machine.proofs.Common.{Above, AreDistinct, AtRoot, Body, Content, Hangs, HasDistinctNames, Header, IsShaped, LeadsUp, Linked, Listing, Name, Node, World, body_at, boot_root, count_list, header_at, home_in, is_dir, is_of, lists_at, one_if, server_of, times_in, times_listed, tree_by}
use Rattle.hurd_machine.specs.Sound.{IsTree}
use Rattle.hurd_machine.specs.World.{nodes_of}
use Rattle.hurd_machine.specs.Renamed.{OtherNames, body_renamed, entry_renamed, header_renamed, node_renamed, renamed}
use Rattle.hurd_machine.proofs.RenamedMaps.{same_name-renamed, total-renamed}
use Rattle.hurd_machine.proofs.RenamedNodes.{body_at-renamed, entry_in-renamed, home_at-renamed, lists_at-renamed}
use Rattle.hurd_machine.proofs.RenamedServers.{is_server_root-renamed, tree_at-renamed}
use Rattle.hurd_laws.proofs.FoundRenamed.{of_entries, of_found, of_headers, of_mapped}
use Rattle.hurd_laws.proofs.HousedRenamed.{at_header, header_there, home_there}

module _ (f : OtherNames) where
  shaped : (h : Header) (b : Body) → IsShaped h b → IsShaped (header_renamed f.to h) (body_renamed f.to b)
  shaped h (Content bs) is = is
  shaped h (Listing es) is = is

  apart_yet : (es : List Entry) → AreDistinct es → AreDistinct (map (entry_renamed f.to) es)
  apart_yet [] are = tt
  apart_yet (e ∷ es) are = (entry_in-renamed f e.name es ∙ ap (option_map f.to) are.0, apart_yet es are.1)

  distinct : (b : Body) → HasDistinctNames b → HasDistinctNames (body_renamed f.to b)
  distinct (Content bs) has = tt
  distinct (Listing es) has = apart_yet es has

  -- how many entries name a node

  entries_in : (n : Name) (es : List Entry) → count_list (is_of (f.to n)) (map (entry_renamed f.to) es) ≡ count_list (is_of n) es
  entries_in n [] = refl
  entries_in n (e ∷ es) = ap₂ ◌+◌ (ap one_if (same_name-renamed f e.node n)) (entries_in n es)

  pub times_in-renamed : (n : Name) (b : Body) → times_in (f.to n) (body_renamed f.to b) ≡ times_in n b
  times_in-renamed n (Content bs) = refl
  times_in-renamed n (Listing es) = entries_in n es

  module _ (w : World) where
    abbrev other : World
    other = renamed f w

    times : (n : Name) → times_listed other.nodes (f.to n) ≡ times_listed w.nodes n
    unfolding times_listed
    times n = total-renamed f (node_renamed f.to) (λ (x : Node). times_in (f.to n) x.body) (λ (x : Node). times_in n x.body) (λ x. times_in-renamed n x.body) w.nodes

    listed_there : (d n : Name) → lists_at n (body_at w d) ≡ true → lists_at (f.to n) (body_at other (f.to d)) ≡ true
    listed_there d n is = ap (lists_at (f.to n)) (body_at-renamed f w d) ∙ lists_at-renamed f n (body_at w d) ∙ is

    pub tree-renamed : IsTree (nodes_of w) → IsTree (nodes_of other)
    tree-renamed a = record {
      kin = of_entries f w (λ (d n : Name). home_in other.sites n ≡ home_in other.sites d) (λ d n is. home_at-renamed f w n ∙ ap (option_map f.to) (a.kin d n is) ∙ sym (home_at-renamed f w d));
      below = λ d n k is. of_entries f w (λ (d n : Name). (k : Header) → header_at other n ≡ Some k → k.kind ≡ Dir → k.parent ≡ Some d) (λ d n is.
          at_header f w n (λ (k : Header). k.kind ≡ Dir → k.parent ≡ Some (f.to d)) (λ k at dir. ap (option_map f.to) (a.below d n k is at dir))) d n is k;
      trees = of_entries f w (λ (d n : Name). tree_by (server_of (nodes_of other) d) ≡ true) (λ d n is. tree_at-renamed f w d ∙ a.trees d n is);
      shapes = of_found f (node_renamed f.to) w.nodes (λ (n : Name) (x : Node). IsShaped x.header x.body) (λ n x is. shaped x.header x.body (a.shapes n x is));
      distinct = of_found f (node_renamed f.to) w.nodes (λ (n : Name) (x : Node). HasDistinctNames x.body) (λ n x is. distinct x.body (a.distinct n x is));
      root = subst (λ (n : Name). (k : Header) × (header_at other n ≡ Some k)) f.boot (header_renamed f.to a.root.0, header_there f w boot_root a.root.1);
      boot = subst (λ (n : Name). is_root (nodes_of other) n ≡ true) f.boot (is_server_root-renamed f w boot_root ∙ a.boot);
      served = subst (λ (n : Name). home_in other.sites n ≡ Some n) f.boot (home_there f w boot_root a.served);
    }

    leads : (d : Name) → LeadsUp (nodes_of w) d → LeadsUp (nodes_of other) (f.to d)
    leads d (AtRoot is) = AtRoot (is_server_root-renamed f w d ∙ is)
    leads d (Above p k is up more) = Above (f.to p) (header_renamed f.to k) (header_there f w d is) (ap (option_map f.to) up) (leads p more)

    hangs : (n : Name) (k : Header) → Hangs (nodes_of w) n k → Hangs (nodes_of other) (f.to n) (header_renamed f.to k)
    hangs n k h = record {
      up = of_mapped f.to k.parent refl (λ (p : Name). (k.kind ≡ Dir) × (lists_at (f.to n) (body_at other p) ≡ true)) (λ p up. let u = h.up p up in (u.0, listed_there p n u.1));
      top = λ is. ap (option_map f.to) (h.top (sym (is_server_root-renamed f w n) ∙ is));
      once = λ dir. subst (λ (k : ℕ). k ≤ 1) (sym (times n)) (h.once dir);
      links = λ tree. h.links (sym (tree_at-renamed f w n) ∙ tree) ∙ ap (cond (is_dir k.kind) 1) (sym (times n));
    }

    pub linked-renamed : Linked (nodes_of w) → Linked (nodes_of other)
    linked-renamed a = record {
      nodes = of_headers f w (Hangs (nodes_of other)) (λ n k is. hangs n k (a.nodes n k is));
      rooted = of_entries f w (λ (d n : Name). LeadsUp (nodes_of other) d) (λ d n is. leads d (a.rooted d n is));
    }
