-- What is read of servers, of what they have in all, and of those who use their nodes, where things have other names.
use Rattle.std.proofs.Common.{◌≡◌, ◌&&◌, ℕ, Bool, not, Option, Some, None, refl, sym, ap, ap₂, ◌∙◌, if◌then◌else◌}
use Rattle.std.specs.Option.{option_map}
use Rattle.hurd_nodes.specs.Needs.{streams_by}
use Rattle.hurd_nodes.specs.Shown.{space_for}
use Rattle.hurd_ports.specs.declared.table.Ends.{Ends}
use Rattle.hurd_ports.specs.Tables.{ends}
use Rattle.hurd_machine.proofs.Common.{Header, Name, NameMap, NodeMap, ServerInfo, World, READ, WRITE, asks, counts_at, counts_by, counts_for, ends_at, ends_of, get, gives_text, home_at, home_in, info_at, info_in, is_end, is_one, is_removed, is_root_at, is_root_of, is_server_root, leads_on, limit_by, nodes_in, one_if, only_reads, open_at, server_at, shape_at, shape_by, space_at, space_with, stream_at, total_at, total_if, total_in, tree_by}
use Rattle.hurd_machine.specs.World.{nodes_of, readers_at, readers_in, writers_at, writers_in}
use Rattle.hurd_machine.specs.Renamed.{OtherNames, header_renamed, info_renamed, map_renamed, node_renamed, open_renamed, renamed}
use Rattle.hurd_machine.proofs.RenamedMaps.{get-renamed, retain_keys-renamed, same_name-renamed, total-renamed}
use Rattle.hurd_machine.proofs.RenamedNodes.{home_at-renamed, is_home_in-renamed, is_some-mapped}
use Rattle.hurd_machine.proofs.Nodes.{by_option}

module _ (f : OtherNames) where
  -- a server that may not be there

  pub shape_by-renamed : (o : Option ServerInfo) → shape_by (option_map (info_renamed f.to) o) ≡ shape_by o
  shape_by-renamed = by_option _ _ refl (λ x. refl)

  pub streams_by-renamed : (o : Option ServerInfo) → streams_by (option_map (info_renamed f.to) o) ≡ streams_by o
  streams_by-renamed = by_option _ _ refl (λ x. refl)

  pub counts_by-renamed : (o : Option ServerInfo) → counts_by (option_map (info_renamed f.to) o) ≡ counts_by o
  counts_by-renamed = by_option _ _ refl (λ x. refl)

  pub tree_by-renamed : (o : Option ServerInfo) → tree_by (option_map (info_renamed f.to) o) ≡ tree_by o
  tree_by-renamed = by_option _ _ refl (λ x. refl)

  pub limit_by-renamed : (o : Option ServerInfo) → limit_by (option_map (info_renamed f.to) o) ≡ limit_by o
  limit_by-renamed = by_option _ _ refl (λ x. refl)

  is_root_at-renamed : (n : Name) (o : Option ServerInfo) → is_root_at (f.to n) (option_map (info_renamed f.to) o) ≡ is_root_at n o
  is_root_at-renamed n None = refl
  is_root_at-renamed n (Some i) = same_name-renamed f n i.root

  -- servers of the world

  module _ (w : World) where
    pub server_at-renamed : (s : Name) → server_at (renamed f w) (f.to s) ≡ option_map (info_renamed f.to) (server_at w s)
    server_at-renamed s = get-renamed f (info_renamed f.to) w.servers s

    abbrev others : NameMap ServerInfo
    others = map_renamed f.to (info_renamed f.to) w.servers

    info_in-renamed : (o : Option Name) → info_in others (option_map f.to o) ≡ option_map (info_renamed f.to) (info_in w.servers o)
    info_in-renamed None = refl
    info_in-renamed (Some s) = server_at-renamed s

    is_root_of-renamed : (n : Name) (o : Option Name) → is_root_of others (f.to n) (option_map f.to o) ≡ is_root_of w.servers n o
    is_root_of-renamed n None = refl
    is_root_of-renamed n (Some s) = ap (is_root_at (f.to n)) (server_at-renamed s) ∙ is_root_at-renamed n (get w.servers s)

  module _ (w : World) (n : Name) where
    pub info_at-renamed : info_at (renamed f w) (f.to n) ≡ option_map (info_renamed f.to) (info_at w n)
    info_at-renamed = ap (info_in (renamed f w).servers) (home_at-renamed f w n) ∙ info_in-renamed w (home_at w n)

    pub shape_at-renamed : shape_at (nodes_of (renamed f w)) (f.to n) ≡ shape_at (nodes_of w) n
    shape_at-renamed = ap shape_by info_at-renamed ∙ shape_by-renamed (info_at w n)

    pub leads_on-renamed : leads_on (shape_at (nodes_of (renamed f w)) (f.to n)) ≡ leads_on (shape_at (nodes_of w) n)
    leads_on-renamed = ap leads_on shape_at-renamed

    pub only_reads-renamed : only_reads (info_at (renamed f w) (f.to n)) ≡ only_reads (info_at w n)
    only_reads-renamed = ap gives_text shape_at-renamed

    pub stream_at-renamed : stream_at (renamed f w) (f.to n) ≡ stream_at w n
    stream_at-renamed = ap streams_by info_at-renamed ∙ streams_by-renamed (info_at w n)

    pub counts_at-renamed : counts_at (renamed f w) (f.to n) ≡ counts_at w n
    counts_at-renamed = ap counts_by info_at-renamed ∙ counts_by-renamed (info_at w n)

    -- whether the server of a node keeps a tree
    pub tree_at-renamed : tree_by (info_at (renamed f w) (f.to n)) ≡ tree_by (info_at w n)
    tree_at-renamed = ap tree_by info_at-renamed ∙ tree_by-renamed (info_at w n)

    pub is_server_root-renamed : is_server_root (renamed f w) (f.to n) ≡ is_server_root w n
    is_server_root-renamed = ap (is_root_of (renamed f w).servers (f.to n)) (home_at-renamed f w n) ∙ is_root_of-renamed w n (home_at w n)

    pub is_removed-renamed : (h : Header) → is_removed (renamed f w) (f.to n) (header_renamed f.to h) ≡ is_removed w n h
    is_removed-renamed h = ap₂ (λ (root parent : Bool). not root && not parent) is_server_root-renamed (is_some-mapped f.to h.parent)

  -- totals, and the space that is left

  module _ (w : World) where
    pub nodes_in-renamed : (s : Name) → nodes_in (renamed f w).nodes (renamed f w).sites (f.to s) ≡ map_renamed f.to (node_renamed f.to) (nodes_in w.nodes w.sites s)
    nodes_in-renamed s =
        sym (retain_keys-renamed f (node_renamed f.to) w.nodes (λ n. is_one s (home_in w.sites n)) (λ n. is_one (f.to s) (home_in (renamed f w).sites n)) (is_home_in-renamed f w.sites s))

    pub total_in-renamed : (m : NodeMap) → total_in (map_renamed f.to (node_renamed f.to) m) ≡ total_in m
    unfolding total_in
    total_in-renamed m = total-renamed f (node_renamed f.to) (λ x. counts_for x.header) (λ x. counts_for x.header) (λ x. refl) m

    -- what the nodes of a server count for
    own_total-renamed : (s : Name) → total_in (nodes_in (renamed f w).nodes (renamed f w).sites (f.to s)) ≡ total_in (nodes_in w.nodes w.sites s)
    own_total-renamed s = ap total_in (nodes_in-renamed s) ∙ total_in-renamed (nodes_in w.nodes w.sites s)

    pub total_at-renamed : (s : Name) → total_at (renamed f w) (f.to s) ≡ total_at w s
    total_at-renamed s = ap₂ total_if (ap tree_by (server_at-renamed w s) ∙ tree_by-renamed (server_at w s)) (own_total-renamed s)

    space_for-renamed : (o : Option Name) → space_for (nodes_of (renamed f w)) (option_map f.to o) ≡ space_for (nodes_of w) o
    space_for-renamed None = refl
    space_for-renamed (Some s) = ap₂ space_with (ap limit_by (server_at-renamed w s) ∙ limit_by-renamed (server_at w s)) (own_total-renamed s)

    pub space_at-renamed : (n : Name) → space_at (renamed f w) (f.to n) ≡ space_at w n
    space_at-renamed n = ap (space_for (nodes_of (renamed f w))) (home_at-renamed f w n) ∙ space_for-renamed (home_at w n)

  -- opens, and who reads and writes a node

  module _ (w : World) where
    pub open_at-renamed : (o : Name) → open_at (renamed f w) (f.to o) ≡ option_map (open_renamed f.to) (open_at w o)
    open_at-renamed o = get-renamed f (open_renamed f.to) w.opens o

    ends-renamed : (n : Name) (mode : ℕ) → ends (renamed f w).opens (f.to n) mode ≡ ends w.opens n mode
    unfolding ends
    ends-renamed n mode = total-renamed f (open_renamed f.to) (λ z. one_if (is_end (f.to n) mode z)) (λ z. one_if (is_end n mode z))
        (λ z. ap (λ (b : Bool). one_if (b && asks z.modes mode)) (same_name-renamed f n z.node)) w.opens

    pub ends_of-renamed : (n : Name) → ends_of (renamed f w).opens (f.to n) ≡ ends_of w.opens n
    ends_of-renamed n = ap₂ (λ (r u : ℕ). record { readers = r; writers = u }) (ends-renamed n READ) (ends-renamed n WRITE)

    pub ends_at-renamed : (n : Name) → ends_at (renamed f w) (f.to n) ≡ ends_at w n
    ends_at-renamed n = ap₂ (λ (b : Bool) (e : Ends). if b then Some e else None) (counts_at-renamed w n) (ends_of-renamed n)

    pub writers_at-renamed : (n : Name) → writers_at (renamed f w) (f.to n) ≡ writers_at w n
    writers_at-renamed n = ap writers_in (ends_at-renamed n)

    pub readers_at-renamed : (n : Name) → readers_at (renamed f w) (f.to n) ≡ readers_at w n
    readers_at-renamed n = ap readers_in (ends_at-renamed n)
