-- What is left when all has gone that nothing keeps, where things have other names.
use Rattle.std.proofs.Common.{◌≡◌, ◌+◌, ℕ, zero, suc, refl, sym, ap, ap₂, ◌∙◌}
use Rattle.hurd_nodes.specs.Settle.{size, sweep, sweeps}
unfoldable use Rattle.hurd_nodes.specs.Settle.{settle}
use Rattle.hurd_machine.proofs.Common.{NameMap, NodeMap, NodeState, ServerInfo, Site, World, outside, ports_of, stays, world_from}
use Rattle.hurd_machine.specs.Change as change
use Rattle.hurd_machine.specs.Renamed.{OtherNames, info_renamed, map_renamed, node_renamed, renamed, site_renamed}
use Rattle.hurd_machine.proofs.RenamedMaps.{retain_keys-renamed}
use Rattle.hurd_laws.proofs.RestRenamed.{server_stays-renamed, stays-renamed}
use Rattle.hurd_laws.proofs.MapChanges.{len-renamed}

-- the same nodes, sites and servers
pub same_state : {a b : NodeMap} {c d : NameMap Site} {e g : NameMap ServerInfo} → a ≡ b → c ≡ d → e ≡ g
    → ◌≡◌ {A = NodeState} (record { nodes = a; sites = c; servers = e }) (record { nodes = b; sites = d; servers = g })
same_state {b = b} {d = d} {e = e} nodes sites servers =
    ap₂ (λ (x : NodeMap) (y : NameMap Site). record { nodes = x; sites = y; servers = e }) nodes sites ∙ ap (λ (z : NameMap ServerInfo). record { nodes = b; sites = d; servers = z }) servers

module _ (f : OtherNames) where
  -- nodes, sites and servers with other names
  abbrev pub state_renamed : NodeState → NodeState
  state_renamed h = record {
    nodes = map_renamed f.to (node_renamed f.to) h.nodes;
    sites = map_renamed f.to (site_renamed f.to) h.sites;
    servers = map_renamed f.to (info_renamed f.to) h.servers;
  }

  pub size-renamed : (h : NodeState) → size (state_renamed h) ≡ size h
  size-renamed h = ap₂ ◌+◌ (len-renamed f (node_renamed f.to) h.nodes) (ap₂ ◌+◌ (len-renamed f (site_renamed f.to) h.sites) (len-renamed f (info_renamed f.to) h.servers))

  module _ (w : World) where
    -- a world with other nodes has the same rights
    abbrev with : NodeState → World
    with h = world_from h (ports_of w)

    swept : (h : NodeState) → sweep (outside (renamed f w)) (state_renamed h) ≡ state_renamed (sweep (outside w) h)
    swept h = sym (same_state
        (retain_keys-renamed f (node_renamed f.to) h.nodes (stays (with h)) (stays (renamed f (with h))) (stays-renamed f (with h)))
        (retain_keys-renamed f (site_renamed f.to) h.sites (stays (with h)) (stays (renamed f (with h))) (stays-renamed f (with h)))
        (retain_keys-renamed f (info_renamed f.to) h.servers (change.server_stays (with h)) (change.server_stays (renamed f (with h))) (server_stays-renamed f (with h))))

    all_swept : (k : ℕ) (h : NodeState) → sweeps (outside (renamed f w)) k (state_renamed h) ≡ state_renamed (sweeps (outside w) k h)
    all_swept zero h = refl
    all_swept (suc k) h = ap (sweeps (outside (renamed f w)) k) (swept h) ∙ all_swept k (sweep (outside w) h)

    pub settled-renamed : (h : NodeState) → settle (outside (renamed f w)) (state_renamed h) ≡ state_renamed (settle (outside w) h)
    unfolding settle
    settled-renamed h = ap (λ k. sweeps (outside (renamed f w)) k (state_renamed h)) (size-renamed h) ∙ all_swept (size h) h
