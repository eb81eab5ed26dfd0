-- Nodes and their servers hang together where things have other names.
use Rattle.std.proofs.Common.{◌≡◌, ◌≢◌, ◌∙◌, inl, inr, ℕ, Bool, false, [], ◌∷◌, Some, if◌then◌else◌, length, refl, sym, ap}
use Rattle.std.specs.Option.{option_map}
use Rattle.std.specs.FinSet as set
use Rattle.std.proofs.lemmas.List.{length-map}
use Rattle.hurd_creds.specs.declared.attrs.Kind.TheVariants.{Dir}
use Rattle.hurd_trans_iface.specs.declared.root.Crossing.TheVariants.{Union}
use Rattle.hurd_trans_iface.specs.Meaning.{keeps_tree, root_of, targets_of}
use Rattle.hurd_machine.proofs.Common.{AreSeated, CanBeAt, CanBeWritten, Header, IsAmong, Name, ServerInfo, World, active_in, boot_name, gives_text, header_at, home_in, is_dir, same_name, server_at}
use Rattle.hurd_machine.specs.Sound.{AreHoused, AreOfKind}
use Rattle.hurd_machine.specs.World.{nodes_of}
use Rattle.hurd_machine.specs.Renamed.{OtherNames, header_renamed, info_renamed, renamed}
use Rattle.hurd_machine.proofs.RenamedNodes.{boot_name-renamed, header_at-renamed, home_at-renamed}
use Rattle.hurd_machine.proofs.RenamedServers.{leads_on-renamed, server_at-renamed, shape_at-renamed}
use Rattle.hurd_laws.proofs.FoundRenamed.{of_actives, of_among, of_found, of_headers, of_homes, of_mapped}

module _ (f : OtherNames) (w : World) where
  abbrev other : World
  other = renamed f w

  -- of a node that is there: what holds of its header
  pub at_header : (n : Name) (P : Header → Type 0) → ((k : Header) → header_at w n ≡ Some k → P (header_renamed f.to k)) → (k : Header) → header_at other (f.to n) ≡ Some k → P k
  at_header n = of_mapped (header_renamed f.to) (header_at w n) (header_at-renamed f w n)

  -- and of its server
  pub at_server : (s : Name) (P : ServerInfo → Type 0) → ((i : ServerInfo) → server_at w s ≡ Some i → P (info_renamed f.to i)) → (i : ServerInfo) → server_at other (f.to s) ≡ Some i → P i
  at_server s = of_mapped (info_renamed f.to) (server_at w s) (server_at-renamed f w s)

  pub of_servers : (P : Name → ServerInfo → Type 0) → ((s : Name) (i : ServerInfo) → server_at w s ≡ Some i → P (f.to s) (info_renamed f.to i)) → (s : Name) (i : ServerInfo) → server_at other s ≡ Some i → P s i
  of_servers = of_found f (info_renamed f.to) w.servers

  -- what is under a name is under its other name

  pub header_there : (n : Name) {k : Header} → header_at w n ≡ Some k → header_at other (f.to n) ≡ Some (header_renamed f.to k)
  header_there n is = header_at-renamed f w n ∙ ap (option_map (header_renamed f.to)) is

  pub server_there : (s : Name) {i : ServerInfo} → server_at w s ≡ Some i → server_at other (f.to s) ≡ Some (info_renamed f.to i)
  server_there s is = server_at-renamed f w s ∙ ap (option_map (info_renamed f.to)) is

  pub home_there : (n : Name) {s : Name} → home_in w.sites n ≡ Some s → home_in other.sites (f.to n) ≡ Some (f.to s)
  home_there n is = home_at-renamed f w n ∙ ap (option_map f.to) is

  pub housed-renamed : AreHoused (nodes_of w) → AreHoused (nodes_of other)
  housed-renamed a = record {
    homes = of_headers f w (λ (n : Name) (k : Header). (s : Name) × (i : ServerInfo) × (home_in other.sites n ≡ Some s) × (server_at other s ≡ Some i))
        (λ n k is. let h = a.homes n k is in (f.to h.0, info_renamed f.to h.1, home_there n h.2, server_there h.0 h.3));
    housed = of_homes f w (λ (n s : Name). (k : Header) × (header_at other n ≡ Some k)) (λ n s is. let h = a.housed n s is in (header_renamed f.to h.0, header_there n h.1));
    roots = of_servers (λ (s : Name) (i : ServerInfo). home_in other.sites i.root ≡ Some s) (λ s i is. home_there i.root (a.roots s i is));
    serving = of_servers (λ (s : Name) (i : ServerInfo). (u : ℕ) × (i.ids ≡ record { uids = set.from_list (u ∷ []); gids = set.from_list [] })) (λ s i is. a.serving s i is);
    lone = λ n s i home is. of_homes f w (λ (n s : Name). (i : ServerInfo) → server_at other s ≡ Some i → keeps_tree i.kind ≡ false → n ≡ i.root)
        (λ n s home. at_server s (λ (i : ServerInfo). keeps_tree i.kind ≡ false → f.to n ≡ i.root) (λ i is none. ap f.to (a.lone n s i home is none))) n s home i is;
  }

  pub seated-renamed : AreSeated (nodes_of w) → AreSeated (nodes_of other)
  seated-renamed a = record {
    seated = of_actives f w (λ (n s : Name). (s ≢ boot_name) × (i : ServerInfo) × (server_at other s ≡ Some i))
        (λ n s is. let h = a.seated n s is in (λ e. h.0 (f.apart s boot_name (e ∙ sym f.boot)), info_renamed f.to h.1, server_there s h.2));
    alone = λ n m s on_n on_m. of_actives f w (λ (n s : Name). (m : Name) → active_in other.sites m ≡ Some s → n ≡ m) (λ n s on_n m on_m.
        of_actives f w (λ (m r : Name). r ≡ f.to s → f.to n ≡ m) (λ m r on_r same. ap f.to (a.alone n m s on_n (on_r ∙ ap (λ (q : Name). Some q) (f.apart r s same)))) m (f.to s) on_m refl)
        n s on_n m on_m;
    elsewhere = of_actives f w (λ (n s : Name). home_in other.sites n ≡ Some s → ⊥) (λ n s on_n.
        λ home. of_mapped f.to (home_in w.sites n) (home_at-renamed f w n) (λ (r : Name). r ≡ f.to s → ⊥)
        (λ r is same. a.elsewhere n s on_n (is ∙ ap (λ (q : Name). Some q) (f.apart r s same))) (f.to s) home refl);
  }

  -- where one can be

  pub can_be-renamed : (n : Name) → CanBeAt (nodes_of w) n → CanBeAt (nodes_of other) (f.to n)
  can_be-renamed n (inl e) = inl (ap f.to e ∙ f.boot)
  can_be-renamed n (inr e) = inr (leads_on-renamed f w n ∙ e)

  pub can_write-renamed : (n : Name) → CanBeWritten w n → CanBeWritten other (f.to n)
  can_write-renamed n can = (at_header n (λ (k : Header). is_dir k.kind ≡ false) (λ k is. can.0 k is), ap gives_text (shape_at-renamed f w n) ∙ can.1)

  pub kinds-renamed : AreOfKind (nodes_of w) → AreOfKind (nodes_of other)
  kinds-renamed a = record {
    aims = of_servers (λ (s : Name) (i : ServerInfo). length i.targets ≡ (if same_name s boot_name then 0 else length (targets_of i.kind i.text)))
        (λ s i is. length-map i.targets f.to ∙ a.aims s i is ∙ ap (λ (b : Bool). if b then 0 else length (targets_of i.kind i.text)) (sym (boot_name-renamed f s)));
    ends = λ s n i is. of_servers (λ (s : Name) (i : ServerInfo). (n : Name) → IsAmong n i.targets → CanBeAt (nodes_of other) n)
        (λ s i is. of_among f.to i.targets (CanBeAt (nodes_of other)) (λ n among. can_be-renamed n (a.ends s n i is among))) s i is n;
    branches = λ s n i k is union among at. of_servers (λ (s : Name) (i : ServerInfo). (root_of i.kind i.text).crossing ≡ Union → (n : Name) → IsAmong n i.targets → (k : Header) → header_at other n ≡ Some k → k.kind ≡ Dir)
        (λ s i is union. of_among f.to i.targets (λ (n : Name). (k : Header) → header_at other n ≡ Some k → k.kind ≡ Dir)
        (λ n among. at_header n (λ (k : Header). k.kind ≡ Dir) (λ k at. a.branches s n i k is union among at))) s i is union n among k at;
    roots = λ s i k is at. of_servers (λ (s : Name) (i : ServerInfo). (k : Header) → header_at other i.root ≡ Some k → k.kind ≡ (root_of i.kind i.text).kind)
        (λ s i is. at_header i.root (λ (k : Header). k.kind ≡ (root_of i.kind i.text).kind) (λ k at. a.roots s i k is at)) s i is k at;
  }
