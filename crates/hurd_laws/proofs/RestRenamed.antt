-- Nodes are filled as their servers have them, and nothing is to be taken out, where things have other names.
use Rattle.std.proofs.Common.{◌≡◌, ◌∙◌, ◌||◌, ◌&&◌, Bool, true, Option, Some, None, refl, sym, ap, ap₂}
use Rattle.std.specs.Option.{option_map}
use Rattle.hurd_trans_iface.proofs.Goods.{nameless}
use Rattle.hurd_nodes.specs.Settle.{any_in, stays_by, stays_with}
use Rattle.hurd_nodes.proofs.PartLaws.{any_in-found, any_in-here, same_bool}
use Rattle.hurd_machine.proofs.Common.{AreFilled, AtRest, IsFilled, Name, NameMap, Node, Opened, ServerInfo, Site, World, get, home_at, info_at, is_entered_at, is_held, is_one, is_listed, namings, same_name, server_at, server_of, stays}
use Rattle.hurd_machine.specs.Change as change
use Rattle.hurd_machine.specs.World.{nodes_of}
use Rattle.hurd_machine.specs.Renamed.{OtherNames, info_renamed, map_renamed, node_renamed, open_renamed, renamed, site_renamed}
use Rattle.hurd_machine.proofs.RenamedMaps.{get-renamed, same_name-renamed}
use Rattle.hurd_machine.proofs.RenamedNodes.{boot_name-renamed, home_at-renamed, is_entered_at-renamed, is_one-renamed, is_listed-renamed, node_at-renamed}
use Rattle.hurd_machine.proofs.RenamedServers.{info_at-renamed, server_at-renamed}
use Rattle.hurd_machine.proofs.RenamedTasks.{is_controlled-renamed, is_held-renamed, is_named-renamed}
use Rattle.hurd_laws.proofs.FoundRenamed.{of_found, of_mapped}

module _ (f : OtherNames) where
  filled : (i : ServerInfo) (x : Node) → IsFilled i x → IsFilled (info_renamed f.to i) (node_renamed f.to x)
  filled i x is = (is.0 ∙ sym ((nameless i.kind).size f.to i.text x.body), (nameless i.kind).holds f.to x.body ∙ is.1, is.2)

  -- whether something in a map passes a test that holds of other names alike
  module _ {X Y : Type 0} (g : X → Y) (p : Name → X → Bool) (q : Name → Y → Bool) (same : (n : Name) (x : X) → q (f.to n) (g x) ≡ p n x) where
    pub any_in-renamed : (m : NameMap X) → any_in q (map_renamed f.to g m) ≡ any_in p m
    any_in-renamed m = same_bool _ _
        (λ some.
        let k = any_in-found q (map_renamed f.to g m) some in
        of_found f g m (λ (n : Name) (y : Y). q n y ≡ true → any_in p m ≡ true) (λ n x is holds. any_in-here p m n x is (sym (same n x) ∙ holds)) k.name k.item k.is k.holds)
        (λ some.
        let k = any_in-found p m some in
        any_in-here q (map_renamed f.to g m) (f.to k.name) (g k.item) (get-renamed f g m k.name ∙ ap (option_map g) k.is) (same k.name k.item ∙ k.holds))

  module _ (w : World) where
    abbrev other : World
    other = renamed f w

    pub filled-renamed : AreFilled (nodes_of w) → AreFilled (nodes_of other)
    filled-renamed a n x i is at = of_found f (node_renamed f.to) w.nodes (λ (n : Name) (x : Node). (i : ServerInfo) → server_of (nodes_of other) n ≡ Some i → IsFilled i x) (λ n x is.
        of_mapped (info_renamed f.to) (info_at w n) (info_at-renamed f w n) (λ (i : ServerInfo). IsFilled i (node_renamed f.to x)) (λ i at. filled i x (a n x i is at))) n x is i at

    -- what is named, from outside or as a target
    pub named-renamed : (n : Name) → (namings other).held (f.to n) ≡ (namings w).held n
    named-renamed n = ap₂ ◌||◌ (is_named-renamed f w n)
        (any_in-renamed (info_renamed f.to) (λ (s : Name) (i : ServerInfo). is_listed n i.targets) (λ (s : Name) (i : ServerInfo). is_listed (f.to n) i.targets) (λ s i. is_listed-renamed f n i.targets) w.servers)

    pub server_stays-renamed : (s : Name) → change.server_stays other (f.to s) ≡ change.server_stays w s
    server_stays-renamed s = ap₂ ◌||◌ (boot_name-renamed f s) (ap₂ ◌||◌ (is_controlled-renamed f w s) (ap₂ ◌||◌
        (any_in-renamed (site_renamed f.to) (λ (n : Name) (r : Site). is_one s r.active) (λ (n : Name) (r : Site). is_one (f.to s) r.active) (λ n r. is_one-renamed f s r.active) w.sites)
        (any_in-renamed (site_renamed f.to) (λ (n : Name) (r : Site). same_name s r.home && (namings w).held n) (λ (n : Name) (r : Site). same_name (f.to s) r.home && (namings other).held n)
        (λ n r. ap₂ ◌&&◌ (same_name-renamed f s r.home) (named-renamed n)) w.sites)))

    pub stays_with-renamed : (n s : Name) (o : Option ServerInfo) → stays_with (namings other) (nodes_of other) (f.to n) (f.to s) (option_map (info_renamed f.to) o) ≡ stays_with (namings w) (nodes_of w) n s o
    stays_with-renamed n s None = refl
    stays_with-renamed n s (Some i) = ap₂ ◌&&◌ (server_stays-renamed s) (ap₂ ◌||◌ (same_name-renamed f n i.root)
        (ap₂ ◌||◌ (ap is_entered_at (node_at-renamed f w n) ∙ is_entered_at-renamed f (get w.nodes n)) (named-renamed n)))

    pub stays_by-renamed : (n : Name) (o : Option Name) → stays_by (namings other) (nodes_of other) (f.to n) (option_map f.to o) ≡ stays_by (namings w) (nodes_of w) n o
    stays_by-renamed n None = refl
    stays_by-renamed n (Some s) = ap (stays_with (namings other) (nodes_of other) (f.to n) (f.to s)) (server_at-renamed f w s) ∙ stays_with-renamed n s (server_at w s)

    pub stays-renamed : (n : Name) → stays other (f.to n) ≡ stays w n
    stays-renamed n = ap (stays_by (namings other) (nodes_of other) (f.to n)) (home_at-renamed f w n) ∙ stays_by-renamed n (home_at w n)

    pub at_rest-renamed : AtRest w → AtRest other
    at_rest-renamed a = record {
      nodes = of_found f (node_renamed f.to) w.nodes (λ (n : Name) (x : Node). stays other n ≡ true) (λ n x is. stays-renamed n ∙ a.nodes n x is);
      servers = of_found f (info_renamed f.to) w.servers (λ (s : Name) (i : ServerInfo). change.server_stays other s ≡ true) (λ s i is. server_stays-renamed s ∙ a.servers s i is);
      opens = of_found f (open_renamed f.to) w.opens (λ (o : Name) (z : Opened). is_held other.tasks o ≡ true) (λ o z is. is_held-renamed f w o ∙ a.opens o z is);
    }
