-- What a lookup reads at the nodes that it comes to, where things have other names.
use Rattle.std.proofs.Common.{◌≡◌, ℕ, Bool, true, false, if◌then◌else◌, List, [], ◌∷◌, Option, Some, None, refl, ap, ◌∙◌}
use Rattle.std.specs.Prelude.{◌&&◌, is_some, option_and_then}
use Rattle.std.specs.Option.{option_map}
use Rattle.hurd_creds.specs.Access.{IdSets, may}
use Rattle.hurd_ports.specs.declared.parents.Parent.{Parent}
use Rattle.hurd_machine.proofs.Common.{Exec, Header, Name, ServerInfo, World, active_at, bare, body_at, entry_of, header_at, is_dir, node_at, passive_of, server_at}
use Rattle.hurd_machine.specs.Renamed.{OtherNames, header_renamed, info_renamed, renamed}
use Rattle.hurd_machine.proofs.RenamedMaps.{same_name-renamed}
use Rattle.hurd_machine.proofs.RenamedNodes.{active_at-renamed, entry_at-renamed, header_at-renamed, is_some-mapped, node_at-renamed, passive_of-renamed}
use Rattle.hurd_machine.proofs.RenamedServers.{server_at-renamed}
use Rattle.hurd_lookup.specs.Lookup.{Active, Waiting, came_in_at, crossed_at, root_on, shows_name, ways_into}
use Rattle.hurd_laws.proofs.LookupRenamed.{crossed_renamed, ways_renamed}

module _ (f : OtherNames) where
  -- ways

  pub came_in_at-renamed : (ways : List Parent) (d : Name) → came_in_at (ways_renamed f.to ways) (f.to d) ≡ came_in_at ways d
  came_in_at-renamed [] d = refl
  came_in_at-renamed (way ∷ ways) d = same_name-renamed f d way.at

  pub ways_into-renamed : (b : Name) (ways : List Parent) → ways_into (f.to b) (ways_renamed f.to ways) ≡ ways_renamed f.to (ways_into b ways)
  ways_into-renamed b [] = refl
  ways_into-renamed b (way ∷ ways) = refl

  module _ (w : World) where
    -- whether a branch shows a name

    has_entry : (name : List ℕ) (d : Name) → is_some (entry_of name (body_at (renamed f w) (f.to d))) ≡ is_some (entry_of name (body_at w d))
    has_entry name d = ap is_some (entry_at-renamed f w d name) ∙ is_some-mapped f.to (entry_of name (body_at w d))

    shows_by : (ids : IdSets) (name : List ℕ) (b : Name) (o : Option Header) → shows_name (renamed f w) ids name (f.to b) (option_map (header_renamed f.to) o) ≡ shows_name w ids name b o
    shows_by ids name b None = refl
    shows_by ids name b (Some h) = ap (λ (there : Bool). if is_dir h.kind then may ids (bare h) Exec && there else false) (has_entry name b)

    pub shows_name-renamed : (ids : IdSets) (name : List ℕ) (b : Name)
        → shows_name (renamed f w) ids name (f.to b) (header_at (renamed f w) (f.to b)) ≡ shows_name w ids name b (header_at w b)
    shows_name-renamed ids name b = ap (shows_name (renamed f w) ids name (f.to b)) (header_at-renamed f w b) ∙ shows_by ids name b (header_at w b)

    -- what there is to cross

    root_of_server : (o : Option ServerInfo) → option_map (λ (i : ServerInfo). i.root) (option_map (info_renamed f.to) o) ≡ option_map f.to (option_map (λ (i : ServerInfo). i.root) o)
    root_of_server None = refl
    root_of_server (Some i) = refl

    -- the root of a server, if there is one
    abbrev root_in : World → Option Name → Option Name
    root_in x o = option_and_then (λ s. option_map (λ (i : ServerInfo). i.root) (server_at x s)) o

    pub root_in-renamed : (o : Option Name) → root_in (renamed f w) (option_map f.to o) ≡ option_map f.to (root_in w o)
    root_in-renamed None = refl
    root_in-renamed (Some s) = ap (option_map (λ (i : ServerInfo). i.root)) (server_at-renamed f w s) ∙ root_of_server (server_at w s)

    pub root_on-renamed : (n : Name) → root_on (renamed f w) (f.to n) ≡ option_map f.to (root_on w n)
    root_on-renamed n = ap (root_in (renamed f w)) (active_at-renamed f w n) ∙ root_in-renamed (active_at w n)

    has_active : (n : Name) → is_some (active_at (renamed f w) (f.to n)) ≡ is_some (active_at w n)
    has_active n = ap is_some (active_at-renamed f w n) ∙ is_some-mapped f.to (active_at w n)

    passive_at : (n : Name) → passive_of (node_at (renamed f w) (f.to n)) ≡ passive_of (node_at w n)
    passive_at n = ap passive_of (node_at-renamed f w n) ∙ passive_of-renamed f (node_at w n)

    pub crossed_at-renamed : (n : Name) → crossed_at (renamed f w) (f.to n) ≡ option_map (crossed_renamed f.to) (crossed_at w n)
    crossed_at-renamed n = rw (has_active n, root_on-renamed n, passive_at n) (go (is_some (active_at w n)) (root_on w n) (passive_of (node_at w n)))
      where
        go : (some : Bool) (o : Option Name) (words : Option (List (List ℕ)))
            → (if some then option_map Active (option_map f.to o) else option_map Waiting words) ≡ option_map (crossed_renamed f.to) (if some then option_map Active o else option_map Waiting words)
        go true None words = refl
        go true (Some root) words = refl
        go false o None = refl
        go false o (Some ws) = refl
