-- What is read of nodes and their sites where things have other names.
use Rattle.std.proofs.Common.{◌≡◌, ◌||◌, ℕ, Bool, true, false, cond, is_some, List, [], ◌∷◌, Option, Some, None, map, refl, sym, ap, ap₂, ◌∙◌}
use Rattle.std.specs.Prelude.{nat_lt, if◌then◌else◌, Ok, option_and_then}
use Rattle.std.specs.Option.{option_map}
use Rattle.std.specs.Str.{bytes_eq}
use Rattle.hurd_trans_iface.specs.Nodes.{Entry}
use Rattle.hurd_machine.proofs.Common.{Body, Content, Listing, Name, NameMap, Node, Site, World, active_at, are_kin, body_at, boot_name, entry_in, entry_of, get, header_at, home_at, home_in, is_dir, is_empty_dir, is_entered_at, is_one, is_listed, is_of, is_taken, list_any, lists, lists_at, names_of, node_at, passive_of, same_name, site_at, words_at, words_in}
use Rattle.hurd_machine.specs.Renamed.{OtherNames, body_renamed, entry_renamed, header_renamed, map_renamed, node_renamed, renamed, site_renamed}
use Rattle.hurd_machine.proofs.RenamedMaps.{get-renamed, same_name-renamed}
use Rattle.hurd_machine.proofs.Nodes.{by_option}

-- whether something is there doesn't depend on what it is made
pub is_some-mapped : {A B : Type 0} (g : A → B) (o : Option A) → is_some (option_map g o) ≡ is_some o
is_some-mapped g = by_option _ _ refl (λ x. refl)

module _ (f : OtherNames) where
  -- names that may not be there

  pub is_one-renamed : (s : Name) (o : Option Name) → is_one (f.to s) (option_map f.to o) ≡ is_one s o
  is_one-renamed s None = refl
  is_one-renamed s (Some q) = same_name-renamed f s q

  pub are_kin-renamed : (o p : Option Name) → are_kin (option_map f.to o) (option_map f.to p) ≡ are_kin o p
  are_kin-renamed None p = refl
  are_kin-renamed (Some s) None = refl
  are_kin-renamed (Some s) (Some q) = same_name-renamed f s q

  pub is_listed-renamed : (n : Name) (ns : List Name) → is_listed (f.to n) (map f.to ns) ≡ is_listed n ns
  is_listed-renamed n [] = refl
  is_listed-renamed n (m ∷ ns) = ap₂ ◌||◌ (same_name-renamed f n m) (is_listed-renamed n ns)

  -- whether a name is that of the boot server, or of its root
  pub boot_name-renamed : (n : Name) → same_name (f.to n) boot_name ≡ same_name n boot_name
  boot_name-renamed n = ap (same_name (f.to n)) (sym f.boot) ∙ same_name-renamed f n boot_name

  -- what is in a node

  entry_cond : (b : Bool) (n : Name) (o : Option Name) → cond b (Some (f.to n)) (option_map f.to o) ≡ option_map f.to (cond b (Some n) o)
  entry_cond true n o = refl
  entry_cond false n o = refl

  pub entry_in-renamed : (name : List ℕ) (es : List Entry) → entry_in name (map (entry_renamed f.to) es) ≡ option_map f.to (entry_in name es)
  entry_in-renamed name [] = refl
  entry_in-renamed name (e ∷ es) = ap (cond (bytes_eq e.name name) (Some (f.to e.node))) (entry_in-renamed name es) ∙ entry_cond (bytes_eq e.name name) e.node (entry_in name es)

  pub entry_of-renamed : (name : List ℕ) (b : Option Body) → entry_of name (option_map (body_renamed f.to) b) ≡ option_map f.to (entry_of name b)
  entry_of-renamed name None = refl
  entry_of-renamed name (Some (Content bs)) = refl
  entry_of-renamed name (Some (Listing es)) = entry_in-renamed name es

  -- whether a directory has an entry of a name
  pub has_entry-renamed : (name : List ℕ) (b : Body) → is_some (entry_of name (Some (body_renamed f.to b))) ≡ is_some (entry_of name (Some b))
  has_entry-renamed name b = ap is_some (entry_of-renamed name (Some b)) ∙ is_some-mapped f.to (entry_of name (Some b))

  pub is_taken-renamed : (entry : Option (List ℕ)) (b : Body) → is_taken entry (body_renamed f.to b) ≡ is_taken entry b
  is_taken-renamed None b = refl
  is_taken-renamed (Some name) b = has_entry-renamed name b

  entry_names : (es : List Entry) → map (λ (e : Entry). e.name) (map (entry_renamed f.to) es) ≡ map (λ (e : Entry). e.name) es
  entry_names [] = refl
  entry_names (e ∷ es) = ap (◌∷◌ e.name) (entry_names es)

  pub names_of-renamed : (b : Option Body) → names_of (option_map (body_renamed f.to) b) ≡ names_of b
  names_of-renamed None = refl
  names_of-renamed (Some (Content bs)) = refl
  names_of-renamed (Some (Listing es)) = ap Ok (entry_names es)

  pub is_empty_dir-renamed : (b : Body) → is_empty_dir (body_renamed f.to b) ≡ is_empty_dir b
  is_empty_dir-renamed (Listing []) = refl
  is_empty_dir-renamed b = refl

  entries_of : (n : Name) (es : List Entry) → list_any (is_of (f.to n)) (map (entry_renamed f.to) es) ≡ list_any (is_of n) es
  entries_of n [] = refl
  entries_of n (e ∷ es) = ap₂ ◌||◌ (same_name-renamed f e.node n) (entries_of n es)

  pub lists-renamed : (n : Name) (b : Body) → lists (f.to n) (body_renamed f.to b) ≡ lists n b
  lists-renamed n (Content bs) = refl
  lists-renamed n (Listing es) = entries_of n es

  pub lists_at-renamed : (n : Name) (b : Option Body) → lists_at (f.to n) (option_map (body_renamed f.to) b) ≡ lists_at n b
  lists_at-renamed n None = refl
  lists_at-renamed n (Some b) = lists-renamed n b

  -- what is told of a node that may not be there

  header_of_renamed : (o : Option Node) → option_map (λ (x : Node). x.header) (option_map (node_renamed f.to) o) ≡ option_map (header_renamed f.to) (option_map (λ (x : Node). x.header) o)
  header_of_renamed = by_option _ _ refl (λ x. refl)

  body_of_renamed : (o : Option Node) → option_map (λ (x : Node). x.body) (option_map (node_renamed f.to) o) ≡ option_map (body_renamed f.to) (option_map (λ (x : Node). x.body) o)
  body_of_renamed = by_option _ _ refl (λ x. refl)

  pub passive_of-renamed : (o : Option Node) → passive_of (option_map (node_renamed f.to) o) ≡ passive_of o
  passive_of-renamed = by_option _ _ refl (λ x. refl)

  words_in-renamed : (o : Option Node) → words_in (option_map (node_renamed f.to) o) ≡ words_in o
  words_in-renamed = by_option _ _ refl (λ x. refl)

  -- whether a parent is there is no name
  pub is_entered_at-renamed : (o : Option Node) → is_entered_at (option_map (node_renamed f.to) o) ≡ is_entered_at o
  is_entered_at-renamed None = refl
  is_entered_at-renamed (Some x) = ap (λ (b : Bool). if is_dir x.header.kind then b else nat_lt 0 x.header.links) (is_some-mapped f.to x.header.parent)

  -- nodes of the world

  module _ (w : World) (n : Name) where
    pub node_at-renamed : node_at (renamed f w) (f.to n) ≡ option_map (node_renamed f.to) (node_at w n)
    node_at-renamed = get-renamed f (node_renamed f.to) w.nodes n

    pub header_at-renamed : header_at (renamed f w) (f.to n) ≡ option_map (header_renamed f.to) (header_at w n)
    header_at-renamed = ap (option_map (λ (x : Node). x.header)) node_at-renamed ∙ header_of_renamed (get w.nodes n)

    pub body_at-renamed : body_at (renamed f w) (f.to n) ≡ option_map (body_renamed f.to) (body_at w n)
    body_at-renamed = ap (option_map (λ (x : Node). x.body)) node_at-renamed ∙ body_of_renamed (get w.nodes n)

    pub words_at-renamed : words_at (renamed f w) (f.to n) ≡ words_at w n
    words_at-renamed = ap words_in node_at-renamed ∙ words_in-renamed (get w.nodes n)

    pub entry_at-renamed : (name : List ℕ) → entry_of name (body_at (renamed f w) (f.to n)) ≡ option_map f.to (entry_of name (body_at w n))
    entry_at-renamed name = ap (entry_of name) body_at-renamed ∙ entry_of-renamed name (body_at w n)

  -- sites

  home_of : (o : Option Site) → option_map (λ (r : Site). r.home) (option_map (site_renamed f.to) o) ≡ option_map f.to (option_map (λ (r : Site). r.home) o)
  home_of = by_option _ _ refl (λ x. refl)

  active_of : (o : Option Site) → option_and_then (λ (r : Site). r.active) (option_map (site_renamed f.to) o) ≡ option_map f.to (option_and_then (λ (r : Site). r.active) o)
  active_of = by_option _ _ refl (λ x. refl)

  pub home_in-renamed : (sites : NameMap Site) (n : Name) → home_in (map_renamed f.to (site_renamed f.to) sites) (f.to n) ≡ option_map f.to (home_in sites n)
  home_in-renamed sites n = ap (option_map (λ (r : Site). r.home)) (get-renamed f (site_renamed f.to) sites n) ∙ home_of (get sites n)

  -- whether a node is of a server
  pub is_home_in-renamed : (sites : NameMap Site) (s n : Name) → is_one (f.to s) (home_in (map_renamed f.to (site_renamed f.to) sites) (f.to n)) ≡ is_one s (home_in sites n)
  is_home_in-renamed sites s n = ap (is_one (f.to s)) (home_in-renamed sites n) ∙ is_one-renamed s (home_in sites n)

  module _ (w : World) (n : Name) where
    pub site_at-renamed : site_at (renamed f w) (f.to n) ≡ option_map (site_renamed f.to) (site_at w n)
    site_at-renamed = get-renamed f (site_renamed f.to) w.sites n

    pub home_at-renamed : home_at (renamed f w) (f.to n) ≡ option_map f.to (home_at w n)
    home_at-renamed = home_in-renamed w.sites n

    pub active_at-renamed : active_at (renamed f w) (f.to n) ≡ option_map f.to (active_at w n)
    active_at-renamed = ap (option_and_then (λ (r : Site). r.active)) site_at-renamed ∙ active_of (get w.sites n)

  -- whether two nodes are of one server
  pub kin_at-renamed : (w : World) (n m : Name) → are_kin (home_at (renamed f w) (f.to n)) (home_at (renamed f w) (f.to m)) ≡ are_kin (home_at w n) (home_at w m)
  kin_at-renamed w n m = ap₂ are_kin (home_at-renamed w n) (home_at-renamed w m) ∙ are_kin-renamed (home_at w n) (home_at w m)
