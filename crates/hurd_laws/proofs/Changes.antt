-- Changes of things with other names: each does to the world with other names what the same does to the world.
use Rattle.std.proofs.Common.{◌≡◌, ◌++◌, not, ℕ, Bool, true, false, if◌then◌else◌, List, [], ◌∷◌, Option, Some, None, refl, sym, ap, ap₂, ◌∙◌}
use Rattle.std.specs.FinMap as fin
use Rattle.std.specs.Option.{option_map}
use Rattle.hurd_creds.specs.NameMaps.{map_values}
use Rattle.hurd_machine.proofs.Common.{Attach, Body, Change, DropServer, EditBody, EditHeader, EditOpen, EditTask, Header, LetGo, MakeNode, MakeOpen, Name, NameMap, Node, NodeMap, NodeState, Opened, Right, Send, ServerInfo, SetText, Settle, Site, Task, Unseat, World, apply, apply_all, attached, edit, is_held, is_one, is_other, new_site, out_server, vacated, with_active, with_text}
use Rattle.hurd_trans_iface.specs.Nodes.{with_body, with_header}
use Rattle.hurd_ports.specs.Steps.{named, with_sent}
use Rattle.hurd_ports.specs.Tables.{OpenMap}
use Rattle.hurd_nodes.specs.Shown.{without_sites}
use Rattle.hurd_machine.specs.World.{nodes_of}
use Rattle.hurd_machine.specs.Renamed.{OtherNames, body_renamed, header_renamed, info_renamed, map_renamed, node_renamed, open_renamed, renamed, right_renamed, site_renamed, task_renamed}
use Rattle.hurd_machine.proofs.Keeping.{apply_all-append}
use Rattle.hurd_machine.proofs.RenamedMaps.{edit-renamed, insert-renamed, remove-renamed, retain_keys-renamed}
use Rattle.hurd_machine.proofs.RenamedNodes.{is_one-renamed, is_home_in-renamed}
use Rattle.hurd_machine.proofs.RenamedTasks.{is_held-renamed}
use Rattle.hurd_laws.proofs.MapChanges.{map_values-renamed}
use Rattle.hurd_laws.proofs.Settled.{same_state, settled-renamed, state_renamed}
use Rattle.hurd_laws.proofs.TaskChanges.{edit_task-renamed, named-renamed, with_sent-renamed}

-- the same world
same_world : {a b : NodeState} {o p : OpenMap} {ts us : List Task} → a ≡ b → o ≡ p → ts ≡ us
    → ◌≡◌ {A = World} (record { nodes = a.nodes; sites = a.sites; servers = a.servers; opens = o; tasks = ts }) (record { nodes = b.nodes; sites = b.sites; servers = b.servers; opens = p; tasks = us })
same_world {b = b} {o = o} {ts = ts} nodes opens tasks =
    ap (λ (h : NodeState). record { nodes = h.nodes; sites = h.sites; servers = h.servers; opens = o; tasks = ts }) nodes
    ∙ ap₂ (λ (m : OpenMap) (xs : List Task). record { nodes = b.nodes; sites = b.sites; servers = b.servers; opens = m; tasks = xs }) opens tasks

module _ (f : OtherNames) where
  -- a change does to the world with other names what another does to the world
  pub record One (c d : Change) : Type 0 where
    pub same : (w : World) → apply d (renamed f w) ≡ renamed f (apply c w)

  -- so do several, one after another
  pub record Alike (cs ds : List Change) : Type 0 where
    pub same : (w : World) → apply_all ds (renamed f w) ≡ renamed f (apply_all cs w)

  pub none : Alike [] []
  none = record { same = λ w. refl }

  pub cons : {c d : Change} {cs ds : List Change} → One c d → Alike cs ds → Alike (c ∷ cs) (d ∷ ds)
  cons {c} {d} {cs} {ds} one more = record { same = λ w. ap (apply_all ds) (one.same w) ∙ more.same (apply c w) }

  pub just : {c d : Change} → One c d → Alike (c ∷ []) (d ∷ [])
  just one = cons one none

  pub both : {cs ds es gs : List Change} → Alike cs ds → Alike es gs → Alike (cs ++ es) (ds ++ gs)
  both {cs} {ds} {es} {gs} one two = record {
    same = λ w. apply_all-append ds gs (renamed f w) ∙ ap (apply_all gs) (one.same w) ∙ two.same (apply_all cs w) ∙ ap (renamed f) (sym (apply_all-append cs es w));
  }

  -- of nodes

  pub edits_header : (n : Name) (g h : Header → Header) → ((x : Header) → h (header_renamed f.to x) ≡ header_renamed f.to (g x)) → One (EditHeader n g) (EditHeader (f.to n) h)
  edits_header n g h same = record {
    same = λ w. ap (λ (m : NodeMap). record (renamed f w) { nodes = m })
        (sym (edit-renamed f (node_renamed f.to) w.nodes n (with_header g) (with_header h) (λ x. ap (λ (k : Header). record (node_renamed f.to x) { header = k }) (same x.header))));
  }

  pub edits_body : (n : Name) (g h : Body → Body) → ((b : Body) → h (body_renamed f.to b) ≡ body_renamed f.to (g b)) → One (EditBody n g) (EditBody (f.to n) h)
  edits_body n g h same = record {
    same = λ w. ap (λ (m : NodeMap). record (renamed f w) { nodes = m })
        (sym (edit-renamed f (node_renamed f.to) w.nodes n (with_body g) (with_body h) (λ x. ap (λ (b : Body). record (node_renamed f.to x) { body = b }) (same x.body))));
  }

  -- what its task makes keeps its name

  module _ {X Y : Type 0} (g : X → Y) where
    insert_kept : (m : NameMap X) (n : Name) (x : X) → f.to n ≡ n → fin.insert (map_renamed f.to g m) n (g x) ≡ map_renamed f.to g (fin.insert m n x)
    insert_kept m n x keeps = ap (λ (q : Name). fin.insert (map_renamed f.to g m) q (g x)) (sym keeps) ∙ sym (insert-renamed f g m n x)

  pub makes_node : (n s : Name) (x : Node) → f.to n ≡ n → One (MakeNode n s x) (MakeNode n (f.to s) (node_renamed f.to x))
  makes_node n s x keeps = record {
    same = λ w. same_world
        (same_state (insert_kept (node_renamed f.to) w.nodes n x keeps) (insert_kept (site_renamed f.to) w.sites n (new_site s) keeps) refl)
        refl
        (edit_task-renamed f f.more w.tasks n.task.0 (named 1) (named 1) (named-renamed f (f.more n.task.0) 1));
  }

  -- of opens and tasks

  pub edits_open : (o : Name) (g h : Opened → Opened) → ((z : Opened) → h (open_renamed f.to z) ≡ open_renamed f.to (g z)) → One (EditOpen o g) (EditOpen (f.to o) h)
  edits_open o g h same = record { same = λ w. ap (λ (m : OpenMap). record (renamed f w) { opens = m }) (sym (edit-renamed f (open_renamed f.to) w.opens o g h same)) }

  pub makes_open : (o : Name) (z : Opened) → f.to o ≡ o → One (MakeOpen o z) (MakeOpen o (open_renamed f.to z))
  makes_open o z keeps = record {
    same = λ w. same_world refl (insert_kept (open_renamed f.to) w.opens o z keeps)
        (edit_task-renamed f f.more w.tasks o.task.0 (named 1) (named 1) (named-renamed f (f.more o.task.0) 1));
  }

  let_go : (b c : Bool) → c ≡ b → (m : OpenMap) (o : Name)
      → (if c then map_renamed f.to (open_renamed f.to) m else fin.remove (map_renamed f.to (open_renamed f.to) m) (f.to o)) ≡ map_renamed f.to (open_renamed f.to) (if b then m else fin.remove m o)
  let_go b c is m o = ap (λ (d : Bool). if d then map_renamed f.to (open_renamed f.to) m else fin.remove (map_renamed f.to (open_renamed f.to) m) (f.to o)) is ∙ go b
    where
      go : (b : Bool) → (if b then map_renamed f.to (open_renamed f.to) m else fin.remove (map_renamed f.to (open_renamed f.to) m) (f.to o)) ≡ map_renamed f.to (open_renamed f.to) (if b then m else fin.remove m o)
      go true = refl
      go false = sym (remove-renamed f (open_renamed f.to) m o)

  pub lets_go : (o : Name) → One (LetGo o) (LetGo (f.to o))
  lets_go o = record { same = λ w. ap (λ (m : OpenMap). record (renamed f w) { opens = m }) (let_go (is_held w.tasks o) (is_held (renamed f w).tasks (f.to o)) (is_held-renamed f w o) w.opens o) }

  pub edits_task : (q : ℕ) (g h : Task → Task) → ((x : Task) → h (task_renamed f.to (f.more q) x) ≡ task_renamed f.to (f.more q) (g x)) → One (EditTask q g) (EditTask q h)
  edits_task q g h same = record { same = λ w. ap (λ (ts : List Task). record (renamed f w) { tasks = ts }) (edit_task-renamed f f.more w.tasks q g h same) }

  pub sends : (r : Right) (q : ℕ) → One (Send r q) (Send (right_renamed f.to r) q)
  sends r q = record { same = λ w. ap (λ (ts : List Task). record (renamed f w) { tasks = ts }) (edit_task-renamed f f.more w.tasks q (with_sent r) (with_sent (right_renamed f.to r)) (with_sent-renamed f (f.more q) r)) }

  -- of servers

  vacated_by : (b c : Bool) → c ≡ b → (o : Option Name) → (if c then None else option_map f.to o) ≡ option_map f.to (if b then None else o)
  vacated_by b c is o = ap (λ (d : Bool). if d then None else option_map f.to o) is ∙ go b
    where
      go : (b : Bool) → (if b then None else option_map f.to o) ≡ option_map f.to (if b then None else o)
      go true = refl
      go false = refl

  vacated-renamed : (s : Name) (r : Site) → vacated (f.to s) (site_renamed f.to r) ≡ site_renamed f.to (vacated s r)
  vacated-renamed s r = ap (λ (o : Option Name). record (site_renamed f.to r) { active = o }) (vacated_by (is_one s r.active) (is_one (f.to s) (option_map f.to r.active)) (is_one-renamed f s r.active) r.active)

  module _ (s : Name) (h : NodeState) where
    other_alike : (n : Name) → is_other (f.to s) (state_renamed f h).sites (f.to n) ≡ is_other s h.sites n
    other_alike n = ap not (is_home_in-renamed f h.sites s n)

    pub without_sites-renamed : without_sites (f.to s) (state_renamed f h).sites ≡ (state_renamed f (record h { sites = without_sites s h.sites })).sites
    without_sites-renamed =
        ap (map_values (vacated (f.to s))) (sym (retain_keys-renamed f (site_renamed f.to) h.sites (is_other s h.sites) (is_other (f.to s) (state_renamed f h).sites) other_alike))
        ∙ sym (map_values-renamed f (site_renamed f.to) (vacated s) (vacated (f.to s)) (vacated-renamed s) (fin.retain_keys h.sites (is_other s h.sites)))

    pub out_server-renamed : out_server (f.to s) (state_renamed f h) ≡ state_renamed f (out_server s h)
    out_server-renamed = same_state
        (sym (retain_keys-renamed f (node_renamed f.to) h.nodes (is_other s h.sites) (is_other (f.to s) (state_renamed f h).sites) other_alike))
        without_sites-renamed
        (sym (remove-renamed f (info_renamed f.to) h.servers s))

  pub drops_server : (s : Name) → One (DropServer s) (DropServer (f.to s))
  drops_server s = record { same = λ w. same_world (out_server-renamed s (nodes_of w)) refl refl }

  attached-renamed : (s at : Name) (i : ServerInfo) (x : Node) (h : NodeState) → f.to s ≡ s → attached s (f.to at) (info_renamed f.to i) (node_renamed f.to x) (state_renamed f h) ≡ state_renamed f (attached s at i x h)
  attached-renamed s at i x h keeps =
      let k = out_server s h in
      let out : out_server s (state_renamed f h) ≡ state_renamed f k = ap (λ (q : Name). out_server q (state_renamed f h)) (sym keeps) ∙ out_server-renamed s h in
      let home : new_site s ≡ site_renamed f.to (new_site s) = ap (λ (q : Name). new_site q) (sym keeps) in
      let seat : NameMap Site → NameMap Site = λ m. edit (f.to at) (with_active (Some s)) m in
      same_state
      (ap (λ (l : NodeState). fin.insert l.nodes (f.to i.root) (node_renamed f.to x)) out ∙ sym (insert-renamed f (node_renamed f.to) k.nodes i.root x))
      (ap (λ (l : NodeState). seat (fin.insert l.sites (f.to i.root) (new_site s))) out
      ∙ ap (λ (r : Site). seat (fin.insert (state_renamed f k).sites (f.to i.root) r)) home
      ∙ ap seat (sym (insert-renamed f (site_renamed f.to) k.sites i.root (new_site s)))
      ∙ sym (edit-renamed f (site_renamed f.to) (fin.insert k.sites i.root (new_site s)) at (with_active (Some s)) (with_active (Some s)) (λ r. ap (λ (q : Name). record (site_renamed f.to r) { active = Some q }) (sym keeps))))
      (ap (λ (l : NodeState). fin.insert l.servers s (info_renamed f.to i)) out ∙ insert_kept (info_renamed f.to) k.servers s i keeps)

  pub attaches : (s at : Name) (i : ServerInfo) (x : Node) → f.to s ≡ s → One (Attach s at i x) (Attach s (f.to at) (info_renamed f.to i) (node_renamed f.to x))
  attaches s at i x keeps = record {
    same = λ w. same_world (attached-renamed s at i x (nodes_of w) keeps) refl
        (edit_task-renamed f f.more w.tasks s.task.0 (named 2) (named 2) (named-renamed f (f.more s.task.0) 2));
  }

  pub unseats : (n : Name) → One (Unseat n) (Unseat (f.to n))
  unseats n = record {
    same = λ w. ap (λ (m : NameMap Site). record (renamed f w) { sites = m })
        (sym (edit-renamed f (site_renamed f.to) w.sites n (with_active None) (with_active None) (λ r. refl)));
  }

  pub sets_text : (s : Name) (text : List ℕ) → One (SetText s text) (SetText (f.to s) text)
  sets_text s text = record {
    same = λ w. ap (λ (m : NameMap ServerInfo). record (renamed f w) { servers = m })
        (sym (edit-renamed f (info_renamed f.to) w.servers s (with_text text) (with_text text) (λ i. refl)));
  }

  pub settles : One Settle Settle
  settles = record { same = λ w. same_world (settled-renamed f w (nodes_of w)) refl refl }
