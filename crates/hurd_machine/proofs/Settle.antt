-- A world is settled once what nothing names is gone: who sees it sees the same; and changes that leave a world settled.
use Rattle.std.proofs.Common.{◌≡◌, ◌⊎◌, ℕ, Bool, true, List, [], ◌∷◌, Option, Some, None, slice_get, sym, refl, ◌∙◌, ap, ap₂, subst, inl, inr, true≢false}
use Rattle.std.specs.Option.{option_map}
use Rattle.hurd_machine.proofs.Common.{ABody, AUsers, Active, AnAttr, AnEmpty, AnOptions, AtRest, Attach, AttrOf, Body, BodyOf, Change, Child, Coherent, DropServer, EditBody, EditHeader, EditOpen, EditTask, EmptyOf, Header, Holds, IdSets, Io, IoRight, IsAmong, IsGone, IsSettled, Knows, LetGo, Linked, MakeNode, MakeOpen, Name, Node, NodeMap, NodeState, OfControl, OfNode, OfSeat, OpenFlags, OpenOf, OptionsOf, Part, Pending, Seen, Sees, Send, ServerInfo, ServerRoot, SetText, Settle, Site, Start, Target, Task, TaskOf, TextOf, AText, faced, Unseat, UsersOf, Way, World, apply, apply_all, body_at, edit, edit_task, ends_at, fresh, get, header_at, home_at, info_at, info_in, is_empty_dir, is_entered, is_entered_at, is_held, is_one, namings, new_open, new_right, new_site, outside, part, opening, ports_of, server_at, site_at, stays, task_at, users, with_body, with_header, with_port, with_sent, with_text, EndsOf, AnEnds, ATotal, TotalOf, total_if, total_at, tree_by}
use Rattle.hurd_machine.proofs.Sites.{seat_kept}
use Rattle.hurd_nodes.proofs.Sites.{home-here, home-apart, home_by}
use Rattle.hurd_creds.proofs.NameLaws.{same_or_apart, get_here, get_apart, edit_here, edit_apart}
use Rattle.hurd_nodes.specs.Settle as kept
use Rattle.hurd_nodes.proofs.SettleLaws.{settle-is}
use Rattle.std.proofs.lemmas.Bool.{cases_Bool}
use Rattle.hurd_ports.specs.declared.parents.Parent.{Parent as Pair}
use Rattle.hurd_ports.specs.Tables.{nodes_of as nodes_named}
use Rattle.hurd_ports.specs.Steps.{named}
use Rattle.hurd_machine.specs.World.{nodes_of}
use Rattle.hurd_machine.specs.Sight.{Root, Held, Controlled, Parent, Value}
use Rattle.hurd_machine.specs.Change.{server_stays, settle}
use Rattle.hurd_machine.proofs.Nodes.{attr_same, header_in, body_in, empty_in, none_mapped, edit_keeps, was_edited}
use Rattle.hurd_machine.proofs.Tasks.{sent_keeps, edit_here as task_here}
use Rattle.hurd_machine.proofs.Ends.{ends_same, ends_gone}
use Rattle.hurd_machine.proofs.Held.{KeepsHeld, held_one}
use Rattle.hurd_machine.proofs.Holders.{held_by_right, KeepsRights, NameMore, still, still_more}
use Rattle.hurd_creds.proofs.Retained.{retained_if, retained, dropped, was_retained, none_retained}
use Rattle.hurd_machine.proofs.Stays.{info_still, sweep, way_at, way_parent, server_more, kept_more, lives_at, lives_active, lives_controlled, stays_entered, stays_named, stays_target, held_more}
use Rattle.hurd_machine.proofs.Swept.{root_stays, boot_stays, entry_stays, parent_stays, settle_keeps}
use Rattle.hurd_machine.proofs.Coherence.{LeavesSeats, was, entry_lists, home_server}
use Rattle.hurd_machine.proofs.Texts.{server_was, held_yet, stays_kept}
use Rattle.hurd_machine.proofs.Rights.{port_keeps, port_has}
use Rattle.hurd_machine.proofs.Views.{Agree, Agree-refl, Agree-trans, text_known}
use Rattle.hurd_machine.proofs.Faces.{face_in, text_in}
use Rattle.hurd_machine.proofs.ServerParts.{users_by}
use Rattle.hurd_machine.proofs.Totals.{total_swept, unentered_none, own_total}

-- what is left once a world is settled stays

-- a sweep takes nothing more
settled_whole : (w : World) → kept.sweep (outside w) (nodes_of (settle w)) ≡ nodes_of (settle w)
settled_whole w = (settle-is (outside w) (nodes_of w)).stays

pub settle_settled : (w : World) → IsSettled (ports_of w) → AtRest (settle w)
settle_settled w held = record {
  nodes = λ n x e. (was_retained (settle w).nodes (stays (settle w)) n x (ap (λ (h : NodeState). get h.nodes n) (settled_whole w) ∙ e)).1;
  servers = λ s i e. (was_retained (settle w).servers (server_stays (settle w)) s i (ap (λ (h : NodeState). get h.servers s) (settled_whole w) ∙ e)).1;
  opens = held;
}

-- the node of a right stays, so servers have as many users
users_still : (w : World) → Coherent w → (s : Name) → users (sweep w) s ≡ users w s
users_still w c s = users_by w (sweep w) s w.tasks (λ t x r at i. ap (λ o. is_one s (home_by o)) (retained_if w.sites (stays w) r.node (λ site e.
    let home = ap home_by e in
    let k = home_server c r.node site.home home in
    stays_named w t x (Io r) r.node site.home k.0 at i (inl refl) home k.1)))

-- what goes while its server stays counts for nothing
total_after : (w : World) (s : Name) → server_at (sweep w) s ≡ server_at w s → server_stays w s ≡ true → total_at (sweep w) s ≡ total_at w s
total_after w s same lives = ap (λ o. total_if (tree_by o) (own_total (sweep w).nodes (sweep w).sites s)) same ∙ go (server_at w s) refl
  where
    go : (o : Option ServerInfo) → server_at w s ≡ o → total_if (tree_by o) (own_total (sweep w).nodes (sweep w).sites s) ≡ total_if (tree_by o) (own_total w.nodes w.sites s)
    go None e = refl
    go (Some i) e = ap (total_if (tree_by (Some i))) (total_swept w.nodes w.sites s (stays w) (λ n x out home is. elim (cases_Bool (is_entered x.header)) [
      | inl entered ↦ let kept = stays_entered w n s i home e lives (ap is_entered_at is ∙ entered) in absurd (true≢false (sym kept ∙ out))
      | inr loose ↦ unentered_none x.header loose
    ]))

-- what S sees stays
module _ (S : ℕ → Bool) (w : World) (c : Coherent w) (l : Linked (nodes_of w)) where
  named_alive : (r : IoRight) (n m : Name) (h : Header) → Holds S w (Io r) → n ≡ m → IsAmong m (nodes_named (Io r)) → header_at w n ≡ Some h → stays w n ≡ true
  named_alive r n m h held e named eh =
      let k = c.housing.homes n h eh in
      stays_named w held.task held.seat (Io r) n k.0 k.1 held.is_task held.here (subst (λ z. IsAmong z (nodes_named (Io r))) (sym e) named) k.2 k.3

  root_alive : (n s : Name) (i : ServerInfo) → server_at w s ≡ Some i → server_stays w s ≡ true → n ≡ i.root → stays w n ≡ true
  root_alive n s i es lives e = subst (λ z. stays w z ≡ true) (sym e) (root_stays w c s i es lives)

  alive : (n : Name) → Seen S w n → (h : Header) → header_at w n ≡ Some h → stays w n ≡ true
  alive n (Root e) h eh = subst (λ z. stays w z ≡ true) (sym e) (boot_stays w c)
  alive n (Held r held e) h eh = named_alive r n r.node h held e (inl refl) eh
  alive n (Way r p held i e) h eh = elim e [
    | inl at ↦ named_alive r n p.at h held at (inr (way_at p r.parents i)) eh
    | inr up ↦ named_alive r n p.parent h held up (inr (way_parent p r.parents i)) eh
  ]
  alive n (Controlled s i held es e) h eh = root_alive n s i es (lives_controlled w held.task held.seat s held.is_task held.here) e
  alive n (Pending held) h eh =
      let k = c.housing.homes n h eh in
      stays_named w held.task held.seat (Start n) n k.0 k.1 held.is_task held.here (inl refl) k.2 k.3
  alive n (Child d k name sd ed dir could en) h eh = entry_stays w c l d n h (entry_lists name (body_at w d) n en) eh (alive d sd k ed)
  alive n (Parent d k sd ed ep) h eh = parent_stays w c l d n k ed ep (alive d sd k ed)
  alive n (Active m s i sm em es e) h eh = root_alive n s i es (lives_active w m s em) e
  alive n (ServerRoot m s i sm em es could e) h eh =
      let k = c.housing.housed m s em in
      root_alive n s i es (lives_at w m s (alive m sm k.0 k.1) em) e
  alive n (Target m s i sm em es aim) h eh =
      let k = c.housing.homes n h eh in
      stays_target w s n k.0 i k.1 es aim k.2 k.3

  -- a node that is seen is as it was, and so is its site
  seen_still : (read : Option Node → Option Site → Value) (n : Name) → Seen S w n → read (get (sweep w).nodes n) (site_at (sweep w) n) ≡ read (get w.nodes n) (site_at w n)
  seen_still read n s =
      ap₂ read (retained_if w.nodes (stays w) n (λ x e. alive n s x.header (ap header_in e)))
      (retained_if w.sites (stays w) n (λ r e. let h = c.housing.housed n r.home (ap home_by e) in alive n s h.0 h.1))

  -- and so is its server
  info_seen : (n : Name) → Seen S w n → info_at (sweep w) n ≡ info_at w n
  info_seen n s = go (home_at w n) refl
    where
      site : site_at (sweep w) n ≡ site_at w n
      site = retained_if w.sites (stays w) n (λ r e. let h = c.housing.housed n r.home (ap home_by e) in alive n s h.0 h.1)

      go : (o : Option Name) → home_at w n ≡ o → info_at (sweep w) n ≡ info_at w n
      go None e = ap (info_in (sweep w).servers) (ap home_by site ∙ e) ∙ sym (ap (info_in w.servers) e)
      go (Some q) e = let h = c.housing.housed n q e in info_still w n (alive n s h.0 h.1)

  known_lives : (s : Name) → Knows S w s → server_stays w s ≡ true
  known_lives s (OfNode n sn en) = let h = c.housing.housed n s en in lives_at w n s (alive n sn h.0 h.1) en
  known_lives s (OfSeat n sn en) = lives_active w n s en
  known_lives s (OfControl held) = lives_controlled w held.task held.seat s held.is_task held.here

  sweep_agrees : Agree S w (sweep w)
  sweep_agrees = record { tasks = refl; parts = same }
    where
      same : (p : Part) → Sees S w p → part (sweep w) p ≡ part w p
      same (AttrOf n) s = seen_still (λ o r. AnAttr (header_in o) r) n s
      same (EmptyOf n) s = seen_still (λ o r. AnEmpty (empty_in o)) n s.0
      same (BodyOf n) s = seen_still (λ o r. ABody (body_in o)) n s.0
      same (EndsOf n) s = ap AnEnds (ends_same w (sweep w) n (info_seen n s.1.0) refl)
      same (OpenOf o) s = refl
      same (OptionsOf q) s = ap (λ o. AnOptions (face_in o)) (retained w.servers (server_stays w) q (known_lives q s))
      same (TextOf q) s = ap (λ o. AText (text_in o)) (retained w.servers (server_stays w) q (known_lives q (text_known S w q s.0 s.2)))
      same (UsersOf q) s = ap AUsers (users_still w c q)
      same (TotalOf q) s = let lives = known_lives q s.knows in ap ATotal (total_after w q (retained w.servers (server_stays w) q lives) lives)
      same (TaskOf t) s = refl

-- who sees a world sees the same once it is settled
pub settle_agrees : (S : ℕ → Bool) (w : World) → Coherent w → Linked (nodes_of w) → Agree S w (settle w)
settle_agrees S w c l =
    settle_keeps (Agree S w) (λ x cx lx a. Agree-trans a (sweep_agrees S x cx lx)) w c l (Agree-refl S w)

-- a part is as in the settled world w, or gone
abbrev pub AsBefore : World → World → Part → Type 0
AsBefore w x p = (part x p ≡ part w p) ⊎ IsGone x p

-- a sweep leaves each part, or takes its thing out
module _ (x : World) (c : Coherent x) where
  -- what is read of a node and of its site
  sweep_node : (read : Option Node → Option Site → Value) (n : Name) → let after = read (get (sweep x).nodes n) (site_at (sweep x) n) in (after ≡ read (get x.nodes n) (site_at x n)) ⊎ (after ≡ read None None)
  sweep_node read n = elim (cases_Bool (stays x n)) [
    | inl k ↦ inl (ap₂ read (retained x.nodes (stays x) n k) (retained x.sites (stays x) n k))
    | inr k ↦ inr (ap₂ read (dropped x.nodes (stays x) n k) (dropped x.sites (stays x) n k))
  ]

  sweep_server : (read : Option ServerInfo → Value) (s : Name) → (read (server_at (sweep x) s) ≡ read (server_at x s)) ⊎ (read (server_at (sweep x) s) ≡ read None)
  sweep_server read s = elim (cases_Bool (server_stays x s)) [ inl k ↦ inl (ap read (retained x.servers (server_stays x) s k)) | inr k ↦ inr (ap read (dropped x.servers (server_stays x) s k)) ]

  sweep_part : (p : Part) → (part (sweep x) p ≡ part x p) ⊎ IsGone (sweep x) p
  sweep_part (AttrOf n) = sweep_node (λ o r. AnAttr (header_in o) r) n
  sweep_part (EmptyOf n) = sweep_node (λ o r. AnEmpty (empty_in o)) n
  sweep_part (BodyOf n) = sweep_node (λ o r. ABody (body_in o)) n
  sweep_part (EndsOf n) = elim (cases_Bool (stays x n)) [
    | inl k ↦ inl (ap AnEnds (ends_same x (sweep x) n (info_still x n k) refl))
    | inr k ↦ inr (ap AnEnds (ends_gone (sweep x) n (ap home_by (dropped x.sites (stays x) n k))))
  ]
  sweep_part (OpenOf o) = inl refl
  sweep_part (OptionsOf s) = sweep_server (λ o. AnOptions (face_in o)) s
  sweep_part (TextOf s) = sweep_server (λ o. AText (text_in o)) s
  sweep_part (UsersOf s) = inl (ap AUsers (users_still x c s))
  sweep_part (TotalOf s) = elim (cases_Bool (server_stays x s)) [
    | inl k ↦ inl (ap ATotal (total_after x s (retained x.servers (server_stays x) s k) k))
    | inr k ↦ inr (ap ATotal (ap (λ o. total_if (tree_by o) (own_total (sweep x).nodes (sweep x).sites s)) (dropped x.servers (server_stays x) s k)))
  ]
  sweep_part (TaskOf t) = inl refl

-- what is gone doesn't come back by it
sweep_gone : (x : World) (p : Part) → IsGone x p → IsGone (sweep x) p
sweep_gone x (AttrOf n) e =
    attr_same (ap header_in (none_retained x.nodes (stays x) n (none_mapped (λ z. z.header) (get x.nodes n) (cc)))) (none_retained x.sites (stays x) n (cc))
sweep_gone x (EmptyOf n) e = ap (λ (o : Option Node). AnEmpty (empty_in o)) (none_retained x.nodes (stays x) n (none_mapped (λ z. z.body) (get x.nodes n) (none_mapped is_empty_dir (body_at x n) (cc))))
sweep_gone x (BodyOf n) e = ap (λ (o : Option Node). ABody (body_in o)) (none_retained x.nodes (stays x) n (none_mapped (λ z. z.body) (get x.nodes n) (cc)))
sweep_gone x (EndsOf n) e =
    let ends : ends_at x n ≡ None = cc in
    ap AnEnds (elim (cases_Bool (stays x n)) [ inl k ↦ ends_same x (sweep x) n (info_still x n k) refl ∙ ends | inr k ↦ ends_gone (sweep x) n (ap home_by (dropped x.sites (stays x) n k)) ])
sweep_gone x (OptionsOf s) e = ap (λ o. AnOptions (face_in o)) (none_retained x.servers (server_stays x) s (none_mapped faced (server_at x s) (cc)))
sweep_gone x (TextOf s) e = ap (λ o. AText (text_in o)) (none_retained x.servers (server_stays x) s (none_mapped (λ (i : ServerInfo). i.text) (server_at x s) (cc)))
sweep_gone x (TotalOf s) e = ap ATotal (elim (cases_Bool (server_stays x s)) [
  | inl k ↦ total_after x s (retained x.servers (server_stays x) s k) k ∙ cc (e)
  | inr k ↦ ap (λ o. total_if (tree_by o) (own_total (sweep x).nodes (sweep x).sites s)) (dropped x.servers (server_stays x) s k)
])
sweep_gone x p e = absurd e

-- a part that a settled world has unchanged in another keeps that value where this is settled, or its thing goes
pub settle_part : (w : World) (p : Part) (x : World) → Coherent x → Linked (nodes_of x) → AsBefore w x p → AsBefore w (settle x) p
settle_part w p x c l e =
    settle_keeps (λ y. AsBefore w y p)
    (λ y cy ly b. elim b [
      | inl same ↦ elim (sweep_part y cy p) [ inl kept ↦ inl (kept ∙ same) | inr gone ↦ inr gone ]
      | inr gone ↦ inr (sweep_gone y p gone)
    ]) x c l e

-- lists of changes that leave a settled world so

abbrev pub Rests : World → List Change → Type 0
Rests w cs = AtRest w → AtRest (apply_all cs w)

-- each node and each server stays
pub record NodesRest (w : World) : Type 0 where
  pub nodes : (n : Name) (x : Node) → get w.nodes n ≡ Some x → stays w n ≡ true
  pub servers : (s : Name) (i : ServerInfo) → server_at w s ≡ Some i → server_stays w s ≡ true

-- a header function by which no node loses its last link, or its parent
abbrev pub KeepsEntered : (Header → Header) → Type 0
KeepsEntered f = (h : Header) → is_entered h ≡ true → is_entered (f h) ≡ true

-- a change that takes no reason to stay away, and makes no node without one, nor under a name that was given
abbrev pub KeepsNodes : World → Change → Type 0
KeepsNodes w (EditHeader n f) = KeepsEntered f
KeepsNodes w (MakeNode n s node) = (is_entered node.header ≡ true) × (home_at w n ≡ None) × (i : ServerInfo) × (server_at w s ≡ Some i)
KeepsNodes w (EditTask q f) = KeepsRights f
KeepsNodes w c = LeavesSeats c

-- what comes after an edit stood before
stood : (m : NodeMap) (k n : Name) (f : Node → Node) (x : Node) → get (edit k f m) n ≡ Some x → (y : Node) × (get m n ≡ Some y)
stood m k n f x e = elim (was_edited m k n f x e) [ inl l ↦ (l.1, ap (get m) l.0 ∙ l.2) | inr h ↦ (x, h) ]

entered_edit : (m : NodeMap) (k n : Name) (f : Header → Header) → KeepsEntered f → is_entered_at (get m n) ≡ true → is_entered_at (get (edit k (with_header f) m) n) ≡ true
entered_edit m k n f keeps h = elim (same_or_apart n k) [
  | inl a ↦ rw a (ap is_entered_at (edit_here m k (with_header f)) ∙ go (get m k) (rw a at h))
  | inr a ↦ ap is_entered_at (edit_apart m k (with_header f) n a) ∙ h
]
  where
    go : (o : Option Node) → is_entered_at o ≡ true → is_entered_at (option_map (with_header f) o) ≡ true
    go None i = i
    go (Some x) i = keeps x.header i

entered_body : (g : Body → Body) (o : Option Node) → is_entered_at (option_map (with_body g) o) ≡ is_entered_at o
entered_body g None = refl
entered_body g (Some x) = refl

-- tasks that keep their rights
tasks_more : (t : ℕ) (f : Task → Task) (w : World) (s : Name) → KeepsRights f → server_stays w s ≡ true
    → server_stays (record w { tasks = edit_task t f w.tasks }) s ≡ true
tasks_more t f w s keeps h =
    server_more (namings w) (namings (record w { tasks = edit_task t f w.tasks })) (nodes_of w) (nodes_of w) s
    ((still t f w.tasks keeps).controlled s) (λ n e. e) (λ n e held. (e, held_more w (edit_task t f w.tasks) n ((still t f w.tasks keeps).named n) held)) h

-- no server loses its reason to stay
servers_more : (c : Change) (w : World) → KeepsNodes w c → (s : Name) → server_stays w s ≡ true → server_stays (apply c w) s ≡ true
servers_more (MakeNode k q node) w keeps s h =
    server_more (namings w) (namings (apply (MakeNode k q node) w)) (nodes_of w) (nodes_of (apply (MakeNode k q node) w)) s ((still k.task.0 (named 1) w.tasks (λ y r i. i)).controlled s)
    (λ n e. seat_kept w.sites k q n s keeps.1 e)
    (λ n e held. (home-apart w.sites k (new_site q) n (λ same. let none : home_at w n ≡ None = rw same keeps.1 in cc (e)) ∙ e, held_more w (edit_task k.task.0 (named 1) w.tasks) n ((still k.task.0 (named 1) w.tasks (λ y r i. i)).named n) held)) h
servers_more (MakeOpen o z) w keeps s h = tasks_more o.task.0 (named 1) w s (λ y r i. i) h
servers_more (EditTask t f) w keeps s h = tasks_more t f w s keeps h
servers_more (Send r t) w keeps s h = tasks_more t (with_sent r) w s (sent_keeps r) h
servers_more (EditHeader n f) w keeps s h = h
servers_more (EditBody n g) w keeps s h = h
servers_more (EditOpen o f) w keeps s h = h
servers_more (LetGo o) w keeps s h = h
servers_more (SetText k text) w keeps s h =
    server_more (namings w) (namings (apply (SetText k text) w)) (nodes_of w) (nodes_of (apply (SetText k text) w)) s (λ k. k) (λ n e. e) (λ n e held. (e, held_yet w k text n held)) h
servers_more c w keeps s h = absurd keeps

-- what stays where its server does
still_there : (c : Change) (w : World) → KeepsNodes w c → (n : Name) → home_at (apply c w) n ≡ home_at w n → (apply c w).servers ≡ w.servers → (is_entered_at (get w.nodes n) ≡ true → is_entered_at (get (apply c w).nodes n) ≡ true)
    → ((namings w).held n ≡ true → (namings (apply c w)).held n ≡ true) → stays w n ≡ true → stays (apply c w) n ≡ true
still_there c w keeps n home servers = kept_more (namings w) (namings (apply c w)) (nodes_of w) (nodes_of (apply c w)) n (λ s eh lives. (home ∙ eh, ap (λ m. get m s) servers, servers_more c w keeps s lives))

nodes_still : (c : Change) (w : World) → KeepsNodes w c → NodesRest w → (n : Name) (x : Node) → get (apply c w).nodes n ≡ Some x → stays (apply c w) n ≡ true
nodes_still (EditHeader k f) w q rest n x e =
    let y = stood w.nodes k n (with_header f) x e in
    still_there (EditHeader k f) w q n refl refl (entered_edit w.nodes k n f q) (λ o. o) (rest.nodes n y.0 y.1)
nodes_still (EditBody k g) w q rest n x e =
    let y = stood w.nodes k n (with_body g) x e in
    still_there (EditBody k g) w q n refl refl (λ i. edit_keeps is_entered_at (with_body g) (entered_body g) w.nodes k n ∙ i) (λ o. o) (rest.nodes n y.0 y.1)
nodes_still (MakeNode k s node) w q rest n x e = elim (was w.nodes k n node x e) [
  | inl new ↦
      subst (λ z. stays (apply (MakeNode k s node) w) z ≡ true) (sym new.0)
      (stays_entered (apply (MakeNode k s node) w) k s q.2 (home-here w.sites k (new_site s)) q.3 (servers_more (MakeNode k s node) w q s (rest.servers s q.2 q.3)) (ap is_entered_at (get_here w.nodes k node) ∙ q.0))
  | inr old ↦
      still_there (MakeNode k s node) w q n (home-apart w.sites k (new_site s) n old.0) refl (λ i. ap is_entered_at (get_apart w.nodes k node n old.0) ∙ i)
      (held_more w (edit_task k.task.0 (named 1) w.tasks) n ((still k.task.0 (named 1) w.tasks (λ y r h. h)).named n)) (rest.nodes n x old.1)
]
nodes_still (EditOpen o f) w q rest n x e = rest.nodes n x e
nodes_still (LetGo o) w q rest n x e = rest.nodes n x e
nodes_still (SetText k text) w q rest n x e = stays_kept w k text n ∙ rest.nodes n x e
nodes_still (MakeOpen o z) w q rest n x e =
    still_there (MakeOpen o z) w q n refl refl (λ i. i) (held_more w (edit_task o.task.0 (named 1) w.tasks) n ((still o.task.0 (named 1) w.tasks (λ y r h. h)).named n)) (rest.nodes n x e)
nodes_still (EditTask t f) w q rest n x e =
    still_there (EditTask t f) w q n refl refl (λ i. i) (held_more w (edit_task t f w.tasks) n ((still t f w.tasks q).named n)) (rest.nodes n x e)
nodes_still (Send r t) w q rest n x e =
    still_there (Send r t) w q n refl refl (λ i. i) (held_more w (edit_task t (with_sent r) w.tasks) n ((still t (with_sent r) w.tasks (sent_keeps r)).named n)) (rest.nodes n x e)
nodes_still c w q rest n x e = absurd q

-- a server that is there was there
server_old : (c : Change) (w : World) → KeepsNodes w c → (s : Name) (i : ServerInfo) → server_at (apply c w) s ≡ Some i → (j : ServerInfo) × (server_at w s ≡ Some j)
server_old (SetText k text) w q s i e = let l = server_was w k text s i e in (with_text l.0 i, l.1)
server_old (Attach k at j node) w q s i e = absurd q
server_old (DropServer k) w q s i e = absurd q
server_old (Unseat n) w q s i e = absurd q
server_old Settle w q s i e = absurd q
server_old c w q s i e = (i, e)

pub nodes_rest : (c : Change) (w : World) → KeepsNodes w c → NodesRest w → NodesRest (apply c w)
nodes_rest c w q rest = record {
  nodes = nodes_still c w q rest;
  servers = λ s i e. let j = server_old c w q s i e in servers_more c w q s (rest.servers s j.0 j.1);
}

pub nodes_of_rest : {w : World} → AtRest w → NodesRest w
nodes_of_rest rest = record { nodes = rest.nodes; servers = rest.servers }

-- a change that also makes no open
abbrev pub IsQuiet : World → Change → Type 0
IsQuiet w (MakeOpen o z) = ⊥
IsQuiet w c = KeepsNodes w c

abbrev pub AreQuiet : World → List Change → Type 0
AreQuiet w [] = Unit {0}
AreQuiet w (c ∷ cs) = IsQuiet w c × AreQuiet (apply c w) cs

quiet_keeps : (c : Change) (w : World) → IsQuiet w c → KeepsNodes w c
quiet_keeps (MakeOpen o z) w q = absurd q
quiet_keeps c w q = q

quiet_held : (c : Change) (w : World) → IsQuiet w c → KeepsHeld c
quiet_held (EditTask q f) w quiet = λ x r i. quiet x (Io r) i
quiet_held (MakeOpen o z) w quiet = quiet
quiet_held c w quiet = tt

pub rests_quiet : (cs : List Change) (w : World) → AreQuiet w cs → Rests w cs
rests_quiet [] w q rest = rest
rests_quiet (c ∷ cs) w q rest =
    let n = nodes_rest c w (quiet_keeps c w q.0) (nodes_of_rest rest) in
    rests_quiet cs (apply c w) q.1 (record { nodes = n.nodes; servers = n.servers; opens = held_one c w (quiet_held c w q.0) rest.opens })

-- a new open, which the new right holds
module _ (w : World) (t : ℕ) (x : Task) (is : task_at w t ≡ Some x) (n : Name) (ids : IdSets) (parents : List Pair) (modes : OpenFlags) where
  abbrev new_table : Task
  new_table = with_port (new_right t n ids parents x) (named 1 x)

  abbrev new_tasks : List Task
  new_tasks = edit_task t (with_port (new_right t n ids parents x)) (edit_task t (named 1) w.tasks)

  -- what the new right is
  abbrev new_io : IoRight
  new_io = record { node = n; ids = ids; open_name = fresh t x; parents = parents }

  new_seat : slice_get new_tasks t ≡ Some new_table
  new_seat = task_here t (with_port (new_right t n ids parents x)) (edit_task t (named 1) w.tasks) (named 1 x) (task_here t (named 1) w.tasks x is)

  new_held : is_held new_tasks (fresh t x) ≡ true
  new_held = held_by_right new_tasks t new_table new_io new_seat (port_has (new_right t n ids parents x) (named 1 x))

  old_names : NameMore w.tasks new_tasks
  old_names = still_more (still t (named 1) w.tasks (λ y q k. k)) (still t (with_port (new_right t n ids parents x)) (edit_task t (named 1) w.tasks) (port_keeps (new_right t n ids parents x)))

  -- and so each open is held yet
  pub held_opening : IsSettled (ports_of w) → IsSettled (ports_of (apply_all (opening t x n ids parents modes) w))
  held_opening held = λ o z e. elim (was w.opens (fresh t x) o (new_open n modes) z e) [
    | inl new ↦ subst (λ k. is_held new_tasks k ≡ true) (sym new.0) new_held
    | inr old ↦ old_names.held o (held o z old.1)
  ]

  pub rests_opening : Rests w (opening t x n ids parents modes)
  rests_opening rest =
      let k = nodes_rest (EditTask t (with_port (new_right t n ids parents x))) (apply (MakeOpen (fresh t x) (new_open n modes)) w) (port_keeps (new_right t n ids parents x))
      (nodes_rest (MakeOpen (fresh t x) (new_open n modes)) w tt (nodes_of_rest rest)) in
      record {
        nodes = k.nodes;
        servers = k.servers;
        opens = held_opening rest.opens;
      }
