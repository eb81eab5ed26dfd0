-- A server comes, and is active on a node: what the world is then, and that it is coherent.
use Rattle.std.proofs.Common.{◌≡◌, ◌≢◌, ◌⊎◌, ◌<◌, not, true, Some, None, sym, refl, ◌∙◌, ap, subst, inl, inr, arith}
use Rattle.hurd_machine.proofs.Common.{AreSeated, Attach, Below, Coherent, Header, Name, Node, ServerInfo, World, active_at, active_in, apply, boot_name, boot_root, edit, edit_task, get, header_at, home_at, info_at, info_in, insert, is_other, new_site, remove, server_at, task_at, with_active}
use Rattle.hurd_creds.proofs.NameLaws.{same_map_by, same_or_apart, get_here, get_apart, remove_here, remove_apart}
use Rattle.hurd_nodes.proofs.Sites.{active-edited, active-edited_apart, home-apart, home-edited, home-inserted}
use Rattle.hurd_machine.proofs.Sites.{active_put, none_out, not_home}
use Rattle.hurd_ports.specs.Steps.{named}
use Rattle.hurd_machine.specs.World.{nodes_of}
use Rattle.hurd_machine.proofs.Nodes.{header_in}
use Rattle.hurd_creds.proofs.Retained.{retain_all}
use Rattle.hurd_machine.proofs.Left.{seat_left, left_coherent}
use Rattle.hurd_machine.proofs.Coherence.{Comes, Newcomer, Serves, made_coherent, info_apart, seat_there, next_not, no_node, no_server, was, home_kept, header_old, home_server}
use Rattle.hurd_machine.proofs.Naming.{named_world, named_coherent, named_still, named_below, unnoded, unaimed}

-- a world that was given no server's name has nothing of that server
module _ (w : World) (c : Coherent w) (s : Name) (new : Below w s → ⊥) where
  pub none_served : (n q : Name) → home_at w n ≡ Some q → q ≢ s
  none_served n q e same = let i = home_server c n q e in new (subst (Below w) same (c.given.servers q i.0 i.1))

  pub none_active : (n q : Name) → active_at w n ≡ Some q → q ≢ s
  none_active n q e same = let i = c.seating.seated n q e in new (subst (Below w) same (c.given.servers q i.1 i.2))

  home_other : (n : Name) → is_other s w.sites n ≡ true
  home_other n = ap not (not_home s (home_at w n) (λ e. none_served n s e refl))

  remove_none : remove w.servers s ≡ w.servers
  remove_none = same_map_by _ _ (λ q. elim (same_or_apart q s) [
    | inl e ↦ rw e (remove_here w.servers s ∙ sym (no_server c s new))
    | inr a ↦ remove_apart w.servers s q a
  ])

-- the world with the server, where nothing of its name was
abbrev pub come_world : World → Name → Name → ServerInfo → Node → World
come_world w s at i node = record {
  nodes = insert w.nodes i.root node;
  sites = edit at (with_active (Some s)) (insert w.sites i.root (new_site s));
  servers = insert w.servers s i;
  opens = w.opens;
  tasks = edit_task s.task.0 (named 2) w.tasks;
}

pub attach_is : (w : World) (s at : Name) (i : ServerInfo) (node : Node) → Coherent w → (Below w s → ⊥) → apply (Attach s at i node) w ≡ come_world w s at i node
attach_is w s at i node c new =
    let nodes = retain_all w.nodes (is_other s w.sites) (λ n x e. home_other w c s new n) in
    let sites = none_out s w.sites (home_other w c s new) (λ n. not_home s (active_at w n) (λ e. none_active w c s new n s e refl)) in
    let servers = remove_none w c s new in
    λ k. come_world (record w { nodes = nodes k; sites = sites k; servers = servers k }) s at i node

module _ (w : World) (c : Coherent w) (s at : Name) (i : ServerInfo) (node : Node) (p : Comes w s at i node) where
  abbrev y : World
  y = come_world w s at i node

  pub come_new : Below w s → ⊥
  come_new = next_not w s p.next

  -- the name after the next is given by nobody either
  pub root_new : Below w i.root → ⊥
  root_new b =
      let low : i.root.count < p.next.seat.made = b p.next.seat (ap (task_at w) (ap (λ t. t.0) p.task) ∙ p.next.is_task) in
      let up = p.next.next in
      let one = p.count in
      absurd (omega arith)

  pub no_root : get w.nodes i.root ≡ None
  no_root = no_node c i.root root_new

  pub come_home : (n : Name) → n ≢ i.root → home_at y n ≡ home_at w n
  come_home n apart = home-edited (insert w.sites i.root (new_site s)) at (Some s) n ∙ home-apart w.sites i.root (new_site s) n apart

  pub come_home_is : (n q : Name) → home_at y n ≡ Some q → ((n ≡ i.root) × (s ≡ q)) ⊎ ((n ≢ i.root) × (home_at w n ≡ Some q))
  come_home_is n q e = home-inserted w.sites i.root (new_site s) n q (sym (home-edited (insert w.sites i.root (new_site s)) at (Some s) n) ∙ e)

  server_kept : (q : Name) (j : ServerInfo) → server_at w q ≡ Some j → server_at y q ≡ Some j
  server_kept q j e = get_apart w.servers s i q (λ same. come_new (subst (Below w) same (c.given.servers q j e))) ∙ e

  not_root : (n : Name) (h : Header) → header_at w n ≡ Some h → n ≢ i.root
  not_root n h e same = root_new (subst (Below w) same (header_old c n h e))

  -- its seat has a site
  pub seat_active : active_at y at ≡ Some s
  seat_active = let q = c.housing.homes at p.seat.0 p.seat.1 in active-edited (insert w.sites i.root (new_site s)) at (Some s) q.0 (home_kept w c i.root s no_root at q.0 q.2)

  -- what is active is the new one on its seat, or was so, and is another
  pub come_seat_was : (n q : Name) → active_at y n ≡ Some q → ((n ≡ at) × (s ≡ q)) ⊎ (active_at w n ≡ Some q)
  come_seat_was n q e = elim (same_or_apart n at) [
    | inl here ↦ inl (here, let same : Some s ≡ Some q = sym seat_active ∙ ap (active_at y) (sym here) ∙ e in cc)
    | inr other ↦
        let old : active_in (insert w.sites i.root (new_site s)) n ≡ Some q = sym (active-edited_apart (insert w.sites i.root (new_site s)) at (Some s) n other) ∙ e in
        inr (active_put w.sites i.root s n q old).1
  ]

  come_seating : AreSeated (nodes_of y)
  come_seating = let boot = home_server c boot_root boot_name c.tree.served in record {
    seated = λ n q e. elim (come_seat_was n q e) [
      | inl k ↦ (λ same. come_new (subst (Below w) (sym (k.1 ∙ same)) (c.given.servers boot_name boot.0 boot.1)), i, subst (λ z. server_at y z ≡ Some i) k.1 (get_here w.servers s i))
      | inr k ↦ let j = c.seating.seated n q k in (j.0, j.1, server_kept q j.1 j.2)
    ];
    alone = λ n m q e f. elim (come_seat_was n q e) [
      | inl k ↦ elim (come_seat_was m q f) [ inl j ↦ k.0 ∙ sym j.0 | inr j ↦ absurd (none_active w c s come_new m q j (sym k.1)) ]
      | inr k ↦ elim (come_seat_was m q f) [ inl j ↦ absurd (none_active w c s come_new n q k (sym j.1)) | inr j ↦ c.seating.alone n m q k j ]
    ];
    elsewhere = λ n q e f. elim (come_seat_was n q e) [
      | inl k ↦ elim (come_home_is n q f) [
        | inl j ↦ not_root at p.seat.0 p.seat.1 (sym k.0 ∙ j.0)
        | inr j ↦ none_served w c s come_new n q j.1 (sym k.1)
      ]
      | inr k ↦ elim (come_home_is n q f) [
        | inl j ↦ let h = seat_there c n q k in not_root n h.0 h.1 j.0
        | inr j ↦ c.seating.elsewhere n q k j.1
      ]
    ];
  }

  newcomer : Newcomer (named_world w c s p.next 2) i.root node s i
  newcomer = record {
    given = named_below w c s p.next 2 s refl (omega arith);
    none = no_server c s come_new;
    root = refl;
    serving = p.serving;
    kind = p.kind;
    aims = p.aims;
    targets = λ m aim. let t = p.targets m aim in (λ same. root_new (subst (Below w) same t.0), (named_still w c s p.next 2 m t.0, t.1));
    branches = p.branches;
  }

  serves : Serves (named_world w c s p.next 2) i.root s node (insert w.servers s i)
  serves = record {
    here = (i, get_here w.servers s i, inr refl);
    yet = server_kept;
    was = λ q j e. elim (was w.servers s q i j e) [
      | inl k ↦ inl (sym k.0, subst (λ z. Newcomer (named_world w c s p.next 2) i.root node z j) (sym k.0) (subst (Newcomer (named_world w c s p.next 2) i.root node s) k.1 newcomer))
      | inr k ↦ inr k.1
    ];
  }

  root_below : Below (named_world w c s p.next 2) i.root
  root_below = let one = p.count in named_below w c s p.next 2 i.root (ap (λ t. t.0) p.task) (omega arith)

  no_parent : (q : Name) → node.header.parent ≡ Some q → Below (named_world w c s p.next 2) q
  no_parent q e = absurd (cc (p.parent, e))

  -- the world in which it isn't active yet
  abbrev pub standing : World
  standing = record (named_world w c s p.next 2) { nodes = insert w.nodes i.root node; sites = insert w.sites i.root (new_site s); servers = insert w.servers s i }

  -- what was given is not its root, and has the server that it had
  pub info_same : (n : Name) → n ≢ i.root → info_at y n ≡ info_at w n
  info_same n apart = ap (info_in y.servers) (home-edited standing.sites at (Some s) n)
      ∙ info_apart (named_world w c s p.next 2) (named_coherent w c s p.next 2) i.root s node (insert w.servers s i) root_below no_root (unnoded w c s p.next 2 i.root root_new) (unaimed w c s p.next 2 i.root root_new) p.shape p.empty no_parent serves n apart

  pub standing_coherent : Coherent standing
  standing_coherent = made_coherent (named_world w c s p.next 2) (named_coherent w c s p.next 2) i.root s node (insert w.servers s i) root_below no_root (unnoded w c s p.next 2 i.root root_new) (unaimed w c s p.next 2 i.root root_new) p.shape p.empty no_parent serves

  pub come_coherent : Coherent (apply (Attach s at i node) w)
  come_coherent = subst Coherent (sym (attach_is w s at i node c come_new)) (left_coherent standing standing_coherent _ _ (seat_left standing at (Some s)) come_seating)
