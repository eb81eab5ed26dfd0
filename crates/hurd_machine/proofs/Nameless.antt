-- A file that no entry names, made and opened, as a piece of any call: it stays, since the new right names it.
use Rattle.std.proofs.Common.{◌≡◌, ◌∙◌, ℕ, ◌+◌, Bool, true, false, cond, List, [], ◌∷◌, Some, None, sym, refl, ap, subst, inl, inr, arith}
use Rattle.hurd_machine.proofs.Sites.{seat_kept}
use Rattle.hurd_nodes.proofs.Sites.{home-here, home-apart}
use Rattle.hurd_machine.proofs.Common.{Below, Change, Coherent, IdSets, Io, IoRight, IsAmong, IsFilled, IsShaped, MakeNode, Name, Node, OpenFlags, OptionsOf, Part, Right, Sees, ServerInfo, Sound, Taken, Task, TaskOf, UsersOf, World, apply, apply_all, edit_task, fresh, gives_text, header_at, home_at, info_at, info_in, is_dir, is_entered_at, is_held, keeps_tree, leads_on, namings, new_open, new_site, opening, server_at, shape_at, shape_by, stays, task_at, times_listed, tree_by, ways_of, with_port}
use Rattle.hurd_creds.proofs.NameLaws.{get_here, get_apart}
use Rattle.hurd_ports.specs.declared.parents.Parent.{Parent as Pair}
use Rattle.hurd_ports.specs.Steps.{named}
use Rattle.hurd_machine.specs.World.{nodes_of}
use Rattle.hurd_machine.specs.Change.{server_stays}
use Rattle.hurd_machine.proofs.Nodes.{header_in}
use Rattle.hurd_machine.proofs.Tasks.{edit_here}
use Rattle.hurd_machine.proofs.Holders.{NameMore, still, still_more, held_by_right}
use Rattle.hurd_machine.proofs.Stays.{server_more, kept_more, stays_named, held_more}
use Rattle.hurd_machine.proofs.Rights.{port_keeps, port_has}
use Rattle.hurd_machine.proofs.Coherence.{IsNext, CanBeNamed, be_same, HasNoEntries, was, header_old, no_node, no_home, next_not, next_apart}
use Rattle.hurd_machine.proofs.Naming.{named_below}
use Rattle.hurd_machine.proofs.Shapes.{tree_shape}
use Rattle.hurd_machine.proofs.Naming as naming
use Rattle.hurd_machine.proofs.Settle.{Rests}
use Rattle.hurd_machine.proofs.Frame.{Full}
use Rattle.hurd_machine.proofs.Filled.{filled_made}
use Rattle.hurd_machine.proofs.Links.{IsHung, Loosens, KeepsLinked, loosened, loose_any, tied, named_grown, times_new, hung_as}
use Rattle.hurd_machine.proofs.Confine.{NewTo, SeenOrNew}
use Rattle.hurd_machine.proofs.Permits as permits
use Rattle.hurd_machine.proofs.Permits.{opens_may}
use Rattle.hurd_machine.proofs.Opens.{own_task, fresh_new, fresh_next, later_new, opens_piece}
use Rattle.hurd_machine.proofs.Held.{held_one}
use Rattle.hurd_machine.proofs.Piece.{Whole, stands, piece_then}

-- a node that is no directory, has no parent and no links
pub record IsNameless (node : Node) : Type 0 where
  pub shape : IsShaped node.header node.body
  pub empty : HasNoEntries node.body
  pub file : is_dir node.header.kind ≡ false
  pub alone : node.header.parent ≡ None
  pub links : node.header.links ≡ 0

-- task t makes it, of this server, and opens it
abbrev pub nameless : ℕ → Task → Name → Node → IdSets → List Pair → OpenFlags → List Change
nameless t x s node ids parents modes = MakeNode (fresh t x) s node ∷ opening t (named 1 x) (fresh t x) ids parents modes

module _ (w : World) (t : ℕ) (x : Task) (is : task_at w t ≡ Some x) (s : Name) (i : ServerInfo) (server : server_at w s ≡ Some i) (node : Node) (lone : IsNameless node) (ids : IdSets) (parents : List Pair) (modes : OpenFlags) where
  abbrev n : Name
  n = fresh t x

  abbrev made : World
  made = apply (MakeNode n s node) w

  abbrev file_opened : List Change
  file_opened = opening t (named 1 x) n ids parents modes

  abbrev left : World
  left = apply_all (nameless t x s node ids parents modes) w

  seat : task_at made t ≡ Some (named 1 x)
  seat = edit_here t (named 1) w.tasks x is

  home : home_at made n ≡ Some s
  home = home-here w.sites n (new_site s)

  header : header_at made n ≡ Some node.header
  header = ap header_in (get_here w.nodes n node)

  -- no entry names it, and it has no link
  abbrev IsLoose : Name → Type 0
  IsLoose k = k ≡ n

  made_linked : Coherent w → KeepsLinked w (MakeNode n s node ∷ [])
  made_linked c l = tied (nodes_of made) n (loosened IsLoose (MakeNode n s node ∷ []) w (loose, tt) (loose_any IsLoose (nodes_of w) l)) hung
    where
      new : Below w n → ⊥
      new = next_not w n (fresh_next w t x is)

      loose : Loosens IsLoose w (MakeNode n s node)
      loose = (refl, no_node c n new, no_home c n new, lone.empty)

      unnamed : times_listed made.nodes n ≡ 0
      unnamed = named_grown IsLoose w n s node loose n ∙ times_new w c n new

      hung : IsHung (nodes_of made) n
      hung = hung_as (nodes_of made) n node.header header (record {
        up = λ p ep. absurd (cc (lone.alone, ep));
        top = λ root. lone.alone;
        once = λ dir. omega (arith, unnamed);
        links = λ tree. lone.links ∙ sym unnamed ∙ ap (λ b. cond b 1 (times_listed made.nodes n)) (sym lone.file);
      })

  -- the new right names the file, and holds the new open
  abbrev io : IoRight
  io = record { node = n; ids = ids; open_name = fresh t (named 1 x); parents = parents }

  abbrev right : Right
  right = Io io

  now : task_at left t ≡ Some (with_port right (named 1 (named 1 x)))
  now = edit_here t (with_port right) (edit_task t (named 1) made.tasks) (named 1 (named 1 x)) (edit_here t (named 1) made.tasks (named 1 x) seat)

  yet : NameMore w.tasks left.tasks
  yet =
      still_more (still t (named 1) w.tasks (λ y q k. k))
      (still_more (still t (named 1) made.tasks (λ y q k. k)) (still t (with_port right) (edit_task t (named 1) made.tasks) (port_keeps right)))

  file_stays : stays left n ≡ true
  file_stays = stays_named left t (with_port right (named 1 (named 1 x))) right n s i now (port_has right (named 1 (named 1 x))) (inl refl) home server

  nameless_rests : Coherent w → Rests w (nameless t x s node ids parents modes)
  nameless_rests c rest = record {
    nodes = λ m y e. elim (was w.nodes n m node y e) [
      | inl new ↦ subst (λ k. stays left k ≡ true) (sym new.0) file_stays
      | inr old ↦
          kept_more (namings w) (namings left) (nodes_of w) (nodes_of left) m (λ q eh lives. (home_kept m q eh, refl, lives_yet q lives))
          (λ k. ap is_entered_at (get_apart w.nodes n node m old.0) ∙ k) (held_more w left.tasks m (yet.named m)) (rest.nodes m y old.1)
    ];
    servers = λ q j e. lives_yet q (rest.servers q j e);
    opens = λ o z e. elim (was w.opens io.open_name o (new_open n modes) z e) [
      | inl new ↦ subst (λ k. is_held left.tasks k ≡ true) (sym new.0) (held_by_right left.tasks t (with_port right (named 1 (named 1 x))) io now (port_has right (named 1 (named 1 x))))
      | inr old ↦ yet.held o (rest.opens o z old.1)
    ];
  }
    where
      none : home_at w n ≡ None
      none = no_home c n (next_not w n (fresh_next w t x is))

      home_kept : (m q : Name) → home_at w m ≡ Some q → home_at left m ≡ Some q
      home_kept m q e = home-apart w.sites n (new_site s) m (λ same. let gone : home_at w m ≡ None = rw same none in cc (e)) ∙ e

      lives_yet : (q : Name) → server_stays w q ≡ true → server_stays left q ≡ true
      lives_yet q h =
          server_more (namings w) (namings left) (nodes_of w) (nodes_of left) q (yet.controlled q) (λ m e. seat_kept w.sites n s m q none e) (λ m e held. (home_kept m q e, held_more w left.tasks m (yet.named m) held)) h

  -- a task of S may make it where S saw the server, and open it by ids that S holds
  pub nameless_whole : {T : Part → Type 0} → Sound w → keeps_tree i.kind ≡ true → IsFilled i node → ((m : Name) → IsAmong m (ways_of parents) → CanBeNamed w m) → T (UsersOf s)
      → ((S : ℕ → Bool) → S t ≡ true → Taken S w ids × ((m : Name) → IsAmong m (ways_of parents) → SeenOrNew S w m) × Sees S w (OptionsOf s)) → Whole t (Full w t T) w w (nameless t x s node ids parents modes)
  nameless_whole {T} st tree fit up users sees =
      record {
        piece = piece_then (MakeNode n s node ∷ []) file_opened (tt, tt) (stands st) (record {
          within = ((own, inr (inr new), inr (inr new), inr (inr new), inl (rw (lone.file, lone.links) refl)), tt);
          proper = ((next, record { info = i; is_server = server; tree = tree; shape = lone.shape; empty = lone.empty; parent = λ p e. absurd (cc (lone.alone, e)) }), λ one. tt);
          linked = made_linked c st.linked;
          filled = filled_made w n s node (λ j e. let same : i ≡ j = cc (server, e) in rw (← same) fit) st.filled;
          held = held_one (MakeNode n s node) w tt st.settled.opens;
          may = λ S ours. ((ours, inl (sees S ours).2, λ p e. absurd (cc (lone.alone, e))), tt);
        }) (λ d. opens_piece made t (named 1 x) seat n ids parents modes d own (inr (inr (later_new w t 1 x is))) (λ p on. elim on [ inl one ↦ let same : one.0 ≡ s = cc (one.1, home) in inl (rw (one.2, same) users) | inr ends ↦ rw (ends.1) (inr (inr new)) ])
            (named_below w c n next 1 n refl (omega arith), inr shape.0) ways_yet (λ writes. (λ h e. let same : node.header ≡ h = cc (header, e) in rw (← same) lone.file, shape.1))
            (λ S ours. opens_may S w made t (named 1 x) n ids parents modes ours (permits.later_new S w t x (x.made + 1) ours is (omega arith)) (inr (fresh_yet S ours)) (sees S ours).1 (inr (sees S ours).0)
            (λ read h e. absurd ((fresh_yet S ours).1 (header_old c n h e)))));
        rests = nameless_rests c st.settled;
      }
    where
      c : Coherent w
      c = st.coherent

      next : IsNext w n
      next = fresh_next w t x is

      new : Below w n → ⊥
      new = fresh_new w t x is

      -- what keeps a tree leads nobody on
      shape : (leads_on (shape_at (nodes_of made) n) ≡ false) × (gives_text (shape_at (nodes_of made) n) ≡ false)
      shape = tree_shape (info_at made n) (ap tree_by (ap (info_in made.servers) home ∙ server) ∙ tree)

      ways_yet : (m : Name) → IsAmong m (ways_of parents) → CanBeNamed made m
      ways_yet m way =
          let k = up m way in
          (naming.named_still w c n next 1 m k.0, be_same (nodes_of made) (nodes_of w) m (ap (λ o. shape_by (info_in w.servers o)) (home-apart w.sites n (new_site s) m (next_apart w n m next k.0))) k.1)

      own : Full w t T (TaskOf t)
      own = own_task w t T

      fresh_yet : (S : ℕ → Bool) → S t ≡ true → NewTo S w n
      fresh_yet S ours = permits.later_new S w t x x.made ours is (omega arith)
