-- A server goes, or comes, with what settles then: as pieces of any call.
use Rattle.std.proofs.Common.{◌≡◌, ◌≢◌, ℕ, Bool, true, ◌∷◌, Some, ◌∙◌, ap, []}
use Rattle.hurd_machine.proofs.Common.{Attach, AttrOf, BodyOf, Coherent, DropServer, EmptyOf, IsAmong, IsFilled, Name, Node, OptionsOf, Part, ServerInfo, TaskOf, TextOf, Unseat, World, apply, boot_name, empty, is_dir, is_other, out_server, tree_by, EndsOf, TotalOf}
use Rattle.hurd_machine.specs.World.{nodes_of}
use Rattle.hurd_machine.specs.Touched.{Goes}
use Rattle.hurd_machine.proofs.Nodes.{header_in}
use Rattle.hurd_machine.proofs.Coherence.{Comes, be_kept}
use Rattle.hurd_machine.proofs.Confine.{SeenOrNew}
use Rattle.hurd_machine.proofs.Left.{header_was, shape_left}
use Rattle.hurd_machine.proofs.Drop.{drop_left, drop_linked, drop_filled}
use Rattle.hurd_machine.proofs.Unseated.{unseated_linked, unseated_filled}
use Rattle.hurd_machine.proofs.Servers.{linked_come, filled_come}
use Rattle.hurd_machine.proofs.Held.{held_one}
use Rattle.hurd_machine.proofs.Piece.{Stands, Piece}
use Rattle.hurd_creds.proofs.Retained.{retained}

module _ {t : ℕ} {T : Part → Type 0} {v w : World} (st : Stands w) where
  -- a server goes
  pub goes_piece : (s : Name) → s ≢ boot_name → ((p : Part) → Goes w s p → T p) → Piece t T v w (DropServer s ∷ [])
  goes_piece s not_boot parts =
      record { within = (parts, tt); proper = (not_boot, λ d. tt); linked = drop_linked w s st.coherent not_boot st.linked; filled = drop_filled w s st.coherent not_boot st.filled; held = st.held; may = λ S ours. (tt, tt) }

  -- a server loses its seat
  pub unseats_piece : (n : Name) → T (AttrOf n) → Piece t T v w (Unseat n ∷ [])
  unseats_piece n attr = record { within = (attr, tt); proper = (tt, λ d. tt); linked = unseated_linked w st.coherent n st.linked; filled = unseated_filled w st.coherent n st.filled; held = st.held; may = λ S ours. (tt, tt) }

-- a server comes, whose root is like one that begins

pub record Begun (i : ServerInfo) (node : Node) : Type 0 where
  pub links : node.header.links ≡ 1
  pub tree : tree_by (Some i) ≡ true → is_dir node.header.kind ≡ true
  pub filled : IsFilled i node

-- whoever has the task saw each node that the server aims at, or it is new
abbrev pub AimsAtSeen : ℕ → World → ServerInfo → Type 0
AimsAtSeen t v i = (S : ℕ → Bool) → S t ≡ true → (n : Name) → IsAmong n i.targets → SeenOrNew S v n

pub comes_piece : {T : Part → Type 0} {v w : World} → Stands w → (s at : Name) (i : ServerInfo) (node : Node) → Comes w s at i node → Begun i node
    → T (TaskOf s.task.0) → T (AttrOf i.root) → T (EmptyOf i.root) → T (BodyOf i.root) → T (EndsOf i.root) → T (AttrOf at) → T (OptionsOf s) → T (TextOf s) → T (TotalOf s) → AimsAtSeen s.task.0 v i
    → Piece s.task.0 T v w (Attach s at i node ∷ [])
comes_piece {T} {v} {w} st s at i node p b task attr empty body ends seat options text total aims = record {
  within = ((task, attr, empty, body, ends, seat, options, text, total), tt);
  proper = (p, λ d. tt);
  linked = linked_come w st.coherent s at i node p b.links b.tree st.linked;
  filled = filled_come w st.coherent s at i node p b.filled st.filled;
  held = held_one (Attach s at i node) w tt st.held;
  may = λ S ours. ((ours, aims S ours), tt);
}

-- it may come also where another server went, which had not the seat for a node
pub comes_after : (w : World) → Coherent w → (q : Name) → q ≢ boot_name → (s at : Name) (i : ServerInfo) (node : Node) → is_other q w.sites at ≡ true → Comes w s at i node → Comes (apply (DropServer q) w) s at i node
comes_after w c q not_boot s at i node other p = record {
  next = record { seat = p.next.seat; is_task = p.next.is_task; next = p.next.next };
  task = p.task;
  count = p.count;
  serving = p.serving;
  shape = p.shape;
  empty = p.empty;
  parent = p.parent;
  kind = p.kind;
  aims = p.aims;
  targets = λ n aim. let k = p.targets n aim in (k.0, be_kept w (out_server q (nodes_of w)) n (shape_left w c _ _ (drop_left w q c not_boot) n) k.1);
  branches = λ union n h aim eh. p.branches union n h aim (header_was w c _ _ (drop_left w q c not_boot) n h eh).0;
  seat = (p.seat.0, ap header_in (retained w.nodes (is_other q w.sites) at other) ∙ p.seat.1);
}
