-- What a task is to start, as a piece of any call: alone, and where a server comes for it.
use Rattle.std.proofs.Common.{◌≡◌, ℕ, Bool, true, ◌∷◌, Option, Some, None, refl, subst, inl, inr, arith, []}
use Rattle.hurd_machine.proofs.Common.{Attach, AttrOf, BodyOf, EditTask, EmptyOf, IsAmong, Name, Node, OptionsOf, Part, PendingStart, Right, ServerInfo, Task, TaskOf, TextOf, World, empty, is_on, names_open, pending, start_of, task_at, with_pending, EndsOf, TotalOf}
use Rattle.hurd_ports.specs.Steps.{named}
use Rattle.hurd_machine.proofs.Tasks.{edit_here}
use Rattle.hurd_machine.proofs.Coherence.{Comes}
use Rattle.hurd_machine.proofs.Rights.{IsGivenStart, pending_counts, pending_keeps, pending_rights, pending_table}
use Rattle.hurd_machine.proofs.Held.{held_one}
use Rattle.hurd_machine.proofs.Going.{AimsAtSeen, Begun, comes_piece}
use Rattle.hurd_machine.proofs.Frame.{AllWithin}
use Rattle.hurd_machine.proofs.Confine.{SeenOrNew}
use Rattle.hurd_machine.proofs.Allowed.{RightMay, IdsMay, May}
use Rattle.hurd_machine.proofs.Piece.{Stands, Piece, Whole, piece_then, settled, of_ports}

-- the node of what is to start was seen, or is new
abbrev pub IsSeenStart : (ℕ → Bool) → World → Option PendingStart → Type 0
IsSeenStart S v None = Unit {0}
IsSeenStart S v (Some s) = SeenOrNew S v s.node

start_may : (S : ℕ → Bool) (v x : World) (p : Option PendingStart) (r : Right) → IsSeenStart S v p → IsAmong r (start_of p) → RightMay S v x r
start_may S v x None r seen i = absurd i
start_may S v x (Some s) r seen (inl e) = subst (RightMay S v x) e seen
start_may S v x (Some s) r seen (inr out) = absurd out

start_ids : (S : ℕ → Bool) (v : World) (p : Option PendingStart) (r : Right) → IsAmong r (start_of p) → IdsMay S v r
start_ids S v None r i = absurd i
start_ids S v (Some s) r (inl e) = subst (IdsMay S v) e tt
start_ids S v (Some s) r (inr out) = absurd out

-- the task is to start this from now on, or nothing

module _ {T : Part → Type 0} {v w : World} (s : Stands w) (t : ℕ) (p : Option PendingStart) (x : Task) (is : task_at w t ≡ Some x) (task : T (TaskOf t)) (given : IsGivenStart w p)
    (seen : (S : ℕ → Bool) → S t ≡ true → IsSeenStart S v p) where
  pub pends_piece : Piece t T v w (EditTask t (with_pending p) ∷ [])
  pends_piece = of_ports (EditTask t (with_pending p) ∷ []) (tt, tt) (held_one (EditTask t (with_pending p)) w (pending_keeps p) s.held) s within ((λ z. omega arith, x, is, pending_table w s.coherent t p x is given), λ d. tt) (λ S ours. (mine S ours (seen S ours), tt))
    where
      within : AllWithin T w (EditTask t (with_pending p) ∷ [])
      within = ((task, λ z at. record { opens = λ o out. pending_counts (names_open o) (λ n. refl) p z; users = λ q out. pending_counts (is_on w q) (λ n. refl) p z }), tt)

      mine : (S : ℕ → Bool) → S t ≡ true → IsSeenStart S v p → May S v w (EditTask t (with_pending p))
      mine S ours sees = (
        ours,
        λ a at. (
          λ r h. elim (pending_rights p a r h) [ inl old ↦ inl old | inr new ↦ inr (start_may S v w p r sees new) ],
          inr (record { ids = inl refl; rights = λ r h. elim (pending_rights p a r h) [ inl old ↦ inl old | inr new ↦ inr (start_ids S v p r new) ] }),
        ),
      )

  pub pends_whole : Whole t T v w (pending t p)
  pends_whole = settled (EditTask t (with_pending p) ∷ []) (tt, tt) s pends_piece

-- a server comes, whose root is like one that begins, for the task that was to start it, which then is to start nothing any more
pub starts_whole : {T : Part → Type 0} {w : World} → Stands w → (s at : Name) (i : ServerInfo) (node : Node) → Comes w s at i node → Begun i node
    → T (TaskOf s.task.0) → T (AttrOf i.root) → T (EmptyOf i.root) → T (BodyOf i.root) → T (EndsOf i.root) → T (AttrOf at) → T (OptionsOf s) → T (TextOf s) → T (TotalOf s) → AimsAtSeen s.task.0 w i → Whole s.task.0 T w w (Attach s at i node ∷ pending s.task.0 None)
starts_whole st s at i node p b task attr empty body ends seat options text total aims =
    settled (Attach s at i node ∷ EditTask s.task.0 (with_pending None) ∷ []) (tt, (tt, tt)) st
    (piece_then (Attach s at i node ∷ []) (EditTask s.task.0 (with_pending None) ∷ []) (tt, tt) st (comes_piece st s at i node p b task attr empty body ends seat options text total aims)
    (λ d. pends_piece d s.task.0 None (named 2 p.next.seat) (edit_here s.task.0 (named 2) _ p.next.seat p.next.is_task) task tt (λ S ours. tt)))
