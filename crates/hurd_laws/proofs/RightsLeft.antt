-- What calls on rights, ids and opens leave where things have other names.
use Rattle.std.proofs.Common.{◌≡◌, ◌++◌, ℕ, List, [], ◌∷◌, Option, Some, None, refl, sym, subst}
use Rattle.std.specs.Prelude.{ℤ}
use Rattle.std.specs.Option.{option_map}
use Rattle.hurd_creds.specs.Bits.{APPEND, asks}
use Rattle.hurd_machine.proofs.Common.{Change, Control, EditTask, IdSets, Io, Name, OpenFlags, PendingStart, Right, Settle, World, any_mode, dropping, letting_go, pending, with_ids}
use Rattle.hurd_machine.specs.declared.call.Whence.{Whence}
use Rattle.hurd_machine.specs.Renamed.{OtherNames, renamed, right_renamed, start_renamed, task_renamed}
use Rattle.hurd_machine.proofs.RenamedHandles.{handle_asks-renamed, handle_renamed}
use Rattle.hurd_machine.proofs.RenamedTasks.{open_of-renamed, right_of-renamed}
use Rattle.hurd_ports.specs.Steps.{appending, at_cursor, received, with_pending, with_port, with_sent, with_ids_for, without_port}
use Rattle.hurd_ports.specs.Tables.{open_of}
use Rattle.hurd_rights.specs.Rights.{plan_deallocate, plan_makeauth, plan_receive, plan_send}
use Rattle.hurd_io.specs.Opens.{plan_seek, plan_set_openmodes}
use Rattle.hurd_io.specs.Sharing.{plan_share}
use Rattle.hurd_laws.proofs.CoreRenamed.{caller_renamed, receive_asks-renamed, send_asks-renamed}
use Rattle.hurd_laws.proofs.OpensTold.{seek_asks-renamed, share_asks-renamed, shared_renamed, sought_renamed}
use Rattle.hurd_laws.proofs.RightsTold.{makeauth_asks-renamed}
use Rattle.hurd_laws.proofs.Changes.{Alike, both, cons, edits_open, edits_task, just, lets_go, none, sends, settles}
use Rattle.hurd_laws.proofs.Plans.{Changing, answered-left}
use Rattle.hurd_laws.proofs.TaskChanges.{received-renamed, with_port-renamed, without_port-renamed}

module _ (f : OtherNames) where
  letting : (o : Option Name) → Alike f (letting_go o) (letting_go (option_map f.to o))
  letting None = none f
  letting (Some o) = just f (lets_go f o)

  pub dropping-left : (t p : ℕ) (r : Right) → Alike f (dropping t p r) (dropping t p (right_renamed f.to r))
  dropping-left t p r = subst (λ (o : Option Name). Alike f (dropping t p r) (EditTask t (without_port p) ∷ (letting_go o ++ Settle ∷ []))) (sym (open_of-renamed f r))
      (cons f (edits_task f t (without_port p) (without_port p) (without_port-renamed f (f.more t) p)) (both f (letting (open_of r)) (just f (settles f))))

  -- a port more
  pub porting-left : (t : ℕ) (r : Right) → Alike f (EditTask t (with_port r) ∷ []) (EditTask t (with_port (right_renamed f.to r)) ∷ [])
  porting-left t r = just f (edits_task f t (with_port r) (with_port (right_renamed f.to r)) (with_port-renamed f (f.more t) r))

  -- what the task is to start
  pub pending-left : (t : ℕ) (s : Option PendingStart) → Alike f (pending t s) (pending t (option_map (start_renamed f.to) s))
  pending-left t s = cons f (edits_task f t (with_pending s) (with_pending (option_map (start_renamed f.to) s)) (λ x. refl)) (just f (settles f))

  module _ (w : World) (t : ℕ) where
    pub deallocate-left : (p : ℕ) → Changing f (plan_deallocate w t p) (plan_deallocate (renamed f w) t p)
    deallocate-left p = answered-left f (right_renamed f.to) _ _ _ (right_of-renamed f w t p) (dropping-left t p)

    pub send-left : (p q : ℕ) → Changing f (plan_send w t p q) (plan_send (renamed f w) t p q)
    send-left p q = answered-left f (right_renamed f.to) _ _ _ (send_asks-renamed f w t p q) (λ r. just f (sends f r q))

    pub receive-left : f.more t ≡ 0 → Changing f (plan_receive w t) (plan_receive (renamed f w) t)
    receive-left no_more = answered-left f (caller_renamed f) _ _ _ (receive_asks-renamed f w t no_more) (λ x. just f (edits_task f t received received (received-renamed f (f.more t))))

    pub makeauth-left : (ids : IdSets) → Changing f (plan_makeauth w t ids) (plan_makeauth (renamed f w) t ids)
    makeauth-left ids = answered-left f (task_renamed f.to (f.more t)) _ _ _ (makeauth_asks-renamed f w t ids) (λ x. just f (edits_task f t (with_ids ids) (with_ids ids) (λ y. refl)))

    pub seek-left : (p : ℕ) (offset : ℤ) (whence : Whence) → Changing f (plan_seek w t p offset whence) (plan_seek (renamed f w) t p offset whence)
    seek-left p offset whence = answered-left f (sought_renamed f) _ _ _ (seek_asks-renamed f w t p offset whence) (λ s. just f (edits_open f s.0 (at_cursor s.1) (at_cursor s.1) (λ z. refl)))

    pub set_openmodes-left : (p : ℕ) (flags : OpenFlags) → Changing f (plan_set_openmodes w t p flags) (plan_set_openmodes (renamed f w) t p flags)
    set_openmodes-left p flags = answered-left f (handle_renamed f) _ _ _ (handle_asks-renamed f w t p any_mode) (λ a.
        just f (edits_open f a.open_name (appending (asks flags APPEND)) (appending (asks flags APPEND)) (λ z. refl)))

    pub share-left : f.more t ≡ 0 → (p : ℕ) (ids : IdSets → IdSets → IdSets) → Changing f (plan_share w t p ids) (plan_share (renamed f w) t p ids)
    share-left no_more p ids = answered-left f (shared_renamed f) _ _ _ (share_asks-renamed f w t no_more p) (λ a. porting-left t (Io (with_ids_for (ids a.1.ids a.0.ids) a.0)))
