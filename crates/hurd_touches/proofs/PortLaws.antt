-- What calls touch by the port that they are made on.
use Rattle.std.proofs.Common.{◌≡◌, ◌⊎◌, ◌∙◌, ℕ, ℤ, Bool, true, false, List, Option, Some, None, refl, sym, ap, subst, inl, inr}
use Rattle.std.specs.Prelude.{Result, Ok, Err}
use Rattle.hurd_creds.specs.declared.attrs.Attrs.{Attrs}
use Rattle.hurd_trans_iface.specs.Nodes.{Node}
use Rattle.hurd_trans_iface.specs.Behaviour.{reading, size_left}
use Rattle.hurd_trans_iface.specs.Kinds.{behaviour_of}
use Rattle.hurd_trans_iface.specs.Totals.{counts_for}
use Rattle.hurd_trans_iface.specs.Meaning.{Meaning}
use Rattle.hurd_trans_iface.proofs.Goods.{good}
use Rattle.hurd_nodes.specs.Needs.{streams_by}
use Rattle.hurd_nodes.specs.Shown.{ServerInfo, asked_of}
use Rattle.hurd_machine.proofs.Common.{Did, Errno, IdSets, Io, IoRight, Name, Named, OnDid, OnDrop, OnRight, OpenFlags, OpenOf, Part, READ, TaskOf, WRITE, World, asked_at, asked_parts, handle_asks, header_at, info_at, io_right_of, open_at, pending_of, port_asks, ports_of, space_at, stream_at}
use Rattle.hurd_machine.specs.World.{node_at, sets_attrs_at}
use Rattle.hurd_machine.specs.Handle.{any_mode}
use Rattle.hurd_machine.specs.declared.handle.Handle.{Handle}
use Rattle.hurd_machine.specs.declared.call.Whence.{Whence}
use Rattle.hurd_machine.specs.Touched.{Changes}
use Rattle.hurd_machine.proofs.Asks.{first_ok, given_ok, on_ok}
use Rattle.hurd_machine.proofs.Spaces.{effect_fits}
use Rattle.hurd_ports.specs.Tables.{right_of}
use Rattle.hurd_core.specs.Core.{send_asks}
use Rattle.hurd_rights.specs.Rights.{touches_deallocate, touches_send}
use Rattle.hurd_io.specs.Io.{touches_read, touches_write}
use Rattle.hurd_io.specs.Opens.{seek_asks, touches_seek, touches_set_openmodes}
use Rattle.hurd_io.specs.Sharing.{share_asks, touches_share}
use Rattle.hurd_io.proofs.Touching.{read_touches, write_touches}
use Rattle.hurd_files.specs.Files.{set_size_asks, touches_set_size}
use Rattle.hurd_files.specs.Access.{setting_asks, touches_setting}
use Rattle.hurd_fsys.specs.Starting.{pending_asks, startup_asks, touches_startup}
use Rattle.hurd_touches.specs.Touched.{IsItsNode, IsItsOpen, OnBytes, OnItsRight, OnPort, OnRead, OnStart, OnWrite}

pub parts_of : {A : Type 0} (x : Result A Errno) (k : A → Part → Type 0) (p : Part) → asked_parts x k p → (a : A) × (x ≡ Ok a) × k a p
unfolding asked_parts
parts_of (Err e) k p on = absurd on
parts_of (Ok a) k p on = (a, refl, on)

-- what a port has open is what its right says
record Held (w : World) (t p : ℕ) (a : Handle) : Type 0 where
  pub right : IoRight
  pub is_right : io_right_of (ports_of w) t p ≡ Ok right
  pub node : a.node ≡ right.node
  pub open_name : a.open_name ≡ right.open_name

held : (w : World) (t p mode : ℕ) (a : Handle) → handle_asks w t p mode ≡ Ok a → Held w t p a
held w t p mode a h =
    let r = first_ok (io_right_of (ports_of w) t p) _ a h in
    let o = on_ok _ (open_at w r.0.open_name) _ a r.2 in
    let m = given_ok _ _ _ a o.2 in
    let x = on_ok _ (header_at w r.0.node) _ a m.1 in
    let is : record { node = r.0.node; open_name = r.0.open_name; opened = o.0; kind = x.0.kind; size = x.0.size } ≡ a = cc in
    subst (Held w t p) is (record { right = r.0; is_right = r.1; node = refl; open_name = refl })

module _ (w : World) (t p : ℕ) where
  its_open : (mode : ℕ) (a : Handle) → handle_asks w t p mode ≡ Ok a → (k : Part) → k ≡ OpenOf a.open_name → OnPort w t p IsItsOpen k
  its_open mode a is k e = let h = held w t p mode a is in (h.right, h.is_right, e ∙ ap OpenOf h.open_name)

  pub seek_port : (offset : ℤ) (whence : Whence) (k : Part) → touches_seek w t p offset whence k → OnPort w t p IsItsOpen k
  seek_port offset whence k on =
      let s = parts_of (seek_asks w t p offset whence) _ k on in
      let a = first_ok (handle_asks w t p any_mode) _ s.0 s.1 in
      let at = first_ok _ _ s.0 a.2 in
      let same : (a.0.open_name, at.0) ≡ s.0 = cc (at.2) in
      its_open any_mode a.0 a.1 k (s.2 ∙ ap OpenOf (sym (ap (λ (z : Name × ℕ). z.0) same)))

  pub openmodes_port : (flags : OpenFlags) (k : Part) → touches_set_openmodes w t p flags k → OnPort w t p IsItsOpen k
  openmodes_port flags k on = let a = parts_of (handle_asks w t p any_mode) _ k on in its_open any_mode a.0 a.1 k a.2

  -- the right and its node
  pub named : (n : Named) → port_asks w t p ≡ Ok n → io_right_of (ports_of w) t p ≡ Ok n.right
  named n is =
      let r = first_ok (io_right_of (ports_of w) t p) _ n is in
      let h = on_ok _ (header_at w r.0.node) _ n r.2 in
      let same : record { right = r.0; header = h.0 } ≡ n = cc (h.2) in
      r.1 ∙ ap Ok (ap (λ (z : Named). z.right) same)

  pub share_port : (k : Part) → touches_share w t p k → OnPort w t p (λ r. OnRight w (Io r)) k
  share_port k on =
      let s = parts_of (share_asks w t p) _ k on in
      let n = first_ok (port_asks w t p) _ s.0 s.1 in
      let x = first_ok _ _ s.0 n.2 in
      let same : (n.0.right, x.0) ≡ s.0 = cc (x.2) in
      (s.0.0, named n.0 n.1 ∙ ap Ok (ap (λ z. z.0) same), s.2)

  pub setting_port : (can : IdSets → Attrs → Bool) (k : Part) → touches_setting w t p can k → OnPort w t p IsItsNode k
  setting_port can k on =
      let s = parts_of (setting_asks w t p can) _ k on in
      let n = first_ok (port_asks w t p) _ s.0 s.1 in
      let u = first_ok (sets_attrs_at w n.0.right.node) _ s.0 n.2 in
      let g = given_ok _ _ _ s.0 u.2 in
      let same : n.0 ≡ s.0 = cc (g.1) in
      (s.0.right, named n.0 n.1 ∙ ap (λ (z : Named). Ok z.right) same, s.2)

-- whatever a server did to a node
did_bytes : {T : Type 0} (w : World) (n : Name) (d : Did T) (k : Part) → OnDid w n d k → OnBytes w n k
did_bytes w n d k (inl on) = inl on.1
did_bytes w n d k (inr (inl on)) = inr (inl on.1)
did_bytes w n d k (inr (inr on)) = inr (inr on.1)

-- a read changes a stream alone

asked_keeps : (w : World) (n : Name) (at amount writers : ℕ) (d : Did (List ℕ)) → asked_at (reading at amount writers) n w ≡ Ok d → stream_at w n ≡ false → (d.bytes ≡ None) × (d.size ≡ None)
asked_keeps w n at amount writers d is lone = by (info_at w n) (node_at w n) is lone
  where
    by : (i : Option ServerInfo) (x : Option Node) → asked_of (reading at amount writers) i (space_at w n) x ≡ Ok d → streams_by i ≡ false → (d.bytes ≡ None) × (d.size ≡ None)
    by None x e l = absurd (cc (e))
    by (Some i) None e l = absurd (cc (e))
    by (Some i) (Some x) e l = (good i.kind).read_keeps i.text l x at amount writers d (effect_fits (space_at w n) x.header ((behaviour_of i.kind).read i.text x at amount writers) d e)

kept_nothing : {T : Type 0} (w : World) (n : Name) (d : Did T) (k : Part) → (d.bytes ≡ None) × (d.size ≡ None) → OnDid w n d k → ⊥
kept_nothing w n d k kept (inl on) = subst Changes kept.0 on.0
kept_nothing w n d k kept (inr (inl on)) = subst Changes kept.1 on.0
kept_nothing w n d k kept (inr (inr on)) = on.0.2 (ap (λ z. counts_for (size_left z on.0.0)) kept.1)

drained : (w : World) (n : Name) (at amount writers : ℕ) (d : Did (List ℕ)) → asked_at (reading at amount writers) n w ≡ Ok d → (k : Part) → OnDid w n d k → (stream_at w n ≡ true) × OnBytes w n k
drained w n at amount writers d is k on = by (stream_at w n) refl
  where
    by : (b : Bool) → stream_at w n ≡ b → (stream_at w n ≡ true) × OnBytes w n k
    by true s = (s, did_bytes w n d k on)
    by false s = absurd (kept_nothing w n d k (asked_keeps w n at amount writers d is s) on)

module _ (w : World) (t p : ℕ) where
  pub read_port : (amount : ℕ) (offset : ℤ) (k : Part) → touches_read w t p amount offset k → OnPort w t p (OnRead w) k
  read_port amount offset k on =
      let u = read_touches w t p amount offset k on in
      let h = held w t p READ u.handle u.is_handle in (
        h.right,
        h.is_right,
        elim u.on [
          | inl did ↦ inr (subst (λ n. (stream_at w n ≡ true) × OnBytes w n k) h.node (drained w u.handle.node did.0.at _ _ did.1 did.2 k did.3))
          | inr e ↦ inl (e ∙ ap OpenOf h.open_name)
        ],
      )

  pub write_port : (bytes : List ℕ) (offset : ℤ) (k : Part) → touches_write w t p bytes offset k → OnPort w t p (OnWrite w) k
  write_port bytes offset k on =
      let u = write_touches w t p bytes offset k on in
      let h = held w t p WRITE u.handle u.is_handle in (
        h.right,
        h.is_right,
        elim u.on [
          | inl did ↦ inr (subst (λ n. OnBytes w n k) h.node (did_bytes w u.handle.node did.1 k did.3))
          | inr e ↦ inl (e ∙ ap OpenOf h.open_name)
        ],
      )

  pub set_size_port : (size : ℕ) (k : Part) → touches_set_size w t p size k → OnPort w t p (λ r. OnBytes w r.node) k
  set_size_port size k on =
      let n = parts_of (set_size_asks w t p) _ k on in
      let d = parts_of _ _ k n.2 in
      let a = first_ok (handle_asks w t p WRITE) _ n.0 n.1 in
      let h = held w t p WRITE a.0 a.1 in
      let node : a.0.node ≡ n.0 = cc (a.2) in
      (h.right, h.is_right, subst (λ m. OnBytes w m k) (sym node ∙ h.node) (did_bytes w n.0 d.0 k d.2))

-- what a task is to start
pub startup_port : (w : World) (t : ℕ) (m : Meaning) (k : Part) → touches_startup w t m k → OnStart w t k
startup_port w t m k on =
    let s = parts_of (pending_asks w t) _ k on in
    let a = parts_of (startup_asks w t m s.0) _ k s.2 in
    let is = on_ok _ (pending_of (ports_of w) t) _ s.0 s.1 in
    let same : is.0 ≡ s.0 = cc (is.2) in
    (s.0, is.1 ∙ ap Some same, a.2)

-- rights of a task, whatever they are for
module _ (w : World) (t p : ℕ) where
  pub deallocate_port : (k : Part) → touches_deallocate w t p k → OnItsRight w t p (OnDrop w) k
  deallocate_port k on = parts_of (right_of (ports_of w) t p) _ k on

  pub send_port : (q : ℕ) (k : Part) → touches_send w t p q k → OnItsRight w t p (λ r k. OnRight w r k ⊎ (k ≡ TaskOf q)) k
  send_port q k on =
      let a = parts_of (send_asks w t p q) _ k on in
      let n = first_ok (right_of (ports_of w) t p) _ a.0 a.1 in
      let g = given_ok _ _ _ a.0 n.2 in
      let same : n.0 ≡ a.0 = cc (g.1) in
      (a.0, n.1 ∙ ap Ok same, a.2)
