-- What calls on entries touch, by the ports that they are made on.
use Rattle.std.proofs.Common.{◌≡◌, ◌⊎◌, ◌∙◌, ℕ, List, Option, Some, refl, sym, ap, subst, inl, inr}
use Rattle.std.specs.Prelude.{Result, Ok}
use Rattle.hurd_creds.specs.Access.{least_uid}
use Rattle.hurd_creds.specs.declared.attrs.Kind.TheVariants.{File}
use Rattle.hurd_trans_iface.specs.Answers.{entry_of}
use Rattle.hurd_ports.specs.Tables.{Task}
use Rattle.hurd_machine.proofs.Common.{AttrOf, BodyOf, EmptyOf, Errno, Header, IoRight, Mode, Name, Named, OpenFlags, Part, UsersOf, World, body_at, header_at, home_at, io_right_of, port_asks, ports_of}
use Rattle.hurd_machine.specs.World.{links_at, makes_at}
use Rattle.hurd_machine.specs.Handle.{both_asks}
use Rattle.hurd_machine.specs.Touched.{OnLinks, OnNode}
use Rattle.hurd_machine.proofs.Asks.{first_ok, given_ok, on_ok}
use Rattle.hurd_core.specs.Core.{NewNodeAt, making_asks, making_dir_asks, room_asks}
use Rattle.hurd_dirs.specs.Entry.{dir_asks, entry_asks, name_asks}
use Rattle.hurd_dirs.specs.Make.{mkdir_asks, node_by, touches_mkdir}
use Rattle.hurd_dirs.specs.File.{file_by, mkfile_asks, touches_mkfile}
use Rattle.hurd_dirs.specs.Remove.{Entered, OnEntry, found_asks, rmdir_asks, taking_asks, touches_rmdir, touches_unlink, unlink_asks}
use Rattle.hurd_dirs.specs.Link.{OnName, link_asks, touches_link}
use Rattle.hurd_dirs.specs.Rename.{leaves_asks, old_asks, rename_asks, touches_rename, trees_ask}
use Rattle.hurd_touches.specs.Touched.{AreItsEntries, OnLinked, OnPort, OnTaken}
use Rattle.hurd_touches.proofs.PortLaws.{named, parts_of}

-- two good answers that are the same answer the same
ok_is : {A : Type 0} {a b : A} → ◌≡◌ {A = Result A Errno} (Ok a) (Ok b) → a ≡ b
ok_is e = cc (e)

-- what holds of one holds of its like
carry : {R : Type 0} (x y : R) → x ≡ y → (P : R → Type 0) → P x → P y
carry x y e P h = subst P e h

module _ (w : World) (t p : ℕ) where
  -- the port by which an entry is changed
  entry_named : (name : List ℕ) (n : Named) → entry_asks w t p name ≡ Ok n → io_right_of (ports_of w) t p ≡ Ok n.right
  entry_named name n is =
      let a = first_ok (port_asks w t p) _ n is in
      let u = first_ok (name_asks name) _ n a.2 in
      let v = first_ok (dir_asks w a.0) _ n u.2 in
      let same : a.0 ≡ n = cc (v.2) in
      named w t p n (a.1 ∙ ap Ok same)

  pub mkdir_port : (name : List ℕ) (mode : Mode) (k : Part) → touches_mkdir w t p name mode k → OnPort w t p AreItsEntries k
  mkdir_port name mode k on =
      let a = parts_of (mkdir_asks w t p name mode) _ k on in
      let m = parts_of (making_dir_asks w t a.0) _ k a.2 in
      let n = first_ok (entry_asks w t p name) _ a.0 a.1 in
      let o = on_ok _ (least_uid n.0.right.ids) _ a.0 n.2 in
      let g = given_ok _ _ _ a.0 o.2 in
      let same : node_by n.0 name o.0 mode ≡ a.0 = cc (g.1) in
      (n.0.right, entry_named name n.0 n.1, subst (λ (f : NewNodeAt). (k ≡ BodyOf f.dir) ⊎ (k ≡ EmptyOf f.dir)) (sym same) m.2)

  pub mkfile_port : (flags : OpenFlags) (mode : Mode) (k : Part) → touches_mkfile w t p flags mode k → OnPort w t p (λ r. OnNode w r.node) k
  mkfile_port flags mode k on =
      let a = parts_of (mkfile_asks w t p mode) _ k on in
      let m = parts_of (making_asks w t a.0.1) _ k a.2 in
      let n = first_ok (port_asks w t p) _ a.0 a.1 in
      let d = first_ok (dir_asks w n.0) _ a.0 n.2 in
      let o = on_ok _ (least_uid n.0.right.ids) _ a.0 d.2 in
      let same : (n.0, file_by n.0 o.0 mode) ≡ a.0 = cc (o.2) in
      let x = first_ok (room_asks w t 2) _ m.0 m.1 in
      let u = first_ok (makes_at w a.0.1.dir a.0.1.entry File) _ m.0 x.2 in
      let s = on_ok _ (home_at w a.0.1.dir) _ m.0 u.2 in
      let server : (x.0, s.0) ≡ m.0 = cc (s.2) in
      (n.0.right, named w t p n.0 n.1, subst (λ (z : Named × NewNodeAt). OnNode w z.1.dir k) (sym same) (s.0, s.1, m.2 ∙ ap UsersOf (sym (ap (λ (z : Task × Name). z.1) server))))

  taken : (d n : Name) (h : Header) (name : List ℕ) → entry_of name (body_at w d) ≡ Some n → (k : Part) → OnEntry w (record { dir = d; node = n; header = h }) k → OnTaken w d name k
  taken d n h name is k (inl e) = inl (inl e)
  taken d n h name is k (inr (inl e)) = inl (inr e)
  taken d n h name is k (inr (inr (inl e))) = inr (n, is, inl e)
  taken d n h name is k (inr (inr (inr on))) = inr (n, is, inr on.1)

  taking_port : (name : List ℕ) (x : Entered) → taking_asks w t p name ≡ Ok x → (k : Part) → OnEntry w x k → OnPort w t p (λ r. OnTaken w r.node name) k
  taking_port name x is k on =
      let a = first_ok (entry_asks w t p name) _ x is in
      let f = first_ok (found_asks w a.0.right.node name) _ x a.2 in
      let g = given_ok _ _ _ x f.2 in
      let same : f.0 ≡ x = cc (g.1) in
      let n = on_ok _ (entry_of name (body_at w a.0.right.node)) _ f.0 f.1 in
      let h = on_ok _ (header_at w n.0) _ f.0 n.2 in
      let kin = given_ok _ _ _ f.0 h.2 in
      let found : record { dir = a.0.right.node; node = n.0; header = h.0 } ≡ f.0 = cc (kin.1) in
      (a.0.right, entry_named name a.0 a.1, taken a.0.right.node n.0 h.0 name n.1 k (subst (λ z. OnEntry w z k) (sym (found ∙ same)) on))

  pub unlink_port : (name : List ℕ) (k : Part) → touches_unlink w t p name k → OnPort w t p (λ r. OnTaken w r.node name) k
  unlink_port name k on =
      let s = parts_of (unlink_asks w t p name) (OnEntry w) k on in
      let x = first_ok (taking_asks w t p name) _ s.0 s.1 in
      let g = given_ok _ _ _ s.0 x.2 in
      let same : x.0 ≡ s.0 = cc (g.1) in
      taking_port name x.0 x.1 k (subst (λ z. OnEntry w z k) (sym same) s.2)

  pub rmdir_port : (name : List ℕ) (k : Part) → touches_rmdir w t p name k → OnPort w t p (λ r. OnTaken w r.node name) k
  rmdir_port name k on =
      let s = parts_of (rmdir_asks w t p name) (OnEntry w) k on in
      let x = first_ok (taking_asks w t p name) _ s.0 s.1 in
      let g = given_ok _ _ _ s.0 x.2 in
      let b = given_ok _ _ _ s.0 g.1 in
      let e = given_ok _ _ _ s.0 b.1 in
      let same : x.0 ≡ s.0 = cc (e.1) in
      taking_port name x.0 x.1 k (subst (λ z. OnEntry w z k) (sym same) s.2)

  module _ (q : ℕ) where
    both : (b : Named × Named) → both_asks w t p q ≡ Ok b → (io_right_of (ports_of w) t p ≡ Ok b.0.right) × (io_right_of (ports_of w) t q ≡ Ok b.1.right)
    both b is =
        let r = first_ok (io_right_of (ports_of w) t p) _ b is in
        let s = first_ok (io_right_of (ports_of w) t q) _ b r.2 in
        let h = on_ok _ (header_at w r.0.node) _ b s.2 in
        let k = on_ok _ (header_at w s.0.node) _ b h.2 in
        let same : (record { right = r.0; header = h.0 }, record { right = s.0; header = k.0 }) ≡ b = cc (k.2) in
        (r.1 ∙ ap (λ (z : Named × Named). Ok z.0.right) same, s.1 ∙ ap (λ (z : Named × Named). Ok z.1.right) same)

    pub link_ports : (name : List ℕ) (k : Part) → touches_link w t p name q k → OnPort w t p AreItsEntries k ⊎ OnPort w t q (λ r. OnLinked w r.node) k
    link_ports name k on =
        let a = parts_of (link_asks w t p name q) _ k on in
        let l = parts_of (links_at w a.0.dir name a.0.file) _ k a.2 in
        let b = first_ok (both_asks w t p q) _ a.0 a.1 in
        let u = first_ok (name_asks name) _ a.0 b.2 in
        let v = first_ok (dir_asks w b.0.0) _ a.0 u.2 in
        let same : a.0 ≡ record { dir = b.0.0.right.node; file = b.0.1.right.node } = cc (v.2) in
        let rights = both b.0 b.1 in
        by b.0.0.right b.0.1.right rights.0 rights.1 (carry a.0 _ same (λ z. OnName w z k) l.2)
      where
        by : (r s : IoRight) → io_right_of (ports_of w) t p ≡ Ok r → io_right_of (ports_of w) t q ≡ Ok s → OnName w (record { dir = r.node; file = s.node }) k → OnPort w t p AreItsEntries k ⊎ OnPort w t q (λ r. OnLinked w r.node) k
        by r s is_r is_s (inl e) = inl (r, is_r, inl e)
        by r s is_r is_s (inr (inl e)) = inl (r, is_r, inr e)
        by r s is_r is_s (inr (inr (inl e))) = inr (s, is_s, inl e)
        by r s is_r is_s (inr (inr (inr on))) = inr (s, is_s, inr on.1)

    -- where an entry goes from one directory to another
    abbrev OnMove : Name → Name → Name → Option Name → Part → Type 0
    OnMove d e n old a = ((a ≡ BodyOf d) ⊎ (a ≡ EmptyOf d)) ⊎ (((a ≡ BodyOf e) ⊎ (a ≡ EmptyOf e)) ⊎ ((a ≡ AttrOf n) ⊎ ((m : Name) × (old ≡ Some m) × ((a ≡ AttrOf m) ⊎ OnLinks w m 1 a))))

    pub rename_ports : (name new : List ℕ) (k : Part) → touches_rename w t p name q new k → OnPort w t p (λ r. OnTaken w r.node name) k ⊎ OnPort w t q (λ r. OnTaken w r.node new) k
    rename_ports name new k on =
        let r = parts_of (rename_asks w t p name q new) _ k on in
        let b = first_ok (both_asks w t p q) _ r.0 r.1 in
        let u = first_ok (name_asks name) _ r.0 b.2 in
        let v = first_ok (name_asks new) _ r.0 u.2 in
        let d = first_ok (trees_ask w b.0.0 b.0.1) _ r.0 v.2 in
        let l = first_ok (leaves_asks w name b.0.0 b.0.1) _ r.0 d.2 in
        let old : Option Name = entry_of new (body_at w b.0.1.right.node) in
        let o = first_ok (old_asks w b.0.1 l.0 old) _ r.0 l.2 in
        let same : r.0 ≡ record { from = b.0.0.right.node; to = b.0.1.right.node; node = l.0.0; old = old } = cc (o.2) in
        let g = given_ok _ _ _ l.0 l.1 in
        let n = on_ok _ (entry_of name (body_at w b.0.0.right.node)) _ l.0 g.1 in
        let h = on_ok _ (header_at w n.0) _ l.0 n.2 in
        let kin = given_ok _ _ _ l.0 h.2 in
        let may = given_ok _ _ _ l.0 kin.1 in
        let inside = given_ok _ _ _ l.0 may.1 in
        let leaves : (n.0, h.0) ≡ l.0 = ok_is inside.1 in
        let rights = both b.0 b.1 in
        by b.0.0.right b.0.1.right l.0.0 old rights.0 rights.1 (n.1 ∙ ap (λ (z : Name × Header). Some z.0) leaves) refl (carry r.0 _ same (λ z. OnMove z.from z.to z.node z.old k) r.2)
      where
        by : (r s : IoRight) (n : Name) (old : Option Name) → io_right_of (ports_of w) t p ≡ Ok r → io_right_of (ports_of w) t q ≡ Ok s
            → entry_of name (body_at w r.node) ≡ Some n → entry_of new (body_at w s.node) ≡ old → OnMove r.node s.node n old k
            → OnPort w t p (λ r. OnTaken w r.node name) k ⊎ OnPort w t q (λ r. OnTaken w r.node new) k
        by r s n old is_r is_s is_n is_old (inl e) = inl (r, is_r, inl e)
        by r s n old is_r is_s is_n is_old (inr (inl e)) = inr (s, is_s, inl e)
        by r s n old is_r is_s is_n is_old (inr (inr (inl e))) = inl (r, is_r, inr (n, is_n, inl e))
        by r s n old is_r is_s is_n is_old (inr (inr (inr m))) = inr (s, is_s, inr (m.0, is_old ∙ m.1, elim m.2 [ inl e ↦ inl e | inr on ↦ inr on.1 ]))
