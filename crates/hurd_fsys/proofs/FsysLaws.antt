-- The laws of sending servers away, of getting control of them, and of asking how they were made.
use Rattle.std.proofs.Common.{[], ◌∷◌, ◌≡◌, ◌≢◌, ◌∙◌, ◌||◌, ◌&&◌, ◌==◌, not, ℕ, Bool, true, false, true≢false, Option, Some, refl, sym, ap, subst, inl, inr}
use Rattle.std.specs.Prelude.{Result, Ok}
use Rattle.hurd_machine.proofs.Common.{ByControl, ByNode, BySeat, Coherent, Control, DropServer, EBUSY, EDIED, ENXIO, EPERM, Errno, FORCE, Holds, Io, Name, Named, Nothing, Seen, ServerInfo, UsersOf, World, active_at, asks_goaway, boot_name, has_room, home_at, port_asks, same_name, server_at, users, faced, given, on}
use Rattle.hurd_creds.specs.declared.trans_flags.GoawayFlags.{GoawayFlags}
use Rattle.hurd_creds.proofs.NameLaws.{same_name-itself}
use Rattle.hurd_nodes.proofs.PartLaws.{and_both}
use Rattle.hurd_machine.specs.declared.call.Reply.TheVariants.{Done, Port, Words}
use Rattle.hurd_machine.specs.Sight.{Held}
use Rattle.hurd_machine.proofs.Faces.{face_reads}
use Rattle.hurd_machine.proofs.Views.{Agree, same_tasks, home_same, active_same, face_same}
use Rattle.hurd_machine.proofs.Opens.{own_task}
use Rattle.hurd_machine.proofs.Going.{goes_piece}
use Rattle.hurd_machine.proofs.Asks.{IsPlain, IsNamed, is_named, port_same, port_seen, port_plain, holds_right, first_ok, given_ok, on_ok, first_same, given_same, on_same, first_plain, given_plain, on_plain, ok_plain, answered_same, answered_plain, done_plain}
use Rattle.hurd_machine.proofs.CallLaws.{CallLaws, looking_laws, answered_piece, answered_whole}
use Rattle.hurd_machine.proofs.Confine.{Commands}
use Rattle.hurd_core.specs.Core.{room_asks}
use Rattle.hurd_fsys.specs.Controls.{Controlled, control_asks}
use Rattle.hurd_fsys.specs.Fsys.{may_go, goaway_asks, plan_goaway, touches_goaway, plan_control, seated_asks, plan_cntl, touches_cntl, may_control, served_asks, plan_getcontrol, touches_getcontrol, options_asks, plan_get_options, touches_get_options}
use Rattle.hurd_fsys.specs.Owned.{owned_asks}
use Rattle.hurd_fsys.proofs.OwnedLaws.{Owner, owner, owner_right, owner_sees, owned_same, owned_plain}
use Rattle.hurd_fsys.proofs.ControlLaws.{IsControlled, is_controlled, controlled_same, controlled_plain, owner_holds, controller_holds}
use Rattle.hurd_fsys.proofs.BegunLaws.{counted_task}
use Rattle.hurd_machine.proofs.Piece.{stands, settled}
use Rattle.hurd_machine.proofs.Sharing.{port_whole}

-- fsys_goaway

module _ (t c : ℕ) (flags : GoawayFlags) where
  abbrev force : Bool
  force = asks_goaway flags FORCE

  -- the server that goes isn't the boot server
  goer : (w : World) (s : Name) → goaway_asks w t c flags ≡ Ok s → s ≢ boot_name
  goer w s is e =
      let k = first_ok (control_asks w t c) _ s is in
      let g = given_ok EBUSY (may_go w k.0.server force) _ s k.2 in
      let same : k.0.server ≡ s = cc (g.1) in
      let both = and_both (not (same_name k.0.server boot_name)) (force || (users w k.0.server == 0)) g.0 in
      true≢false (sym both.0 ∙ ap (λ (z : Name). not (same_name k.0.server z)) (sym (same ∙ e)) ∙ ap not (same_name-itself k.0.server))

  -- whether it may go is the same for who controls it
  may_go_same : {S : ℕ → Bool} {v w : World} → Agree S v w → (k : Controlled) → IsControlled v t c k → S t ≡ true → may_go w k.server force ≡ may_go v k.server force
  may_go_same {S} {v} {w} a k is ours = by (same_name k.server boot_name) refl
    where
      by : (b : Bool) → same_name k.server boot_name ≡ b → may_go w k.server force ≡ may_go v k.server force
      by true e = rw e refl
      by false e =
          let other : k.server ≢ boot_name = λ same. true≢false (sym (same_name-itself k.server) ∙ ap (λ (z : Name). same_name k.server z) same ∙ e) in
          let used = a.parts (UsersOf k.server) (record { info = k.info; is_server = is.is_server; other = other; why = ByControl (holds_right t ours c (Control k.server) is.is_right) }) in
          let same : users w k.server ≡ users v k.server = cc (used) in
          ap (λ n. not (same_name k.server boot_name) && (force || (n == 0))) same

  pub goaway_laws : CallLaws t (λ w. plan_goaway w t c flags) (λ w. touches_goaway w t c flags)
  goaway_laws = record {
    piece = λ w s. answered_piece s (goaway_asks w t c flags) _ _ (λ q is. settled (DropServer q ∷ []) (tt, tt) (stands s) (goes_piece (stands s) q (goer w q is) (λ p g. inl g)));
    same = λ S v w c' d a ours. answered_same _ _ _ _ (first_same _ _ _ _ (controlled_same a t ours c) (λ k is.
        given_same _ _ _ _ _ (may_go_same a k (is_controlled v t c k is) ours) (λ e. refl))) (λ q is. refl);
    plain = λ w. answered_plain _ _ (first_plain _ _ (controlled_plain w t c) (λ k is. given_plain _ _ _ refl (λ e. ok_plain _))) (λ q is. done_plain Done refl);
  }

-- a port to control a server that was asked for

-- of what is asked: the server is there, who asked may command it, worlds that agree answer the same, and it isn't refused for lack of memory
pub record AskedServer (t : ℕ) (asks : World → Result Name Errno) : Type 0 where
  pub there : (w : World) → Coherent w → (s : Name) → asks w ≡ Ok s → (i : ServerInfo) × (server_at w s ≡ Some i)
  pub commanded : (S : ℕ → Bool) (v : World) → Coherent v → S t ≡ true → (s : Name) → asks v ≡ Ok s → Commands S v s
  pub same : (S : ℕ → Bool) (v w : World) → Agree S v w → S t ≡ true → asks w ≡ asks v
  pub plain : (w : World) → IsPlain (asks w)

module _ (t : ℕ) where
  pub control_laws : (asks : World → Result Name Errno) → AskedServer t asks → CallLaws t (λ w. plan_control w t (asks w)) (λ w. Nothing)
  control_laws asks l = record {
    piece = λ w s. answered_whole s (asks w) _ (λ q is. answered_whole s (room_asks w t 0) _ (λ x at.
        let i = l.there w s.coherent q is in
        port_whole s t (Control q) x (counted_task w t (has_room 0) x at) (own_task w t Nothing) tt (s.coherent.given.servers q i.0 i.1) (λ S ours. (l.commanded S w s.coherent ours q is, inr tt))));
    same = λ S v w c d a ours. answered_same _ _ _ _ (l.same S v w a ours) (λ q is. answered_same _ _ _ _ (on_same _ _ _ _ _ (same_tasks a t ours) (λ x k. refl)) (λ x at. refl));
    plain = λ w. answered_plain _ _ (l.plain w) (λ q is. answered_plain _ _ (on_plain _ _ _ refl (λ x k. given_plain _ _ _ refl (λ room. ok_plain _))) (λ x at. done_plain (Port x.next) refl));
  }

-- file_get_translator_cntl

module _ (t p : ℕ) where
  -- what is controlled is active on a node that the port's ids own
  record Seated (w : World) (s : Name) : Type 0 where
    named : Named
    owner : Owner t p w named
    active : active_at w named.right.node ≡ Some s

  seated : (w : World) (s : Name) → seated_asks w t p ≡ Ok s → Seated w s
  seated w s is =
      let n = first_ok (owned_asks w t p) _ s is in
      let q = on_ok ENXIO (active_at w n.0.right.node) _ s n.2 in
      let same : q.0 ≡ s = cc (q.2) in
      subst (Seated w) same (record { named = n.0; owner = owner t p w n.0 n.1; active = q.1 })

  pub cntl_laws : CallLaws t (λ w. plan_cntl w t p) (λ w. touches_cntl w t p)
  cntl_laws = control_laws t (λ w. seated_asks w t p) (record {
    there = λ w c s is. let k = seated w s is in let i = c.seating.seated k.named.right.node s k.active in (i.1, i.2);
    commanded = λ S v c ours s is.
        let k = seated v s is in
        let i = c.seating.seated k.named.right.node s k.active in
        let held = owner_right t p ours k.named k.owner in
        inr (i.1, i.2, BySeat k.named.right.node k.named.header (owner_sees t p ours k.named k.owner) k.active k.owner.is_named.is_header (owner_holds S v k.named held k.owner.owned));
    same = λ S v w a ours. first_same _ _ _ _ (owned_same t p a ours) (λ n is. on_same _ _ _ _ _ (active_same a n.right.node (owner_sees t p ours n (owner t p v n is))) (λ s at. refl));
    plain = λ w. first_plain _ _ (owned_plain t p w) (λ n is. on_plain _ _ _ refl (λ s at. ok_plain _));
  })

-- file_getcontrol

-- what is asked of the server of a port's node goes by what is seen of it

abbrev served_by : Named → Name → Option ServerInfo → Result Name Errno
served_by n s o = on EDIED o (λ i. given EPERM (may_control n.right.ids i.ids) (Ok s))

served_face : (n : Named) (s : Name) (i : ServerInfo) → served_by n s (Some (faced i)) ≡ served_by n s (Some i)
unfolding on
served_face n s i = refl

module _ (t p : ℕ) where
  -- what is controlled is the server of a port's node, and the port's ids may control it
  record Served (w : World) (s : Name) : Type 0 where
    named : Named
    is_named : IsNamed w t p named
    home : home_at w named.right.node ≡ Some s
    info : ServerInfo
    is_server : server_at w s ≡ Some info
    may : may_control named.right.ids info.ids ≡ true

  served : (w : World) (s : Name) → served_asks w t p ≡ Ok s → Served w s
  served w s is =
      let n = first_ok (port_asks w t p) _ s is in
      let q = on_ok EDIED (home_at w n.0.right.node) _ s n.2 in
      let i = on_ok EDIED (server_at w q.0) _ s q.2 in
      let g = given_ok EPERM (may_control n.0.right.ids i.0.ids) _ s i.2 in
      let same : q.0 ≡ s = cc (g.1) in
      subst (Served w) same (record { named = n.0; is_named = is_named w t p n.0 n.1; home = q.1; info = i.0; is_server = i.1; may = g.0 })

  -- a task of S sees a node of the server, and could serve it
  pub getcontrol_laws : CallLaws t (λ w. plan_getcontrol w t p) (λ w. touches_getcontrol w t p)
  getcontrol_laws = control_laws t (λ w. served_asks w t p) (record {
    there = λ w c s is. let k = served w s is in (k.info, k.is_server);
    commanded = λ S v c ours s is.
        let k = served v s is in
        let held : Holds S v (Io k.named.right) = holds_right t ours p (Io k.named.right) k.is_named.is_right in
        inr (k.info, k.is_server, ByNode k.named.right.node (Held k.named.right held refl) k.home (controller_holds S v c k.named.right held s k.info k.is_server k.may));
    same = λ S v w a ours. first_same _ _ _ _ (port_same a t ours p) (λ n is.
        let seen : Seen S v n.right.node = port_seen t ours p n is in
        on_same _ _ _ _ _ (home_same a n.right.node seen) (λ s home. face_reads (served_by n s) (served_face n s) (server_at v s) (server_at w s) (face_same a n.right.node s seen home)));
    plain = λ w. first_plain _ _ (port_plain w t p) (λ n is. on_plain _ _ _ refl (λ s home. on_plain _ _ _ refl (λ i at. given_plain _ _ _ refl (λ may. ok_plain _))));
  })

-- fsys_get_options: what it asks for is known to who controls the server, and nothing changes

pub get_options_laws : (t c : ℕ) → CallLaws t (λ w. plan_get_options w t c) (λ w. touches_get_options w t c)
get_options_laws t c = looking_laws t (λ w. options_asks w t c) (λ ws. Words ws)
    (λ S v w x a ours. first_same _ _ _ _ (controlled_same a t ours c) (λ k is. refl))
    (λ w. first_plain _ _ (controlled_plain w t c) (λ k is. ok_plain _))
    (λ ws. refl)
