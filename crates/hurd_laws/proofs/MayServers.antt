-- What the calls on servers touch, their callers may change.
use Rattle.std.proofs.Common.{◌≡◌, ◌∙◌, ◌||◌, if◌then◌else◌, not, ℕ, Bool, true, false, List, Option, Some, None, refl, sym, ap, subst, inl, inr, ◌==◌, true≢false}
use Rattle.std.specs.Prelude.{Result, Ok, Err}
use Rattle.hurd_trans_iface.specs.Kinds.{behaviour_of}
use Rattle.hurd_nodes.specs.Shown.{ServerInfo, info_taken, takes_options}
use Rattle.hurd_machine.proofs.Common.{AttrOf, BodyOf, Control, EmptyOf, EndsOf, Errno, Holds, Meaning, Name, Named, OptionsOf, Part, PendingStart, SET, Start, TextOf, TotalOf, UsersOf, World, active_at, asks_trans, ports_of, server_at, tree_by}
use Rattle.hurd_creds.specs.TransBits.{ORPHAN}
use Rattle.hurd_creds.proofs.NameLaws.{same_name-itself}
use Rattle.hurd_nodes.proofs.PartLaws.{and_both}
use Rattle.hurd_machine.proofs.Common.{FORCE, asks_goaway, boot_name, same_name, users}
use Rattle.hurd_creds.specs.declared.trans_flags.GoawayFlags.{GoawayFlags}
use Rattle.hurd_machine.specs.declared.call.Setting.{Setting}
use Rattle.hurd_machine.specs.Touched.{Goes}
use Rattle.hurd_machine.proofs.Asks.{first_ok, given_ok, holds_right}
use Rattle.hurd_core.specs.Control.{control_of}
use Rattle.hurd_core.specs.Core.{naming_asks}
use Rattle.hurd_fsys.specs.Controls.{control_asks}
use Rattle.hurd_fsys.specs.Fsys.{goaway_asks, may_go, touches_goaway, touches_set_options}
use Rattle.hurd_fsys.specs.Setting.{GoesFor, box_aims, box_parts, parts_where, seat_asks, seat_parts, setter_asks, sets_nothing, touches_set_translator}
use Rattle.hurd_fsys.specs.Starting.{pending_asks, startup_asks, touches_startup}
use Rattle.hurd_fsys.proofs.ControlLaws.{control_is, is_controlled}
use Rattle.hurd_fsys.proofs.OwnedLaws.{Owner, owner_right}
use Rattle.hurd_fsys.proofs.SettingLaws.{setter}
use Rattle.hurd_fsys.proofs.StartingLaws.{Starter, starter}
use Rattle.hurd_machine.specs.World.{IsAmong}
use Rattle.hurd_ports.specs.Tables.{start_of}
use Rattle.std.specs.Prelude.{◌++◌, map, is_some}
use Rattle.hurd_laws.specs.Integrity.{ByControl, BySeat, ByServer, Gone, MayChange, Owned, Owns, RootOf, Rules, Seated, SentAway, Served, Sized, Started, ToEnter, WithServer}
use Rattle.hurd_laws.proofs.Authority.{Allowed, parts_may, may_at}

-- a server that S may send away goes with all that is its own
goes_may : (S : ℕ → Bool) (w : World) (s : Name) → Rules S w s → (p : Part) → Goes w s p → MayChange S w p
goes_may S w s r (AttrOf n) (inl on) = Served s r on
goes_may S w s r (AttrOf n) (inr on) = Seated (SentAway s r on)
goes_may S w s r (EmptyOf n) on = Gone s r on
goes_may S w s r (BodyOf n) on = ToEnter (Gone s r on)
goes_may S w s r (EndsOf n) on = WithServer s r on
goes_may S w s r (OptionsOf q) on = inl (subst (Rules S w) (sym on) r)
goes_may S w s r (TextOf q) on = inr (subst (Rules S w) (sym on) r)
goes_may S w s r (UsersOf q) on = inr (subst (Rules S w) (sym on) r)
goes_may S w s r (TotalOf q) on = ByServer (subst (Rules S w) (sym on) r)
goes_may S w s r p on = absurd on

pub goaway_rules : {S : ℕ → Bool} {w : World} (t : ℕ) → S t ≡ true → (c : ℕ) (flags : GoawayFlags) (n : Name) → goaway_asks w t c flags ≡ Ok n → Rules S w n
goaway_rules {S} {w} t ours c flags n is =
    let k = first_ok (control_asks w t c) _ n is in
    let g = given_ok _ (may_go w k.0.server (asks_goaway flags FORCE)) _ n k.2 in
    let same : k.0.server ≡ n = cc (g.1) in
    let both = and_both (not (same_name k.0.server boot_name)) (asks_goaway flags FORCE || (users w k.0.server == 0)) g.0 in
    let held = holds_right t ours c (Control k.0.server) (is_controlled w t c k.0 k.1).is_right in
    subst (Rules S w) same (ByControl held (λ e. true≢false (sym both.0 ∙ ap (λ (z : Name). not (same_name k.0.server z)) (sym e) ∙ ap not (same_name-itself k.0.server))))

pub goaway_may : (t c : ℕ) (flags : GoawayFlags) → Allowed t (λ w. touches_goaway w t c flags)
goaway_may t c flags S w s ours q = parts_may (goaway_asks w t c flags) _ q (λ n is on. goes_may S w n (goaway_rules t ours c flags n is) q on)

-- the server that takes options is there, and takes these
pub record TakesThere (w : World) (s : Name) (words : List (List ℕ)) (a : ServerInfo × Option (List ℕ)) : Type 0 where
  pub is_server : server_at w s ≡ Some a.0
  pub takes : (behaviour_of a.0.kind).set_options words ≡ Ok a.1

pub takes_there : (w : World) (s : Name) (words : List (List ℕ)) (a : ServerInfo × Option (List ℕ)) → takes_options words (server_at w s) ≡ Ok a → TakesThere w s words a
takes_there w s words a is = by (server_at w s) refl is
  where
    taken : (i : ServerInfo) (r : Result (Option (List ℕ)) Errno) → server_at w s ≡ Some i → (behaviour_of i.kind).set_options words ≡ r → info_taken i r ≡ Ok a → TakesThere w s words a
    taken i (Ok o) at r e = let same : (i, o) ≡ a = cc (e) in subst (TakesThere w s words) same (record { is_server = at; takes = r })
    taken i (Err x) at r e = absurd (cc (e))

    by : (o : Option ServerInfo) → server_at w s ≡ o → takes_options words o ≡ Ok a → TakesThere w s words a
    by None at e = absurd (cc (e))
    by (Some i) at e = taken i ((behaviour_of i.kind).set_options words) at refl e

pub set_options_may : (t c : ℕ) (words : List (List ℕ)) → Allowed t (λ w. touches_set_options w t c words)
set_options_may t c words S w s ours q = parts_may (control_of (ports_of w) t c) _ q (λ n is. parts_may (takes_options words (server_at w n)) _ q (λ a takes on.
    let held = holds_right t ours c (Control n) (control_is w t c n is) in
    let server = (takes_there w n words a takes).is_server in
    elim on [
      | inl e ↦ may_at S w q (TextOf n) e (inl held)
      | inr o ↦ elim o [
        | inl tree ↦ may_at S w q (OptionsOf n) tree.1 (inr (held, ap tree_by server ∙ tree.0))
        | inr lone ↦ may_at S w q (AttrOf a.0.root) lone.1 (Sized (RootOf n a.0 held server lone.0 refl))
      ]
    ]))

-- file_set_translator

pub owner_owns : {S : ℕ → Bool} {w : World} (t : ℕ) → S t ≡ true → (p : ℕ) (n : Named) → Owner t p w n → Owns S w n.right.node
owner_owns t ours p n k = record { right = n.right; held = owner_right t p ours n k; node = refl; header = n.header; is_header = k.is_named.is_header; owned = k.owned }

seat_may : (S : ℕ → Bool) (w : World) (f : Setting) (n : Name) → Owns S w n → (old : Option Name) → active_at w n ≡ old → (q : Part) → seat_parts w f n old q → MayChange S w q
seat_may S w f n owns old at q (inl e) = may_at S w q (AttrOf n) e (Owned owns)
seat_may S w f n owns old at q (inr goes) = by (not (asks_trans f.active SET) || asks_trans f.active ORPHAN) old at goes
  where
    by : (b : Bool) (o : Option Name) → active_at w n ≡ o → GoesFor w (if b then None else o) q → MayChange S w q
    by true o e on = absurd on
    by false None e on = absurd on
    by false (Some s) e on = goes_may S w s (BySeat n e owns) q on

pub seat_active : (w : World) (f : Setting) (n : Named) (old : Option Name) → seat_asks w f n ≡ Ok old → active_at w n.right.node ≡ old
seat_active w f n old is = let g = given_ok _ _ _ old is in let h = given_ok _ _ _ old g.1 in cc (h.1)

pub set_translator_may : (t p : ℕ) (f : Setting) (box : Option Meaning) → Allowed t (λ w. touches_set_translator w t p f box)
set_translator_may t p f box S w s ours q = parts_may (setter_asks w t p f (is_some box)) _ q (λ n is on.
    let k = setter t p f w (is_some box) n is in
    by (sets_nothing f) n (owner_owns t ours p n k) on)
  where
    of_box : (o : Option Meaning) (n : Named) → Owns S w n.right.node → (old : Option Name) → active_at w n.right.node ≡ old → box_parts w t f o n.right.node old q → MayChange S w q
    of_box None n owns old at on = seat_may S w f n.right.node owns old at q on
    of_box (Some m) n owns old at on = parts_may (naming_asks w t 2) _ q (λ x is on. seat_may S w f n.right.node owns old at q on) on

    by : (b : Bool) (n : Named) → Owns S w n.right.node → parts_where b w t f box n q → MayChange S w q
    by true n owns on = absurd on
    by false n owns on = parts_may (seat_asks w f n) _ q (λ old is. parts_may (box_aims w n box) _ q (λ targets aims on.
        of_box box n owns old (seat_active w f n old is) on)) on

-- fsys_startup

pub start_held : {S : ℕ → Bool} {w : World} (t : ℕ) → S t ≡ true → (s : PendingStart) → Starter t w s → Holds S w (Start s.node)
start_held t ours s k = record { task = t; ours = ours; seat = k.seat; is_task = k.is_task; here = among k.seat.pending k.is_pending }
  where
    among : (p : Option PendingStart) → p ≡ Some s → IsAmong (Start s.node) (start_of p ++ (map (λ q. q.right) k.seat.ports ++ k.seat.inbox))
    among None e = absurd (cc)
    among (Some q) e = inl (let same : q ≡ s = cc in ap (λ (z : PendingStart). Start z.node) same)

pub startup_may : (t : ℕ) (m : Meaning) → Allowed t (λ w. touches_startup w t m)
startup_may t m S w s ours q = parts_may (pending_asks w t) _ q (λ k is. parts_may (startup_asks w t m k) _ q (λ a asked on.
    may_at S w q (AttrOf k.node) on (Seated (Started (start_held t ours k (starter t w k is))))))
