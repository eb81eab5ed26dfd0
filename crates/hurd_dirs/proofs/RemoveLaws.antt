-- The laws of taking entries out of directories.
use Rattle.std.proofs.Common.{◌≡◌, ◌∙◌, ℕ, Bool, true, false, not, true≢false, List, [], Option, Some, None, refl, sym, ap, ap₂, subst, inl, inr}
use Rattle.std.specs.Prelude.{Result, Ok, is_some}
use Rattle.std.specs.Option.{option_map}
use Rattle.hurd_machine.proofs.Common.{Body, BodyOf, Coherent, Content, Dir, EACCES, EBUSY, EDIED, EISDIR, ENOENT, ENOTDIR, ENOTEMPTY, EmptyOf, Errno, Header, Listing, Name, Named, Node, Reply, Seen, Sees, ServerInfo, World, active_at, answered, are_kin, asked_parts, body_at, entry_of, get, header_at, home_at, info_at, info_in, is_dir, is_empty_dir, lists_at, tree_by}
use Rattle.std.proofs.lemmas.Bool.{not-true}
use Rattle.hurd_creds.proofs.NameLaws.{same_name-itself}
use Rattle.hurd_trans_iface.specs.Answers.{unlink_edits}
use Rattle.hurd_trans_iface.proofs.Goods.{good}
use Rattle.hurd_nodes.specs.Shown.{unlink_by, unlink_edits_at}
use Rattle.hurd_machine.specs.declared.call.Reply.TheVariants.{Done}
use Rattle.hurd_machine.specs.World.{nodes_of, unlinks_at}
use Rattle.hurd_machine.specs.Plan.{Follows}
use Rattle.hurd_machine.proofs.Nodes.{header_in, body_in, node_of_header}
use Rattle.hurd_machine.proofs.Coherence.{entry_lists}
use Rattle.hurd_machine.proofs.Views.{Agree, header_same, body_same, home_same, active_same}
use Rattle.hurd_machine.proofs.Frame.{Full}
use Rattle.hurd_machine.proofs.Lasts.{recounts_unlinked}
use Rattle.hurd_machine.proofs.Removals.{MayRemove, unlinking_piece}
use Rattle.hurd_machine.proofs.Asks.{IsPlain, on_ok, given_ok, first_ok, on_same, given_same, first_same, on_plain, given_plain, first_plain, ok_plain, answered_same, answered_plain, done_plain}
use Rattle.hurd_machine.proofs.CallLaws.{CallLaws, answered_piece}
use Rattle.hurd_core.specs.Core.{settled_edits}
use Rattle.hurd_dirs.specs.Entry.{entry_asks, may_take}
use Rattle.hurd_dirs.specs.Remove.{Entered, OnEntry, is_empty_at, found_asks, taking_asks, removing, unlink_asks, plan_unlink, touches_unlink, rmdir_asks, plan_rmdir, touches_rmdir}
use Rattle.hurd_dirs.proofs.EntryLaws.{IsEntryAt, dir_kind, entry_at, entry_seen, entry_same, entry_plain, child_seen, child_empty}
use Rattle.hurd_machine.proofs.Removals as gone
use Rattle.hurd_machine.proofs.Piece.{stands, settled}

-- an entry of a port's directory, which names a node of the directory's server
pub record IsTaking (w : World) (t p : ℕ) (name : List ℕ) (x : Entered) : Type 0 where
  pub at : Named
  pub is_entry : IsEntryAt w t p at
  pub on_dir : at.right.node ≡ x.dir
  pub entry : entry_of name (body_at w at.right.node) ≡ Some x.node
  pub is_header : header_at w x.node ≡ Some x.header
  pub kin : are_kin (home_at w at.right.node) (home_at w x.node) ≡ true

taking : (w : World) (t p : ℕ) (name : List ℕ) (x : Entered) → taking_asks w t p name ≡ Ok x → IsTaking w t p name x
taking w t p name x is =
    let a = first_ok (entry_asks w t p name) _ x is in
    let f = first_ok (found_asks w a.0.right.node name) _ x a.2 in
    let g = given_ok EACCES (may_take a.0.right.ids a.0.header f.0.header) _ x f.2 in
    let n = on_ok ENOENT (entry_of name (body_at w a.0.right.node)) _ f.0 f.1 in
    let h = on_ok EDIED (header_at w n.0) _ f.0 n.2 in
    let k = given_ok EDIED (are_kin (home_at w a.0.right.node) (home_at w n.0)) _ f.0 h.2 in
    let same : record { dir = a.0.right.node; node = n.0; header = h.0 } ≡ x = cc (k.1, g.1) in
    subst (IsTaking w t p name) same (record { at = a.0; is_entry = entry_at w t p name a.0 a.1; on_dir = refl; entry = n.1; is_header = h.1; kin = k.0 })

-- the core does what is asked

pub kin_itself : (s q : Option Name) → are_kin s q ≡ true → are_kin s s ≡ true
kin_itself None q h = absurd (cc)
kin_itself (Some s) q h = same_name-itself s

-- where all edits are of the directory's server, it makes all of them
all_own : (w : World) (t p : ℕ) (name : List ℕ) (x : Entered) (k : IsTaking w t p name x) → unlink_edits_at x.dir name (nodes_of w) ≡ unlink_edits x.dir name (Some x.node)
all_own w t p name x k = let d = k.at.right.node in rw (← k.on_dir, k.entry, kin_itself (home_at w d) (home_at w x.node) k.kin, k.kin) refl

-- an entry that is there in a directory of a tree is taken out
unlinks : (w : World) (d : Name) (name : List ℕ) (n : Name) (h : Header) → header_at w d ≡ Some h → h.kind ≡ Dir → tree_by (info_at w d) ≡ true → entry_of name (body_at w d) ≡ Some n → unlinks_at w d name ≡ Ok tt
unlinks w d name n h at dir tree is = go (info_at w d) (get w.nodes d) at tree is
  where
    go : (i : Option ServerInfo) (o : Option Node) → header_in o ≡ Some h → tree_by i ≡ true → entry_of name (body_in o) ≡ Some n → unlink_by name i o ≡ Ok tt
    go (Some i) (Some y) eh et en = let same : y.header ≡ h = cc (eh) in rw (same, dir, et, en) refl
    go _ _ eh et en = absurd (cc)

pub removing-follows : (w : World) (t p : ℕ) (name : List ℕ) (asks : Result Entered Errno) (x : Entered) (r : Reply) (y : World) → asks ≡ Ok x → IsTaking w t p name x
    → Follows w (answered (unlinks_at w x.dir name) (λ u. record { reply = Done; changes = settled_edits (unlink_edits_at x.dir name (nodes_of w)) })) r y → Follows w (answered asks (removing name)) r y
unfolding answered
removing-follows w t p name asks x r y is k f =
    let e = k.is_entry in
    let may : unlinks_at w x.dir name ≡ Ok tt = rw (← k.on_dir) (unlinks w k.at.right.node name x.node k.at.header e.is_named.is_header e.dir.opened.dir e.dir.opened.tree k.entry) in
    rw is (rw (may, all_own w t p name x k) at f)

-- what the two calls know of their entry: a directory has no entries itself

pub empty_none : (o : Option Body) (m : Name) → is_empty_at o ≡ true → lists_at m o ≡ false
empty_none (Some (Content bs)) m h = refl
empty_none (Some (Listing [])) m h = refl
empty_none _ m h = absurd (cc)

pub record MayTake (w : World) (t p : ℕ) (name : List ℕ) (x : Entered) : Type 0 where
  pub is_taking : IsTaking w t p name x
  pub empty : x.header.kind ≡ Dir → is_empty_at (body_at w x.node) ≡ true

-- an entry of a directory of a tree may be taken out; if it is of a directory, of one without entries
pub removable : (w : World) → Coherent w → (d : Name) (k : Header) (name : List ℕ) (n : Name) (h : Header) → header_at w d ≡ Some k → tree_by (info_at w d) ≡ true → entry_of name (body_at w d) ≡ Some n → header_at w n ≡ Some h
    → (h.kind ≡ Dir → (m : Name) → lists_at m (body_at w n) ≡ false) → MayRemove w d name n
removable w c d k name n h at tree entry is empty =
    let x = node_of_header (get w.nodes d) k at in
    record {
      dir = x.0;
      is_dir = x.1;
      entry = sym (ap (λ (o : Option Node). entry_of name (body_in o)) x.1) ∙ entry;
      header = h;
      is_header = is;
      tree = ap (λ o. tree_by (info_in w.servers o)) (c.tree.kin d n (entry_lists name (body_at w d) n entry)) ∙ tree;
      empty = empty;
    }

may_remove : (w : World) → Coherent w → (t p : ℕ) (name : List ℕ) (x : Entered) → MayTake w t p name x → MayRemove w x.dir name x.node
may_remove w c t p name x m =
    let k = m.is_taking in
    let e = k.is_entry in
    subst (λ d. MayRemove w d name x.node) k.on_dir
    (removable w c k.at.right.node k.at.header name x.node x.header e.is_named.is_header e.dir.opened.tree k.entry k.is_header (λ dir q. empty_none (body_at w x.node) q (m.empty dir)))

-- what S sees of the entry

module _ {S : ℕ → Bool} {v : World} (t : ℕ) (ours : S t ≡ true) (p : ℕ) (name : List ℕ) where
  body_seen : (x : Entered) → IsTaking v t p name x → Sees S v (BodyOf x.dir)
  body_seen x k = subst (λ d. Sees S v (BodyOf d)) k.on_dir (entry_seen t ours p k.at k.is_entry)

  node_seen : (x : Entered) → IsTaking v t p name x → Seen S v x.node
  node_seen x k = child_seen t ours p k.at k.is_entry.is_named k.is_entry.dir.opened name x.node k.entry

  -- whether a directory below one that S could write is empty
  empty_seen : Coherent v → (x : Entered) → IsTaking v t p name x → x.header.kind ≡ Dir → Sees S v (EmptyOf x.node)
  empty_seen c x k dir = child_empty t ours p k.at k.is_entry.is_named k.is_entry.dir.opened c name x.node x.header k.entry k.is_header dir

-- it asks the same in worlds that agree

pub empty_by : (o q : Option Body) → option_map is_empty_dir q ≡ option_map is_empty_dir o → is_empty_at q ≡ is_empty_at o
empty_by None None h = refl
empty_by (Some b) (Some c) h = cc
empty_by _ _ h = absurd (cc)

module _ {S : ℕ → Bool} {v w : World} (a : Agree S v w) (t : ℕ) (ours : S t ≡ true) (p : ℕ) (name : List ℕ) where
  found_same : (n : Named) → IsEntryAt v t p n → found_asks w n.right.node name ≡ found_asks v n.right.node name
  found_same n e =
      let sees : Sees S v (BodyOf n.right.node) = entry_seen t ours p n e in
      on_same _ _ _ _ _ (ap (entry_of name) (body_same a n.right.node sees)) (λ m is.
      let seen : Seen S v m = child_seen t ours p n e.is_named e.dir.opened name m is in
      on_same _ _ _ _ _ (header_same a m seen) (λ h eh.
      given_same _ _ _ _ _ (ap₂ are_kin (home_same a n.right.node sees.0) (home_same a m seen)) (λ kin. refl)))

  taking_same : taking_asks w t p name ≡ taking_asks v t p name
  taking_same =
      first_same _ _ _ _ (entry_same a t ours p name) (λ n is.
      first_same _ _ _ _ (found_same n (entry_at v t p name n is)) (λ x found. given_same _ _ _ _ _ refl (λ may. refl)))

  unlink_same : unlink_asks w t p name ≡ unlink_asks v t p name
  unlink_same = first_same _ _ _ _ taking_same (λ x is. refl)

  rmdir_same : Coherent v → rmdir_asks w t p name ≡ rmdir_asks v t p name
  rmdir_same c =
      first_same _ _ _ _ taking_same (λ x is.
      given_same _ _ _ _ _ refl (λ dir.
      let sees : Sees S v (EmptyOf x.node) = empty_seen t ours p name c x (taking v t p name x is) (dir_kind x.header.kind dir) in
      given_same _ _ _ _ _ (ap (λ o. not (is_some o)) (active_same a x.node sees.0)) (λ idle.
      given_same _ _ _ _ _ (empty_by (body_at v x.node) (body_at w x.node) (let e = a.parts (EmptyOf x.node) sees in cc)) (λ empty. refl))))

taking_plain : (w : World) (t p : ℕ) (name : List ℕ) → IsPlain (taking_asks w t p name)
taking_plain w t p name = search (first_plain, on_plain, given_plain, entry_plain, ok_plain) depth 12

-- the laws of both

module _ (t p : ℕ) (name : List ℕ) (asks : World → Result Entered Errno) where
  removal_laws : ((w : World) (x : Entered) → asks w ≡ Ok x → MayTake w t p name x) → ((S : ℕ → Bool) (v w : World) → Coherent v → Agree S v w → S t ≡ true → asks w ≡ asks v) → ((w : World) → IsPlain (asks w))
      → CallLaws t (λ w. answered (asks w) (removing name)) (λ w. asked_parts (asks w) (OnEntry w))
  removal_laws takes same plain = record {
    piece = λ w s. answered_piece s (asks w) _ _ (λ x is.
        let k = takes w x is in
        settled (gone.unlinking x.dir name x.node) (tt, (tt, tt)) (stands s) (unlinking_piece x.dir name x.node good (stands s) (may_remove w s.coherent t p name x k) (inl (inl refl)) (inl (inr (inl refl))) (inl (inr (inr (inl refl))))
        (recounts_unlinked {T = Full w t (OnEntry w x)} w x.node (λ q on. inl (inr (inr (inr on))))) (λ S ours. (body_seen t ours p name x k.is_taking, node_seen t ours p name x k.is_taking))));
    same = λ S v w c d a ours. answered_same _ _ _ _ (same S v w c a ours) (λ x is. refl);
    plain = λ w. answered_plain _ _ (plain w) (λ x is. done_plain Done refl);
  }

-- dir_unlink: no directory

pub unlink_takes : (w : World) (t p : ℕ) (name : List ℕ) (x : Entered) → unlink_asks w t p name ≡ Ok x → MayTake w t p name x
unlink_takes w t p name x is =
    let k = first_ok (taking_asks w t p name) _ x is in
    let g = given_ok EISDIR (not (is_dir k.0.header.kind)) _ x k.2 in
    let same : k.0 ≡ x = cc (g.1) in
    subst (MayTake w t p name) same
    (record { is_taking = taking w t p name k.0 k.1; empty = λ dir. absurd (true≢false (sym (ap is_dir dir) ∙ not-true (is_dir k.0.header.kind) g.0)) })

pub unlink_laws : (t p : ℕ) (name : List ℕ) → CallLaws t (λ w. plan_unlink w t p name) (λ w. touches_unlink w t p name)
unlink_laws t p name =
    removal_laws t p name (λ w. unlink_asks w t p name) (λ w. unlink_takes w t p name) (λ S v w c a ours. unlink_same a t ours p name)
    (λ w. search (first_plain, given_plain, taking_plain, ok_plain) depth 12)

-- dir_rmdir: a directory without entries, on which no server is active

pub rmdir_takes : (w : World) (t p : ℕ) (name : List ℕ) (x : Entered) → rmdir_asks w t p name ≡ Ok x → MayTake w t p name x
rmdir_takes w t p name x is =
    let k = first_ok (taking_asks w t p name) _ x is in
    let d = given_ok ENOTDIR (is_dir k.0.header.kind) _ x k.2 in
    let s = given_ok EBUSY (not (is_some (active_at w k.0.node))) _ x d.1 in
    let g = given_ok ENOTEMPTY (is_empty_at (body_at w k.0.node)) _ x s.1 in
    let same : k.0 ≡ x = cc (g.1) in
    subst (MayTake w t p name) same (record { is_taking = taking w t p name k.0 k.1; empty = λ dir. g.0 })

pub rmdir_laws : (t p : ℕ) (name : List ℕ) → CallLaws t (λ w. plan_rmdir w t p name) (λ w. touches_rmdir w t p name)
rmdir_laws t p name =
    removal_laws t p name (λ w. rmdir_asks w t p name) (λ w. rmdir_takes w t p name) (λ S v w c a ours. rmdir_same a t ours p name c)
    (λ w. search (first_plain, given_plain, taking_plain, ok_plain) depth 12)
