-- What is asked of names and directories: the same in worlds that agree, and what an answer shows.
use Rattle.std.proofs.Common.{◌≡◌, ℕ, Bool, true, not, List, Some, refl}
use Rattle.std.specs.Prelude.{Ok}
use Rattle.std.proofs.lemmas.Bool.{and_parts}
use Rattle.hurd_machine.proofs.Common.{Allowed, BodyOf, ByParent, Child, Coherent, Could, Dir, EACCES, ENOENT, ENOTDIR, EROFS, EmptyOf, Exec, GidOfRight, Header, Holds, Io, IoRight, Kind, LeadsUp, Linked, Name, Named, Seen, Sees, Taken, ToSearch, UidOfRight, Want, World, Write, bare, body_at, entry_of, header_at, info_at, is_dir, is_removed, may, port_asks, ports_of, tree_by}
use Rattle.hurd_ports.specs.Tables.{right_of}
use Rattle.hurd_machine.specs.World.{nodes_of}
use Rattle.hurd_machine.specs.Sight.{Held}
use Rattle.hurd_machine.proofs.Coherence.{entry_lists}
use Rattle.hurd_machine.proofs.Links.{leads_unless}
use Rattle.hurd_machine.proofs.Views.{Agree}
use Rattle.hurd_machine.proofs.Asks.{IsPlain, IsNamed, is_named, port_same, port_seen, port_plain, info_alike, is_root_same, holds_right, first_ok, given_ok, first_same, given_same, first_plain, given_plain, ok_plain}
use Rattle.hurd_dirs.specs.Entry.{name_asks, tree_asks, may_change, dir_asks, entry_asks}

-- names

pub name_plain : (name : List ℕ) → IsPlain (name_asks name)
name_plain name = search (given_plain, ok_plain)

-- directories of a tree

pub dir_kind : (k : Kind) → is_dir k ≡ true → k ≡ Dir
dir_kind Dir h = refl
dir_kind _ h = absurd (cc)

-- a directory of a tree, which its port's ids may search and write
pub record IsOpenTree (w : World) (a : Named) : Type 0 where
  pub dir : a.header.kind ≡ Dir
  pub tree : tree_by (info_at w a.right.node) ≡ true
  pub search : may a.right.ids (bare a.header) Exec ≡ true
  pub write : may a.right.ids (bare a.header) Write ≡ true

pub open_tree : (w : World) (a : Named) → is_dir a.header.kind ≡ true → tree_by (info_at w a.right.node) ≡ true → may_change a ≡ true → IsOpenTree w a
open_tree w a dir tree can = let both = and_parts _ _ can in record { dir = dir_kind a.header.kind dir; tree = tree; search = both.0; write = both.1 }

-- a directory in which entries may be made, changed and taken away: it isn't removed
pub record IsEntryDir (w : World) (a : Named) : Type 0 where
  pub opened : IsOpenTree w a
  pub here : not (is_removed w a.right.node a.header) ≡ true

pub entry_dir : (w : World) (a : Named) (u : Unit {0}) → dir_asks w a ≡ Ok u → IsEntryDir w a
entry_dir w a u is =
    let t = first_ok (tree_asks w a) _ u is in
    let d = given_ok ENOTDIR (is_dir a.header.kind) _ t.0 t.1 in
    let k = given_ok EROFS (tree_by (info_at w a.right.node)) _ t.0 d.1 in
    let m = given_ok EACCES (may_change a) _ u t.2 in
    let r = given_ok ENOENT (not (is_removed w a.right.node a.header)) _ u m.1 in
    record { opened = open_tree w a d.0 k.0 m.0; here = r.0 }

pub dir_same : {S : ℕ → Bool} {v w : World} → Agree S v w → (a : Named) → Seen S v a.right.node → dir_asks w a ≡ dir_asks v a
dir_same {S} {v} {w} agree a seen =
    first_same _ _ _ _ (given_same _ _ _ _ _ refl (λ dir. given_same _ _ _ _ _ (info_alike agree a.right.node tree_by (λ i. refl) seen) (λ tree. refl))) (λ u is.
    given_same _ _ _ _ _ refl (λ m.
    given_same _ (not (is_removed v a.right.node a.header)) (not (is_removed w a.right.node a.header)) _ _ (rw (is_root_same agree a.right.node seen) refl) (λ here. refl)))

pub dir_plain : (w : World) (a : Named) → IsPlain (dir_asks w a)
dir_plain w a = search (first_plain, given_plain, ok_plain) depth 12

-- a port on such a directory

pub record IsEntryAt (w : World) (t p : ℕ) (a : Named) : Type 0 where
  pub is_named : IsNamed w t p a
  pub dir : IsEntryDir w a

pub entry_at : (w : World) (t p : ℕ) (name : List ℕ) (a : Named) → entry_asks w t p name ≡ Ok a → IsEntryAt w t p a
entry_at w t p name a is =
    let n = first_ok (port_asks w t p) _ a is in
    let u = first_ok (name_asks name) _ a n.2 in
    let d = first_ok (dir_asks w n.0) _ a u.2 in
    let same : n.0 ≡ a = cc (d.2) in
    rw (← same) (record { is_named = is_named w t p n.0 n.1; dir = entry_dir w n.0 d.0 d.1 })

-- from a directory that isn't removed the parents lead to its server's root
pub entry_leads : (w : World) → Linked (nodes_of w) → (t p : ℕ) (a : Named) → IsEntryAt w t p a → LeadsUp (nodes_of w) a.right.node
entry_leads w l t p a e = leads_unless w l a.right.node a.header e.is_named.is_header e.dir.here

module _ {S : ℕ → Bool} {v : World} (t : ℕ) (ours : S t ≡ true) (p : ℕ) where
  -- S holds the ids of its rights
  pub right_taken : (r : IoRight) → right_of (ports_of v) t p ≡ Ok (Io r) → Taken S v r.ids
  right_taken r is =
      let held : Holds S v (Io r) = holds_right t ours p (Io r) is in
      record { uids = λ u h. UidOfRight r held h; gids = λ g h. GidOfRight r held h }

  module _ (a : Named) (n : IsNamed v t p a) where
    pub named_seen : Seen S v a.right.node
    named_seen = Held a.right (holds_right t ours p (Io a.right) n.is_right) refl

    could : (want : Want) → may a.right.ids (bare a.header) want ≡ true → Could S v a.header want
    could want allowed = Allowed a.right.ids (right_taken a.right n.is_right) allowed

    -- and sees what is in a directory that they may search, what its entries name, and whether a directory there is empty
    module _ (o : IsOpenTree v a) where
      pub entries_seen : Sees S v (BodyOf a.right.node)
      entries_seen = (named_seen, a.header, n.is_header, ToSearch o.dir (could Exec o.search))

      pub child_seen : (name : List ℕ) (m : Name) → entry_of name (body_at v a.right.node) ≡ Some m → Seen S v m
      child_seen name m is = Child a.right.node a.header name named_seen n.is_header o.dir (could Exec o.search) is

      pub child_empty : Coherent v → (name : List ℕ) (m : Name) (k : Header) → entry_of name (body_at v a.right.node) ≡ Some m → header_at v m ≡ Some k → k.kind ≡ Dir → Sees S v (EmptyOf m)
      child_empty c name m k is at dir =
          let up : k.parent ≡ Some a.right.node = c.tree.below a.right.node m k (entry_lists name (body_at v a.right.node) m is) at dir in
          (child_seen name m is, k, at, dir, ByParent a.right.node a.header up n.is_header (could Write o.write))

pub entry_seen : {S : ℕ → Bool} {v : World} (t : ℕ) → S t ≡ true → (p : ℕ) (a : Named) → IsEntryAt v t p a → Sees S v (BodyOf a.right.node)
entry_seen t ours p a e = entries_seen t ours p a e.is_named e.dir.opened

pub entry_same : {S : ℕ → Bool} {v w : World} → Agree S v w → (t : ℕ) → S t ≡ true → (p : ℕ) (name : List ℕ) → entry_asks w t p name ≡ entry_asks v t p name
entry_same {S} {v} a t ours p name = search (first_same, port_same a t ours, dir_same a, port_seen {S = S} {v = v} t ours p) depth 12

pub entry_plain : (w : World) (t p : ℕ) (name : List ℕ) → IsPlain (entry_asks w t p name)
entry_plain w t p name = search (first_plain, port_plain, name_plain, dir_plain, ok_plain) depth 12
