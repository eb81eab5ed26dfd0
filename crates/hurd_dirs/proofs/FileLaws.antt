-- The laws of making files that no entry names.
use Rattle.std.proofs.Common.{◌≡◌, ℕ, Bool, true, Some, None, refl, sym, subst}
use Rattle.std.specs.Prelude.{Ok}
use Rattle.hurd_machine.proofs.Common.{BodyOf, EACCES, EDIED, EOVERFLOW, ESRCH, File, IsFilled, Mode, Name, Named, Node, OfNode, OpenFlags, Sees, ServerInfo, Task, World, has_room, home_at, keeps_tree, least_uid, makes_at, named_by, new_file, open_modes, port_asks, server_at, task_at}
use Rattle.hurd_trans_iface.proofs.BodyLaws.{tree_has, tree_holds}
use Rattle.hurd_trans_iface.proofs.Goods.{good}
use Rattle.hurd_machine.proofs.Views.{Agree, same_tasks, home_same}
use Rattle.hurd_machine.proofs.Asks.{IsPlain, is_named, port_same, port_seen, port_plain, makes_same, makes_plain, on_ok, given_ok, first_ok, on_same, first_same, on_plain, given_plain, first_plain, ok_plain, answered_same, answered_plain, done_plain}
use Rattle.hurd_machine.proofs.Makes.{MayMake, may_make}
use Rattle.hurd_machine.proofs.Nameless.{IsNameless, nameless_whole}
use Rattle.hurd_machine.proofs.CallLaws.{CallLaws, answered_piece}
use Rattle.hurd_core.specs.Core.{NewNodeAt, room_asks, making_asks}
use Rattle.hurd_core.proofs.PortWays.{ways_named, ways_seen}
use Rattle.hurd_dirs.specs.Entry.{dir_asks}
use Rattle.hurd_dirs.specs.File.{file_by, mkfile_asks, plan_mkfile, touches_mkfile}
use Rattle.hurd_dirs.proofs.EntryLaws.{IsEntryAt, entry_dir, entry_seen, dir_same, dir_plain, right_taken}

-- who makes it, and the server
record MakesFile (w : World) (t : ℕ) (f : NewNodeAt) (m : Task × Name) : Type 0 where
  is_task : task_at w t ≡ Some m.0
  may : MayMake w f.dir f.entry File
  home : home_at w f.dir ≡ Some m.1

makes_file : (w : World) (t : ℕ) (f : NewNodeAt) (m : Task × Name) → making_asks w t f ≡ Ok m → MakesFile w t f m
makes_file w t f m is =
    let x = first_ok (room_asks w t 2) _ m is in
    let u = first_ok (makes_at w f.dir f.entry File) _ m x.2 in
    let s = on_ok EDIED (home_at w f.dir) _ m u.2 in
    let k = on_ok ESRCH (task_at w t) _ x.0 x.1 in
    let room = given_ok EOVERFLOW (has_room 2 k.0) _ x.0 k.2 in
    let both : (k.0, s.0) ≡ m = cc (room.1, s.2) in
    subst (MakesFile w t f) both (record { is_task = k.1; may = may_make w f.dir f.entry File u.0 u.1; home = s.1 })

module _ (f : NewNodeAt) where
  abbrev file : Node
  file = named_by None (new_file f.owner f.group f.mode)

  file_nameless : IsNameless file
  file_nameless = record { shape = refl; empty = tt; file = refl; alone = refl; links = refl }

  file_fits : (i : ServerInfo) → keeps_tree i.kind ≡ true → IsFilled i file
  file_fits i tree = ((good i.kind).newborn tree i.text f.dir None (record { name = f.dir; kind = File; owner = f.owner; group = f.group; mode = f.mode }) file refl, tree_holds i.kind file.body tree, tree_has i.kind file.header tree)

making_same : {S : ℕ → Bool} {v w : World} → Agree S v w → (t : ℕ) → S t ≡ true → (f : NewNodeAt) → Sees S v (BodyOf f.dir) → making_asks w t f ≡ making_asks v t f
making_same a t ours f sees = search (first_same, on_same, same_tasks a t ours, makes_same a f.dir f.entry File sees, home_same a f.dir sees.0) depth 12

making_plain : (w : World) (t : ℕ) (f : NewNodeAt) → IsPlain (making_asks w t f)
making_plain w t f = search (first_plain, on_plain, given_plain, makes_plain, ok_plain) depth 12

-- dir_mkfile: it asks for a directory whose entries the caller sees

module _ (t p : ℕ) (flags : OpenFlags) (mode : Mode) where
  -- the port by which one is made
  record FileBy (w : World) (a : Named × NewNodeAt) : Type 0 where
    is_entry : IsEntryAt w t p a.0
    dir : a.1.dir ≡ a.0.right.node
    unnamed : a.1.entry ≡ None

  file_made_by : (w : World) (a : Named × NewNodeAt) → mkfile_asks w t p mode ≡ Ok a → FileBy w a
  file_made_by w a is =
      let n = first_ok (port_asks w t p) _ a is in
      let d = first_ok (dir_asks w n.0) _ a n.2 in
      let o = on_ok EACCES (least_uid n.0.right.ids) _ a d.2 in
      let same : (n.0, file_by n.0 o.0 mode) ≡ a = cc (o.2) in
      subst (FileBy w) same (record { is_entry = record { is_named = is_named w t p n.0 n.1; dir = entry_dir w n.0 d.0 d.1 }; dir = refl; unnamed = refl })

  mkfile_seen : {S : ℕ → Bool} {v : World} → S t ≡ true → (a : Named × NewNodeAt) → FileBy v a → Sees S v (BodyOf a.1.dir)
  mkfile_seen {S} {v} ours a b = subst (λ n. Sees S v (BodyOf n)) (sym b.dir) (entry_seen t ours p a.0 b.is_entry)

  mkfile_same : {S : ℕ → Bool} {v w : World} → Agree S v w → S t ≡ true → mkfile_asks w t p mode ≡ mkfile_asks v t p mode
  mkfile_same {S} {v} a ours = search (first_same, port_same a t ours, dir_same a, port_seen {S = S} {v = v} t ours p) depth 12

  abbrev modes : OpenFlags
  modes = open_modes flags

  pub mkfile_laws : CallLaws t (λ w. plan_mkfile w t p flags mode) (λ w. touches_mkfile w t p flags mode)
  mkfile_laws = record {
    piece = λ w s. answered_piece s (mkfile_asks w t p mode) _ _ (λ a is. answered_piece s (making_asks w t a.1) _ _ (λ m may.
        let k = makes_file w t a.1 m may in
        let b = file_made_by w a is in
        let right = b.is_entry.is_named.is_right in
        let server : server_at w m.1 ≡ Some k.may.info = rw k.home at k.may.is_info in
        rw b.unnamed
        (nameless_whole w t m.0 k.is_task m.1 k.may.info server (file a.1) (file_nameless a.1) a.0.right.ids a.0.right.parents modes s k.may.tree (file_fits a.1 k.may.info k.may.tree)
        (ways_named w t p a.0.right right s.coherent) refl (λ S ours. (right_taken t ours p a.0.right right, ways_seen w t p a.0.right right S ours, OfNode a.1.dir (mkfile_seen ours a b).0 k.home)))));
    same = λ S v w c d a ours. answered_same _ _ _ _ (mkfile_same a ours) (λ b is.
        answered_same _ _ _ _ (making_same a t ours b.1 (mkfile_seen ours b (file_made_by v b is))) (λ m may. refl));
    plain = λ w. search (answered_plain, first_plain, on_plain, port_plain, dir_plain, making_plain, ok_plain, done_plain) depth 12;
  }
