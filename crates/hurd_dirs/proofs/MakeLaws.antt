-- The laws of making directories.
use Rattle.std.proofs.Common.{◌≡◌, ℕ, Bool, true, List, refl, sym, subst, inl, inr, ap}
use Rattle.std.specs.Prelude.{Some, Ok, is_none}
use Rattle.hurd_machine.proofs.Common.{BodyOf, EACCES, EEXIST, LeadsUp, Linked, Mode, Named, Sees, World, body_at, entry_of, least_uid}
use Rattle.hurd_machine.specs.World.{nodes_of}
use Rattle.hurd_machine.proofs.Views.{Agree, body_same}
use Rattle.hurd_machine.proofs.Asks.{on_ok, given_ok, first_ok, on_same, given_same, first_same, on_plain, given_plain, first_plain, ok_plain, answered_same, answered_plain, done_plain}
use Rattle.hurd_machine.proofs.CallLaws.{CallLaws, answered_piece}
use Rattle.hurd_core.specs.Core.{NewNodeAt, making_dir_asks}
use Rattle.hurd_core.proofs.DirPieces.{asks_dir, dir_whole, making_dir_same, making_dir_plain}
use Rattle.hurd_dirs.specs.Entry.{entry_asks}
use Rattle.hurd_dirs.specs.Make.{node_by, mkdir_asks, plan_mkdir, touches_mkdir}
use Rattle.hurd_dirs.proofs.EntryLaws.{IsEntryAt, entry_at, entry_leads, entry_seen, entry_same, entry_plain}

module _ (t p : ℕ) (name : List ℕ) (mode : Mode) where
  -- dir_mkdir: it asks for a directory whose entries the caller sees

  -- the port in whose directory one is made
  record MadeBy (w : World) (f : NewNodeAt) : Type 0 where
    above : Named
    is_entry : IsEntryAt w t p above
    dir : f.dir ≡ above.right.node
    named : f.entry ≡ Some name

  made_by : (w : World) (f : NewNodeAt) → mkdir_asks w t p name mode ≡ Ok f → MadeBy w f
  made_by w f is =
      let a = first_ok (entry_asks w t p name) _ f is in
      let o = on_ok EACCES (least_uid a.0.right.ids) _ f a.2 in
      let g = given_ok EEXIST (is_none (entry_of name (body_at w a.0.right.node))) _ f o.2 in
      let same : node_by a.0 name o.0 mode ≡ f = cc (g.1) in
      record { above = a.0; is_entry = entry_at w t p name a.0 a.1; dir = ap (λ (n : NewNodeAt). n.dir) (sym same); named = ap (λ (n : NewNodeAt). n.entry) (sym same) }

  made_leads : (w : World) → Linked (nodes_of w) → (f : NewNodeAt) → mkdir_asks w t p name mode ≡ Ok f → LeadsUp (nodes_of w) f.dir
  made_leads w l f is = let m = made_by w f is in subst (LeadsUp (nodes_of w)) (sym m.dir) (entry_leads w l t p m.above m.is_entry)

  made_seen : {S : ℕ → Bool} {v : World} → S t ≡ true → (f : NewNodeAt) → mkdir_asks v t p name mode ≡ Ok f → Sees S v (BodyOf f.dir)
  made_seen {S} {v} ours f is = let m = made_by v f is in subst (λ n. Sees S v (BodyOf n)) (sym m.dir) (entry_seen t ours p m.above m.is_entry)

  mkdir_same : {S : ℕ → Bool} {v w : World} → Agree S v w → S t ≡ true → mkdir_asks w t p name mode ≡ mkdir_asks v t p name mode
  mkdir_same {S} {v} {w} a ours =
      first_same _ _ _ _ (entry_same a t ours p name) (λ n is.
      let sees : Sees S v (BodyOf n.right.node) = entry_seen t ours p n (entry_at v t p name n is) in
      on_same _ _ _ _ _ refl (λ owner least.
      given_same _ _ _ _ _ (ap (λ b. is_none (entry_of name b)) (body_same a n.right.node sees)) (λ free. refl)))

  pub mkdir_laws : CallLaws t (λ w. plan_mkdir w t p name mode) (λ w. touches_mkdir w t p name mode)
  mkdir_laws = record {
    piece = λ w s. answered_piece s (mkdir_asks w t p name mode) _ _ (λ f is. answered_piece s (making_dir_asks w t f) _ _ (λ m may.
        dir_whole t f s name (made_by w f is).named m (asks_dir t f w m may) (made_leads w s.linked f is) (inl refl) (inr refl) (λ S ours. (made_seen ours f is).0)));
    same = λ S v w c d a ours. answered_same _ _ _ _ (mkdir_same a ours) (λ f is.
        answered_same _ _ _ _ (making_dir_same t f a ours (made_seen ours f is)) (λ m may. refl));
    plain = λ w. search (answered_plain, first_plain, on_plain, given_plain, entry_plain, making_dir_plain, ok_plain, done_plain) depth 12;
  }
