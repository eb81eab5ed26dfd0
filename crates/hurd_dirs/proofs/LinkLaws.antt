-- The laws of naming files.
use Rattle.std.proofs.Common.{◌≡◌, ℕ, Bool, true, List, refl, sym, subst, inl, inr}
use Rattle.std.specs.Prelude.{Ok}
use Rattle.hurd_trans_iface.proofs.Goods.{good}
use Rattle.hurd_machine.proofs.Common.{BodyOf, LeadsUp, Linked, Named, Seen, Sees, World, both_asks, links_at}
use Rattle.hurd_machine.specs.World.{nodes_of}
use Rattle.hurd_machine.proofs.Views.{Agree}
use Rattle.hurd_machine.proofs.Asks.{IsNamed, first_ok, first_same, first_plain, ok_plain, answered_same, answered_plain, done_plain, links_same, links_plain}
use Rattle.hurd_machine.proofs.Frame.{Full}
use Rattle.hurd_machine.proofs.Lasts.{recounts_linked}
use Rattle.hurd_machine.proofs.Linking.{may_link, link_whole}
use Rattle.hurd_machine.proofs.CallLaws.{CallLaws, answered_piece}
use Rattle.hurd_dirs.specs.declared.link.FileToName.{FileToName}
use Rattle.hurd_dirs.specs.Entry.{name_asks, dir_asks}
use Rattle.hurd_dirs.specs.Link.{OnName, link_asks, plan_link, touches_link}
use Rattle.hurd_machine.proofs.BothLaws.{are_named, both_same, both_plain}
use Rattle.hurd_dirs.proofs.EntryLaws.{IsEntryAt, entry_dir, entry_leads, entry_seen, dir_same, dir_plain, name_plain, named_seen}

-- dir_link: it asks for a directory whose entries the caller sees, and a file that it has a port on

module _ (t p : ℕ) (name : List ℕ) (q : ℕ) where
  -- the ports on the directory, and on the file
  record NamedBy (w : World) (f : FileToName) : Type 0 where
    both : Named × Named
    is_entry : IsEntryAt w t p both.0
    other : IsNamed w t q both.1
    dir : f.dir ≡ both.0.right.node
    file : f.file ≡ both.1.right.node

  named_by : (w : World) (f : FileToName) → link_asks w t p name q ≡ Ok f → NamedBy w f
  named_by w f is =
      let a = first_ok (both_asks w t p q) _ f is in
      let u = first_ok (name_asks name) _ f a.2 in
      let d = first_ok (dir_asks w a.0.0) _ f u.2 in
      let same : record { dir = a.0.0.right.node; file = a.0.1.right.node } ≡ f = cc (d.2) in
      let n = are_named w t p q a.0 a.1 in
      subst (NamedBy w) same (record { both = a.0; is_entry = record { is_named = n.one; dir = entry_dir w a.0.0 d.0 d.1 }; other = n.other; dir = refl; file = refl })

  link_leads : (w : World) → Linked (nodes_of w) → (f : FileToName) → NamedBy w f → LeadsUp (nodes_of w) f.dir
  link_leads w l f n = rw n.dir (entry_leads w l t p n.both.0 n.is_entry)

  module _ {S : ℕ → Bool} {v : World} (ours : S t ≡ true) (f : FileToName) (n : NamedBy v f) where
    dir_seen : Sees S v (BodyOf f.dir)
    dir_seen = subst (λ d. Sees S v (BodyOf d)) (sym n.dir) (entry_seen t ours p n.both.0 n.is_entry)

    file_seen : Seen S v f.file
    file_seen = subst (Seen S v) (sym n.file) (named_seen t ours q n.both.1 n.other)

  link_same : {S : ℕ → Bool} {v w : World} → Agree S v w → S t ≡ true → link_asks w t p name q ≡ link_asks v t p name q
  link_same {S} {v} {w} a ours =
      first_same _ _ _ _ (both_same a t ours p q) (λ b is. search (first_same, dir_same a b.0 (named_seen t ours p b.0 (are_named v t p q b is).one)) depth 12)

  pub link_laws : CallLaws t (λ w. plan_link w t p name q) (λ w. touches_link w t p name q)
  link_laws = record {
    piece = λ w s. answered_piece s (link_asks w t p name q) _ _ (λ f is. answered_piece s (links_at w f.dir name f.file) _ _ (λ u may.
        let n = named_by w f is in
        link_whole f.dir name f.file good s (may_link w f.dir name f.file u may) (link_leads w s.linked f n) (inl (inl refl)) (inl (inr (inl refl))) (inl (inr (inr (inl refl)))) (recounts_linked {T = Full w t (OnName w f)} w f.file (λ q on. inl (inr (inr (inr on))))) (λ S ours. file_seen ours f n)));
    same = λ S v w c d a ours. answered_same _ _ _ _ (link_same a ours) (λ f is.
        let n = named_by v f is in
        answered_same _ _ _ _ (links_same a f.dir f.file name (dir_seen ours f n) (file_seen ours f n)) (λ u may. refl));
    plain = λ w. search (answered_plain, first_plain, both_plain, name_plain, dir_plain, links_plain, ok_plain, done_plain) depth 12;
  }
