-- The laws of the calls on files and directories.
use Rattle.std.proofs.Common.{◌≡◌, ℕ, Bool, true, false, if◌then◌else◌, List, [], ◌∷◌, refl, subst, inl, inr, Option, Some, None, ap, ◌∙◌}
use Rattle.std.specs.Prelude.{Ok}
use Rattle.hurd_machine.proofs.Common.{Allowed, Body, Content, GidOfRight, Header, Holds, IdSets, Io, IoRight, IsAmong, Listing, Name, READ, Read, Seen, Taken, ToRead, UidOfRight, WRITE, World, asked_at, bare, body_at, handle_asks, header_at, may, names_of, resizing}
use Rattle.hurd_trans_iface.proofs.Goods.{good}
use Rattle.hurd_union.specs.Merge.{merge}
use Rattle.hurd_machine.specs.declared.handle.Handle.{Handle}
use Rattle.hurd_machine.specs.declared.call.Reply.TheVariants.{Done}
use Rattle.hurd_machine.proofs.Views.{Agree, header_same, body_same}
use Rattle.hurd_trans_iface.proofs.BodyLaws.{cut_holds}
use Rattle.hurd_machine.proofs.Edits.{did_whole}
use Rattle.hurd_trans_iface.specs.declared.root.Root.{Root}
use Rattle.hurd_machine.proofs.Faces.{root_told}
use Rattle.hurd_machine.proofs.Asks.{first_same, answered_same, first_ok, first_plain, ok_plain, answered_plain, done_plain, handle_same, handle_seen, handle_plain, handle_read, asked_same, asked_plain, resizing_blind, info_alike, io_right_same, io_right_plain, holds_io, IsPlain, given_same, given_plain, err_plain}
use Rattle.hurd_machine.proofs.CallLaws.{CallLaws, answered_piece, looking_laws}
use Rattle.hurd_core.specs.Branches.{branches, branches_at, branches_by}
use Rattle.hurd_core.proofs.AimedLaws.{branches_seen}
use Rattle.hurd_files.specs.Files.{set_size_asks, plan_set_size, touches_set_size, readdir_asks, plan_readdir, touches_readdir}
use Rattle.hurd_files.specs.Listing.{all_names, names_by, names_or}

-- file_set_size: it asks of a node that the caller has open to write, and is told nothing of its body.

-- the port whose node is resized
resized_by : (w : World) (t p : ℕ) (n : Name) → set_size_asks w t p ≡ Ok n → (h : Handle) × (handle_asks w t p WRITE ≡ Ok h) × (h.node ≡ n)
resized_by w t p n is = let h = first_ok _ _ n is in (h.0, h.1, cc (h.2))

pub set_size_laws : (t p size : ℕ) → CallLaws t (λ w. plan_set_size w t p size) (λ w. touches_set_size w t p size)
set_size_laws t p size = record {
  piece = λ w s. answered_piece s (set_size_asks w t p) _ _ (λ n is. answered_piece s (asked_at (resizing size) n w) _ _ (λ d told.
      did_whole s (resizing size) (λ k. ((good k).set_size_sizes size, cut_holds size k)) n d told (λ q on. inl on) (λ S ours. let h = resized_by w t p n is in subst (Seen S w) h.2 (handle_seen t ours p WRITE h.0 h.1))));
  same = λ S v w c d a ours. answered_same _ _ _ _ (first_same _ _ _ _ (handle_same a t ours p WRITE) (λ h is. refl)) (λ n is.
      let h = resized_by v t p n is in
      let seen : Seen S v n = subst (Seen S v) h.2 (handle_seen t ours p WRITE h.0 h.1) in
      answered_same _ _ _ _ (asked_same a n (resizing size) (resizing_blind size) seen) (λ d told. refl));
  plain = λ w. answered_plain _ _ (first_plain _ _ (handle_plain w t p WRITE) (λ h is. ok_plain _)) (λ n is.
      answered_plain _ _ (asked_plain (resizing size) (λ k. (good k).set_size_plain size) n w) (λ d told. done_plain Done refl));
}

-- dir_readdir: it asks for a directory that the caller has open to read, whose entries it sees, and changes nothing.

names_plain : (o : Option Body) → IsPlain (names_of o)
names_plain None = err_plain _ refl
names_plain (Some (Content bs)) = err_plain _ refl
names_plain (Some (Listing es)) = ok_plain _

-- Of a union it asks for the names in its branches too: S sees these, and the entries of those that ids which it has may read.

module _ {S : ℕ → Bool} {v w : World} (a : Agree S v w) (ids : IdSets) (taken : Taken S v ids) where
  -- the names in a branch that S sees
  names_same : (b : Name) → Seen S v b → names_by w ids b (header_at w b) ≡ names_by v ids b (header_at v b)
  names_same b seen = ap (names_by w ids b) (header_same a b seen) ∙ by (header_at v b) refl
    where
      by : (o : Option Header) → header_at v b ≡ o → names_by w ids b o ≡ names_by v ids b o
      by None e = refl
      by (Some h) e = may_by (may ids (bare h) Read) refl
        where
          told : World → Bool → List (List ℕ)
          told x may_read = if may_read then names_or (names_of (body_at x b)) else []

          may_by : (m : Bool) → may ids (bare h) Read ≡ m → told w m ≡ told v m
          may_by false is = refl
          may_by true is = ap (λ (c : Option Body). names_or (names_of c)) (body_same a b (seen, h, e, ToRead (Allowed ids taken is)))

  -- and in several
  all_same : (bs : List Name) (names : List (List ℕ)) → ((b : Name) → IsAmong b bs → Seen S v b) → all_names w ids bs names ≡ all_names v ids bs names
  all_same [] names seen = refl
  all_same (b ∷ bs) names seen =
      ap (λ (more : List (List ℕ)). all_names w ids bs (merge names more)) (names_same b (seen b (inl refl)))
      ∙ all_same bs (merge names (names_by v ids b (header_at v b))) (λ c among. seen c (inr among))

  -- and in the branches of a node that S sees
  shown_same : (d : Name) (names : List (List ℕ)) → Seen S v d → all_names w ids (branches_at w d) names ≡ all_names v ids (branches_at v d) names
  shown_same d names seen =
      info_alike a d (λ o. all_names w ids (branches_by o) names) (λ i. ap (λ (r : Root). all_names w ids (branches r.crossing i.targets) names) (root_told i.kind i.text)) seen
      ∙ all_same (branches_at v d) names (λ b among. branches_seen S v d b seen among)

-- ids of a right that S holds
right_taken : {S : ℕ → Bool} {v : World} (q : IoRight) → Holds S v (Io q) → Taken S v q.ids
right_taken q held = record { uids = λ u has. UidOfRight q held has; gids = λ g has. GidOfRight q held has }

pub readdir_laws : (t p : ℕ) → CallLaws t (λ w. plan_readdir w t p) (λ w. touches_readdir w t p)
readdir_laws t p = looking_laws t (λ w. readdir_asks w t p) _
    (λ S v w c a ours. first_same _ _ _ _ (handle_same a t ours p READ) (λ h is. given_same _ _ _ _ _ refl (λ dir.
    first_same _ _ _ _ (io_right_same a t ours p) (λ q its.
    first_same _ _ _ _ (ap names_of (body_same a h.node (handle_read t ours p h is))) (λ own told.
    ap Ok (shown_same a q.ids (right_taken q (holds_io t ours p q its)) h.node own (handle_seen t ours p READ h is)))))))
    (λ w. first_plain _ _ (handle_plain w t p READ) (λ h is. given_plain _ _ _ refl (λ dir.
    first_plain _ _ (io_right_plain w t p) (λ q its.
    first_plain _ _ (names_plain _) (λ own told. ok_plain _)))))
    (λ names. refl)
