-- What calls on entries leave where things have other names.
use Rattle.std.proofs.Common.{◌≡◌, ℕ, Bool, true, false, if◌then◌else◌, List, [], ◌∷◌, Option, Some, None, map, refl, sym, ap, subst}
use Rattle.std.specs.Option.{option_map}
use Rattle.std.specs.Str.{bytes_eq}
use Rattle.hurd_machine.proofs.Common.{Body, Change, Content, Header, Listing, Name, World, is_dir}
use Rattle.hurd_trans_iface.specs.Nodes.{Entry, less_entry, linked, moved_to, unlinked, with_entry, without_entry}
use Rattle.hurd_creds.specs.Names.{is_one}
use Rattle.hurd_machine.specs.Renamed.{OtherNames, body_renamed, entry_renamed, header_renamed, renamed}
use Rattle.hurd_machine.proofs.RenamedAsks.{links_at-renamed}
use Rattle.hurd_machine.proofs.RenamedNodes.{is_one-renamed}
use Rattle.hurd_dirs.specs.Link.{plan_link}
use Rattle.hurd_dirs.specs.Remove.{Entered, plan_rmdir, plan_unlink, removing}
use Rattle.hurd_dirs.specs.Rename.{moves, plan_rename, renames}
use Rattle.hurd_laws.proofs.RemoveTold.{entered_renamed, link_asks-renamed, rmdir_asks-renamed, to_name_renamed, unlink_asks-renamed}
use Rattle.hurd_laws.proofs.RenameTold.{Move, move_renamed, rename_asks-renamed}
use Rattle.hurd_laws.proofs.Changes.{Alike, cons, edits_body, edits_header, just, none, settles}
use Rattle.hurd_laws.proofs.MakingLeft.{unlinked-renamed, with_entry-renamed}
use Rattle.hurd_laws.proofs.Plans.{Changing, answered-left, given-left}

module _ (f : OtherNames) where
  -- entries without one

  less-renamed : (name : List ℕ) (es : List Entry) → less_entry name (map (entry_renamed f.to) es) ≡ map (entry_renamed f.to) (less_entry name es)
  less-renamed name [] = refl
  less-renamed name (e ∷ es) = go (bytes_eq e.name name) (less-renamed name es)
    where
      go : (b : Bool) → less_entry name (map (entry_renamed f.to) es) ≡ map (entry_renamed f.to) (less_entry name es)
          → (if b then map (entry_renamed f.to) es else entry_renamed f.to e ∷ less_entry name (map (entry_renamed f.to) es)) ≡ map (entry_renamed f.to) (if b then es else e ∷ less_entry name es)
      go true rest = refl
      go false rest = ap (λ (ds : List Entry). entry_renamed f.to e ∷ ds) rest

  without_entry-renamed : (name : List ℕ) (b : Body) → without_entry name (body_renamed f.to b) ≡ body_renamed f.to (without_entry name b)
  without_entry-renamed name (Content bs) = refl
  without_entry-renamed name (Listing es) = ap (λ (ds : List Entry). Listing ds) (less-renamed name es)

  -- a directory that goes elsewhere

  above_left : (b : Bool) (d : Name) (o : Option Name) → (if b then Some (f.to d) else option_map f.to o) ≡ option_map f.to (if b then Some d else o)
  above_left true d o = refl
  above_left false d o = refl

  moved_to-renamed : (d : Name) (h : Header) → moved_to (f.to d) (header_renamed f.to h) ≡ header_renamed f.to (moved_to d h)
  moved_to-renamed d h = ap (λ (o : Option Name). record h { parent = o }) (above_left (is_dir h.kind) d h.parent)

  -- rmdir, unlink

  removing-left : (name : List ℕ) (x : Entered) → Changing f (removing name x) (removing name (entered_renamed f x))
  removing-left name x = cons f (edits_body f x.dir (without_entry name) (without_entry name) (without_entry-renamed name))
      (cons f (edits_header f x.node unlinked unlinked (unlinked-renamed f)) (just f (settles f)))

  -- rename

  goes-left : (name new : List ℕ) (r : Move) → Alike f (moves name new r None) (moves name new (move_renamed f r) None)
  goes-left name new r = cons f (edits_body f r.from (without_entry name) (without_entry name) (without_entry-renamed name))
      (cons f (edits_header f r.node (moved_to r.to) (moved_to (f.to r.to)) (moved_to-renamed r.to))
      (cons f (edits_body f r.to (with_entry new r.node) (with_entry new (f.to r.node)) (with_entry-renamed f new r.node)) (just f (settles f))))

  moves-left : (name new : List ℕ) (r : Move) (o : Option Name) → Alike f (moves name new r o) (moves name new (move_renamed f r) (option_map f.to o))
  moves-left name new r None = goes-left name new r
  moves-left name new r (Some m) = cons f (edits_body f r.to (without_entry new) (without_entry new) (without_entry-renamed new))
      (cons f (edits_header f m unlinked unlinked (unlinked-renamed f)) (goes-left name new r))

  renames-left : (name new : List ℕ) (r : Move) (o : Option Name) → Alike f (renames name new r o) (renames name new (move_renamed f r) (option_map f.to o))
  renames-left name new r o = subst (λ (b : Bool). Alike f (renames name new r o) (if b then [] else there)) (sym (is_one-renamed f r.node o)) (go (is_one r.node o))
    where
      there : List Change
      there = moves name new (move_renamed f r) (option_map f.to o)

      go : (b : Bool) → Alike f (if b then [] else moves name new r o) (if b then [] else there)
      go true = none f
      go false = moves-left name new r o

  module _ (w : World) (t p : ℕ) (name : List ℕ) where
    pub unlink-left : Changing f (plan_unlink w t p name) (plan_unlink (renamed f w) t p name)
    unlink-left = answered-left f (entered_renamed f) _ _ _ (unlink_asks-renamed f w t p name) (removing-left name)

    pub rmdir-left : Changing f (plan_rmdir w t p name) (plan_rmdir (renamed f w) t p name)
    rmdir-left = answered-left f (entered_renamed f) _ _ _ (rmdir_asks-renamed f w t p name) (removing-left name)

    pub link-left : (q : ℕ) → Changing f (plan_link w t p name q) (plan_link (renamed f w) t p name q)
    link-left q = answered-left f (to_name_renamed f) _ _ _ (link_asks-renamed f w t p name q) (λ n.
        given-left f _ _ _ (links_at-renamed f w n.dir name n.file) (λ u.
        cons f (edits_body f n.dir (with_entry name n.file) (with_entry name (f.to n.file)) (with_entry-renamed f name n.file)) (just f (edits_header f n.file linked linked (λ h. refl)))))

    pub rename-left : (q : ℕ) (new : List ℕ) → Changing f (plan_rename w t p name q new) (plan_rename (renamed f w) t p name q new)
    rename-left q new = answered-left f (move_renamed f) _ _ _ (rename_asks-renamed f w t p name q new) (λ r. renames-left name new r r.old)
