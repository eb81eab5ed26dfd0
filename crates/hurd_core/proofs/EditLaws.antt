-- What servers do to nodes where their entries come, go and move, by the core, is what the machine's changes make of the world.
use Rattle.std.proofs.Common.{arith, ◌≡◌, true, List, [], ◌∷◌, Option, ℕ, refl}
use Rattle.std.proofs.lemmas.Grind.{common_steps}
use Rattle.std.specs.Prelude.{Result, Ok, Err}
use Rattle.hurd_machine.proofs.Common.{AddNode, Edit, EditHeader, Errno, HeaderEdit, Name, NameMap, NodeState, OnBody, OnHeader, PortState, Site, Steps, World, answered, apply_all, body_of, changes_of, edit_header_at, edits_if, entry_of, header_after, home_in, links_at, own_edits, renames_at, told, with_edits, world_from}
use Rattle.hurd_trans_iface.specs.Answers.{header_edits, link_edits}
use Rattle.hurd_nodes.specs.Shown.{can_link, can_rename, can_set_attrs, can_unlink, link_at, rename_at, rename_edits_at, unlink_at, unlink_edits_at}
use Rattle.hurd_machine.specs.declared.call.Reply.TheVariants.{Done}
use Rattle.hurd_machine.specs.Plan.{Follows}
use Rattle.hurd_nodes.proofs.HideLaws.{adds_none, rename-adds_none, unlink-adds_none}
use Rattle.hurd_core.specs.Core.{Does, settled_edits}
use Rattle.hurd_core.proofs.SettleLaws.{Alike, alike-does, alike-follows, does_settled, settled-follows, settled_if}

-- edits of nodes that are there, and of none that is made, are changes of the world
made : (H : PortState) (es : List Edit) → adds_none es ≡ true → (N : NodeState) → world_from (with_edits es N) H ≡ apply_all (changes_of es) (world_from N H)
made H [] only N = refl
made H (OnHeader n f ∷ es) only N = made H es only (with_edits (OnHeader n f ∷ []) N)
made H (OnBody n g ∷ es) only N = made H es only (with_edits (OnBody n g ∷ []) N)
made H (AddNode n x ∷ es) only N = absurd (cc)

-- so are those of a server's own nodes among them
own-adds_none : (s : Option Name) (sites : NameMap Site) (es : List Edit) → adds_none es ≡ true → adds_none (own_edits s sites es) ≡ true
own-adds_none s sites [] only = refl
own-adds_none s sites (OnHeader n f ∷ es) only = let rest = own-adds_none s sites es only in grind (arith, common_steps)
own-adds_none s sites (OnBody n g ∷ es) only = let rest = own-adds_none s sites es only in grind (arith, common_steps)
own-adds_none s sites (AddNode n x ∷ es) only = absurd (cc)

module _ (N : NodeState) (H : PortState) where
  abbrev whole : NodeState → World
  whole M = world_from M H

  abbrev w : World
  w = whole N

  -- edits that are made where they may be
  edits_alike : (can : Result (Unit {0}) Errno) (es : List Edit) → adds_none es ≡ true → Alike whole N (λ (u : Unit {0}). changes_of es) (λ u. tt {0}) can (can, with_edits (edits_if can es) N)
  edits_alike (Ok u) es only = (refl, made H es only N)
  edits_alike (Err e) es only = (refl, refl)

  -- the header of a node edited
  pub header-follow : (n : Name) (h : HeaderEdit) (r : Result (Unit {0}) Errno) (M : NodeState) → ◌≡◌ {A = Result (Unit {0}) Errno × NodeState} (r, M) (edit_header_at n h N)
      → Follows w (answered (can_set_attrs n N) (λ u. record { reply = Done; changes = EditHeader n (header_after h) ∷ [] })) (told (λ u. Done) r) (whole M)
  header-follow n h r M is = alike-follows whole N (λ (u : Unit {0}). changes_of (header_edits n h)) (λ u. tt {0}) (λ u. Done) _ _ (edits_alike (can_set_attrs n N) (header_edits n h) refl) r M is

  module _ (d : Name) (name : List ℕ) where
    -- another name
    pub link-does : (m : Name) (r : Result (Unit {0}) Errno) (M : NodeState) → Steps N (link_at d name m N) r M
        → Does w (links_at w d name m) (λ u. changes_of (link_edits d name m)) (λ u. tt) r (whole M)
    link-does m r M s = alike-does whole N (λ u. changes_of (link_edits d name m)) (λ u. tt) _ _ (edits_alike (can_link d name m N) (link_edits d name m) refl) r M s

    -- an entry taken out
    pub unlink-follows : (r : Result (Unit {0}) Errno) (M : NodeState) (z : World) → (r, M) ≡ unlink_at d name N → z ≡ settled_if r (whole M)
        → Follows w (answered (can_unlink d name N) (λ u. record { reply = Done; changes = settled_edits (unlink_edits_at d name N) })) (told (λ u. Done) r) z
    unlink-follows r M z is left =
        let es = unlink_edits_at d name N in
        let only = own-adds_none (home_in N.sites d) N.sites _ (unlink-adds_none d name (entry_of name (body_of N.nodes d))) in
        settled-follows whole N (λ (u : Unit {0}). changes_of es) (λ u. tt {0}) (λ u. Done) _ _ (edits_alike (can_unlink d name N) es only) r M is z left

    -- an entry that goes to another directory
    pub rename-does : (e : Name) (new : List ℕ) (r : Result (Unit {0}) Errno) (M : NodeState) (z : World) → Steps N (rename_at d name e new N) r M → z ≡ settled_if r (whole M)
        → Does w (renames_at w d name e) (λ u. settled_edits (rename_edits_at d name e new N)) (λ u. tt {0}) r z
    rename-does e new r M z s left =
        let es = rename_edits_at d name e new N in
        let only = own-adds_none (home_in N.sites d) N.sites _ (rename-adds_none d name e new (entry_of name (body_of N.nodes d)) (entry_of new (body_of N.nodes e))) in
        does_settled w _ (λ u. changes_of es) (λ u. tt) r (whole M) (alike-does whole N (λ u. changes_of es) (λ u. tt) _ _ (edits_alike (can_rename d name e N) es only) r M s) z left
