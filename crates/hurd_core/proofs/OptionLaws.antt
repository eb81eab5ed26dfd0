-- What options make of a server is what the machine's changes make of the world.
use Rattle.std.proofs.Common.{◌≡◌, ℕ, Bool, true, false, List, [], ◌∷◌, Option, Some, None, refl}
use Rattle.std.specs.Prelude.{Result, Ok, Err}
use Rattle.hurd_machine.proofs.Common.{Change, Errno, Name, NodeState, OnHeader, Planned, PortState, ServerInfo, Steps, World, apply_all, changes_of, edit, get, keeps_tree, own_nodes, retexting, size_of, sizing, sizing_unless, takes_options, told, with_edits, with_size, with_text, world_from}
use Rattle.hurd_nodes.specs.Shown.{retexted, retexted_if, set_options_at}
use Rattle.hurd_machine.specs.declared.call.Reply.TheVariants.{Done}
use Rattle.hurd_machine.specs.Plan.{Follows}
use Rattle.hurd_core.specs.Control.{plan_options}
use Rattle.hurd_core.proofs.PlanLaws.{does-planned}
use Rattle.hurd_core.proofs.SettleLaws.{Alike, alike-does, alike-follows}

-- nodes that get a size are nodes of the world that do
sized : (H : PortState) (k : ℕ) (ns : List Name) (N : NodeState) → world_from (with_edits (sizing k ns) N) H ≡ apply_all (changes_of (sizing k ns)) (world_from N H)
sized H k [] N = refl
sized H k (n ∷ ns) N = sized H k ns (with_edits (OnHeader n (with_size k) ∷ []) N)

-- or don't, where their server keeps a tree
sized_unless : (H : PortState) (kept : Bool) (k : ℕ) (ns : List Name) (N : NodeState) → world_from (with_edits (sizing_unless kept k ns) N) H ≡ apply_all (changes_of (sizing_unless kept k ns)) (world_from N H)
sized_unless H true k ns N = refl
sized_unless H false k ns N = sized H k ns N

module _ (N : NodeState) (H : PortState) (s : Name) (words : List (List ℕ)) where
  abbrev w : World
  w = world_from N H

  abbrev asks : Result (ServerInfo × Option (List ℕ)) Errno
  asks = takes_options words (get N.servers s)

  abbrev texts : ServerInfo × Option (List ℕ) → List Change
  texts a = retexting w s a.0 a.1

  retexted_world : (i : ServerInfo) (o : Option (List ℕ)) → world_from (retexted s i o N) H ≡ apply_all (retexting w s i o) w
  retexted_world i None = refl
  retexted_world i (Some text) = sized_unless H (keeps_tree i.kind) (size_of i.kind text) (own_nodes s N.sites) (record N { servers = edit s (with_text text) N.servers })

  retexted_alike : (a : Result (ServerInfo × Option (List ℕ)) Errno) → Alike (λ M. world_from M H) N texts (λ a. tt {0}) a (retexted_if s a N)
  retexted_alike (Ok t) = (refl, retexted_world t.0 t.1)
  retexted_alike (Err e) = (refl, refl)

  pub options-planned : (r : Result (Unit {0}) Errno) (M : NodeState) → Steps N (set_options_at s words N) r M → Planned w (plan_options w s words) (λ u. Done) r (world_from M H)
  options-planned r M h =
      does-planned w asks texts (λ a. tt {0}) _ (λ u. Done) r (world_from M H) (λ a. (refl, refl)) (λ a. refl) (alike-does (λ M. world_from M H) N texts (λ a. tt) _ _ (retexted_alike asks) r M h)

  pub options-follow : (r : Result (Unit {0}) Errno) (M : NodeState) → ◌≡◌ {A = Result (Unit {0}) Errno × NodeState} (r, M) (set_options_at s words N)
      → Follows w (plan_options w s words) (told (λ u. Done) r) (world_from M H)
  options-follow r M h = alike-follows (λ M. world_from M H) N texts (λ a. tt) (λ u. Done) _ _ (retexted_alike asks) r M h

  -- the sites stay
  pub options-sites : (set_options_at s words N).1.sites ≡ N.sites
  options-sites = by (takes_options words (get N.servers s))
    where
      by : (a : Result (ServerInfo × Option (List ℕ)) Errno) → (retexted_if s a N).1.sites ≡ N.sites
      by (Ok (i, None)) = refl
      by (Ok (i, Some text)) = refl
      by (Err e) = refl
