-- What is said of the nodes and the ports that a core lends.
use Rattle.std.proofs.Common.{◌≡◌, List, subst}
use Rattle.hurd_machine.proofs.Common.{IdSets, Meaning, Name, Tables, TaskId, World, shown, world_from}
use Rattle.hurd_nodes.specs.Held.{Held}
use Rattle.hurd_core.specs.Core.{Whole, world_of}
use Rattle.hurd_sight.specs.Found.{FoundAll, IsSight}
use Rattle.hurd_sight.specs.Reach.{Reaches, among}
use Rattle.hurd_sight.specs.declared.found.Why.{Why}
use Rattle.hurd_sight.proofs.SightLaws.{found_is_seen}

-- it is said of its world
pub of_lent : {S : Type 0} (f : S → Meaning) (c : Whole S) (n : Held S) (p : Tables) → n ≡ c.nodes → p ≡ c.ports → (P : World → Type 0) → P (world_from (shown f n) p.state) → P (world_of f c)
of_lent f c n p nodes ports P h = subst (λ q. P (world_from (shown f c.nodes) q.state)) ports (subst (λ m. P (world_from (shown f m) p.state)) nodes h)

-- also where the core itself is lent
pub of_lent_core : {S : Type 0} (f : S → Meaning) (w c : Whole S) (n : Held S) (p : Tables) → n ≡ c.nodes → p ≡ c.ports → c ≡ w → (P : World → Type 0) → P (world_from (shown f n) p.state) → P (world_of f w)
of_lent_core f w c n p nodes ports core P h = subst (λ x. P (world_of f x)) core (of_lent f c n p nodes ports P h)

-- what is found of the nodes and ports that a core lends is what is seen of that world
pub seen_lent : {S : Type 0} (f : S → Meaning) (w c : Whole S) (n : Held S) (p : Tables) (tasks : List TaskId) (ids : IdSets) (es : List (Name × Why)) → n ≡ c.nodes → p ≡ c.ports → c ≡ w
    → Reaches (among tasks) (world_of f w) ids → FoundAll (shown f n) p.state.tasks ids tasks es → IsSight (among tasks) (world_of f w) es
seen_lent {S} f w c n p tasks ids es nodes ports core reach all =
    found_is_seen (world_of f w) tasks ids es reach
    (subst (λ (x : Whole S). FoundAll (shown f x.nodes) x.ports.state.tasks ids tasks es) core
    (subst (λ q. FoundAll (shown f c.nodes) q.state.tasks ids tasks es) ports (subst (λ m. FoundAll (shown f m) p.state.tasks ids tasks es) nodes all)))
