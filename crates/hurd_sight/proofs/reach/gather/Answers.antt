-- With the next id, what was there and the ids up to this one.
use Rattle.std.proofs.Common.{ap, ◌∙◌, List, ℕ, get_or}
use Rattle.std.specs.Prelude.{nat_eq}
use Rattle.indexmap.specs.IndexSet.{insert_key}
use Rattle.hurd_sight.proofs.GatherLaws.{gathered_next}
use Rattle.hurd_sight.proofs.reach.gather.Goals as goal

pub loop-id-preserved : goal.loop-id-preserved
loop-id-preserved c =
    let added = rw c.unwrap.ensures at c.insert.ensures.keys in
    gathered_next c.args.held.now.keys c.loop-id.held.keys c.args.ids.now c.insert.new.self.keys c.loop-id.id-index c.loop-id-test.true c.loop-id.invariant
    (added ∙ ap (λ (ks : List ℕ). insert_key nat_eq ks (get_or c.args.ids.now c.loop-id.id-index 0)) c.in_ok-reserve.ensures.keys)
