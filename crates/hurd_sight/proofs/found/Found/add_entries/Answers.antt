use Rattle.hurd_machine.proofs.Common.{body_of, shown}
use Rattle.hurd_sight.specs.Found.{of_entry}
use Rattle.hurd_sight.proofs.FoundLaws.{gathered_each}
use Rattle.hurd_sight.proofs.WalkLaws.{walk_all, walk_item}
use Rattle.hurd_sight.proofs.found.Found.add_entries.Goals as goal

pub loop-name-preserved : goal.loop-name-preserved
loop-name-preserved g c =
    walk_item (gathered_each (of_entry c.args.dir (body_of (shown g.S.Server.meaning c.args.nodes.now).nodes c.args.dir))) c.args.names.now c.loop-name.name-index c.name-item.result _ _ _ (rw c.as_slice-name-items.ensures at c.loop-name-test.true) (rw c.as_slice-name-items.ensures at c.name-item.is)
    c.loop-name.invariant (rw c.as_slice.ensures at c.in_ok-add_entry.ensures)

pub returns : goal.returns
returns g c = walk_all (gathered_each (of_entry c.args.dir (body_of (shown g.S.Server.meaning c.args.nodes.now).nodes c.args.dir))) c.args.names.now c.loop-name.name-index _ _ (rw c.as_slice-name-items.ensures at c.loop-name-test.false) c.loop-name.invariant
