use Rattle.hurd_machine.proofs.Common.{body_of, shown}
use Rattle.hurd_views.proofs.ToldLaws.{rows_all, rows_next}
use Rattle.hurd_views.proofs.told.entries.Goals as goal

pub loop-name-preserved : goal.loop-name-preserved
loop-name-preserved g c =
    rows_next (body_of (shown g.S.Server.meaning c.args.nodes.now).nodes c.args.dir) c.args.names.now c.loop-name.name-index c.name-item.result
    (rw c.as_slice-name-items.ensures at c.loop-name-test.true) (rw c.as_slice-name-items.ensures at c.name-item.is) c.loop-name.invariant c.in_ok-add_entry.ensures

pub returns : goal.returns
returns g c =
    rows_all (body_of (shown g.S.Server.meaning c.args.nodes.now).nodes c.args.dir) c.args.names.now c.loop-name.name-index
    (rw c.as_slice-name-items.ensures at c.loop-name-test.false) c.loop-name.invariant
