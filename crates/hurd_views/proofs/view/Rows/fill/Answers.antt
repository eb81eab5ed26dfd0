use Rattle.hurd_core.specs.Core.{world_of}
use Rattle.hurd_views.proofs.RowLaws.{fills_none, named_all, named_next}
use Rattle.hurd_views.proofs.view.Rows.fill.Goals as goal

pub loop-i-init : goal.loop-i-init
loop-i-init g c = fills_none (world_of g.S.Server.meaning c.args.core.now) c.args.sight.now c.args.self.now

pub loop-i-preserved : goal.loop-i-preserved
loop-i-preserved g c =
    named_next c.args.self.now c.loop-i.self c.add_at.new.self (world_of g.S.Server.meaning c.args.core.now) c.args.sight.now c.args.names.now c.loop-i.i
    (rw c.len-i-end.ensures at c.loop-i-test.true) c.loop-i.invariant (rw c.get.ensures at c.in_ok-add_at.ensures)

pub returns : goal.returns
returns g c =
    named_all c.args.self.now c.loop-i.self (world_of g.S.Server.meaning c.args.core.now) c.args.sight.now c.args.names.now c.loop-i.i
    (rw c.len-i-end.ensures at c.loop-i-test.false) c.loop-i.invariant
