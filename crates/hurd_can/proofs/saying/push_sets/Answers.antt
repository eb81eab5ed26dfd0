use Rattle.std.proofs.Common.{arith}
use Rattle.hurd_can.specs.Tried.{SaysWay}
use Rattle.hurd_can.proofs.SaidLaws.{said_more}
use Rattle.hurd_can.proofs.saying.push_sets.Goals as goal

pub loop-set-preserved : goal.loop-set-preserved
loop-set-preserved g c =
    said_more (SaysWay g.T.Telling.sort c.args.trial.now.text.now c.args.names.now c.args.trial.now.who.now c.args.trial.now.part c.args.trial.now.made c.args.trial.now.look.now c.args.path.now) c.args.sets.now c.loop-set.set-index _ c.args.text.now.items c.loop-set.text.items
    c.extend_from_slice.new.self.items (omega arith) c.loop-set.invariant (c.in_ok-said.said.items, c.in_ok-said.ensures, rw c.as_slice.ensures.value at c.in_ok-extend_from_slice.ensures.items)
