use Rattle.std.proofs.Common.{arith}
use Rattle.hurd_can.proofs.ListLaws.{parts_more}
use Rattle.hurd_can.proofs.listing.add_group.Goals as goal

pub loop-i-preserved : goal.loop-i-preserved
loop-i-preserved c = parts_more c.args.group c.args.view.now c.loop-i.i c.args.parts.now.items c.loop-i.parts.items c.add_at.new.parts.items (omega arith) c.loop-i.invariant c.in_ok-add_at.ensures
