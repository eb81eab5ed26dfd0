use Rattle.hurd_nodes.specs.Shown.{shown}
use Rattle.hurd_sight.specs.Parts.{sendable_at}
use Rattle.hurd_sight.proofs.NearLaws.{entries_all, entries_next}
use Rattle.hurd_sight.proofs.near.sendable_servers.Goals as goal

pub loop-i-preserved : goal.loop-i-preserved
loop-i-preserved g c = entries_next (sendable_at (shown g.S.Server.meaning c.args.nodes.now) c.args.reach.now) c.args.found.now c.loop-i.i _ _ _ (rw c.len-i-end.ensures at c.loop-i-test.true) c.loop-i.invariant c.in_ok-add_sendable.ensures

pub returns : goal.returns
returns g c = entries_all (sendable_at (shown g.S.Server.meaning c.args.nodes.now) c.args.reach.now) c.args.found.now c.loop-i.i _ _ (rw c.len-i-end.ensures at c.loop-i-test.false) c.new-names.ensures c.loop-i.invariant
