use Rattle.hurd_machine.proofs.Common.{NodeState, active_in, flat_map, home_in, shown}
use Rattle.std.proofs.lemmas.Result.{on_ok_weaker}
use Rattle.hurd_sight.specs.Found.{of_target, targets_of}
use Rattle.hurd_sight.proofs.FoundLaws.{gathered_both}
use Rattle.hurd_sight.proofs.found.Found.add_targets.Goals as goal

pub returns : goal.returns
returns g c =
    let h : NodeState = shown g.S.Server.meaning c.args.nodes.now in
    let m = c.args.node in
    on_ok_weaker c.add_aims-2.result
    (λ actives. gathered_both _ (flat_map (of_target m) (targets_of h (home_in h.sites m))) (flat_map (of_target m) (targets_of h (active_in h.sites m)))
    (rw c.home.ensures at c.in_ok-add_aims.ensures) (rw c.active.ensures at actives))
    c.add_aims-2.ensures
