use Rattle.std.proofs.Common.{◌≡◌, [], arith}
use Rattle.std.proofs.lemmas.List.{nil_from_length}
use Rattle.hurd_machine.proofs.Common.{into_iter_items}
use Rattle.hurd_laws.proofs.Coalitions.{served_bounded}
use Rattle.hurd_laws.proofs.Served.{served_sound, served_compared, served_isolated, served_spared}
use Rattle.hurd_laws.proofs.ServedByLooks.{served_by_looks}
use Rattle.hurd_world.proofs.RunLaws.{none_served, next_served, all_served, all_back, first_begun, rest_begun}
use Rattle.hurd_world.proofs.world.World.run.Goals as goal

pub call-requires : goal.call-requires
call-requires g c =
    first_begun g.S.Server.meaning _ _ (c.in-Some.task, c.in-Some.call) c.in-Some.ensures.steps.0 c.loop-task.invariant.begun

pub loop-task-init : goal.loop-task-init
loop-task-init g c =
    let items : into_iter_items c.into_iter-task-iterator.result ≡ c.args.calls.items = c.into_iter-task-iterator.ensures.into_iter_gives.0 in
    record {
      can = tt;
      ends = tt;
      room = omega (arith, c.in-Ok.ensures.len, c.in-Ok.ensures.capacity, c.len.ensures, c.into_iter-task-iterator.ensures.into_iter_gives.1);
      begun = rw items c.requires;
      served = rw (items, c.in-Ok.ensures.items) (none_served g.S.Server.meaning _ _);
    }

pub loop-task-preserved : goal.loop-task-preserved
loop-task-preserved g c =
    let f = g.S.Server.meaning in
    record {
      can = tt;
      ends = tt;
      room = omega (arith, c.in-Some.ensures.steps.1);
      begun = rest_begun f _ _ (c.in-Some.task, c.in-Some.call) c.in-Some.ensures.steps.0 c.loop-task.invariant.begun;
      served =
          next_served f _ _ _ _ (c.in-Some.task, c.in-Some.call) _ _ c.call.result _ _
          c.in-Some.ensures.steps.0 c.push_reserved.ensures.items c.call.ensures.answer c.call.ensures.back c.loop-task.invariant.served;
    }

pub returns-clause-exact : goal.returns-clause-exact
returns-clause-exact g c =
    let end : into_iter_items c.loop-task.task-iterator ≡ [] = nil_from_length _ (omega (arith, c.in-None.ensures.steps.0, c.loop-task.task-iterator.rest.ok.0)) in
    all_served g.S.Server.meaning _ _ _ _ _ end c.loop-task.invariant.served

pub returns-clause-back : goal.returns-clause-back
returns-clause-back g c =
    let end : into_iter_items c.loop-task.task-iterator ≡ [] = nil_from_length _ (omega (arith, c.in-None.ensures.steps.0, c.loop-task.task-iterator.rest.ok.0)) in
    all_back g.S.Server.meaning _ _ _ _ _ end c.loop-task.invariant.served

pub returns-clause-isolated : goal.returns-clause-isolated
returns-clause-isolated g c = served_isolated _ _ _ _ (returns-clause-exact g c)

pub returns-clause-bounded : goal.returns-clause-bounded
returns-clause-bounded g c = served_bounded _ _ _ _ (returns-clause-exact g c)

pub returns-clause-compared : goal.returns-clause-compared
returns-clause-compared g c = served_compared _ _ _ _ (returns-clause-exact g c)

pub returns-clause-looks : goal.returns-clause-looks
returns-clause-looks g c = served_by_looks _ _ _ _ (returns-clause-exact g c)

pub returns-clause-spared : goal.returns-clause-spared
returns-clause-spared g c = served_spared _ _ _ _ (returns-clause-exact g c)

pub returns-clause-sound : goal.returns-clause-sound
returns-clause-sound g c = served_sound _ _ _ _ (returns-clause-exact g c)
