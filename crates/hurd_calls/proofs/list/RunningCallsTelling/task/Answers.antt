use Rattle.std.proofs.Common.{arith, refl}
use Rattle.hurd_calls.proofs.WayLaws.{task_first, task_none}
use Rattle.hurd_calls.proofs.list.RunningCallsTelling.task.Goals as goal

pub returns-in-Some : goal.returns-in-Some
returns-in-Some c =
    let calls = c.args.self.now.calls in
    let count = calls.ok.0 in
    let some = c.in-Some.ensures.variant.0 refl in
    task_first c.args.self.now.world.value c.in-Some.listed.now calls.items c.args.self.now.told c.args.self.now.tasks (omega (arith, count, some)) c.in-Some.ensures.lookup

pub returns-in-None : goal.returns-in-None
returns-in-None c =
    let calls = c.args.self.now.calls in
    let count = calls.ok.0 in
    task_none c.args.self.now.world.value calls.items c.args.self.now.told c.args.self.now.tasks
    (λ some. let no = c.in-None.ensures.variant.1 (omega (arith, count, some)) in cc)
