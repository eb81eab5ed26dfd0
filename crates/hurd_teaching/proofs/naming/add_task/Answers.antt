use Rattle.std.proofs.Common.{◌≡◌, ◌++◌, ◌∷◌, [], arith}
use Rattle.hurd_teaching.proofs.NamingLaws.{no_task, task_taken}
use Rattle.hurd_teaching.proofs.naming.add_task.Goals as goal

pub returns-in_ok-push-in-Some : goal.returns-in_ok-push-in-Some
returns-in_ok-push-in-Some g c = λ rest.
    let found = rw c.in-Some.is at c.task_of.ensures in
    let more : c.push.new.self.items ≡ c.args.tasks.now.items ++ c.in-Some.task ∷ [] = grind arith in
    task_taken (g.N.Naming.tasks c.args.naming.now) c.args.tasks.now.items c.push.new.self.items c.in-Some.task c.args.name.now rest found more

pub returns-in-None : goal.returns-in-None
returns-in-None g c = λ rest.
    let none = rw c.in-None.is at c.task_of.ensures in
    no_task (g.N.Naming.tasks c.args.naming.now) c.args.name.now rest none
