use Rattle.std.proofs.Common.{◌∙◌, ◌+◌, ap, drop, sym}
use Rattle.hurd_words.specs.Reading.{behind, said}
use Rattle.hurd_words.proofs.Loops.{last_piece, next_piece}
use Rattle.hurd_teaching.specs.Learners.{numbers, tasks_of}
use Rattle.hurd_teaching.proofs.NamingLaws.{tasks_ended}
use Rattle.hurd_teaching.proofs.naming.tasks_of.Goals as goal

pub loop-name-preserved : goal.loop-name-preserved
loop-name-preserved g c =
    let finds = g.N.Naming.tasks c.args.naming.now in
    let items = c.as_slice-name-items.result.now in
    let front = numbers c.loop-name.tasks.items in
    let found = rw c.if-not-branch.false at c.in_ok-add_task.ensures in
    sym (next_piece (λ ps. behind front (tasks_of finds ps)) items c.loop-name.name-index c.loop-name-test.true ∙ found (drop (c.loop-name.name-index + 1) (said items))) ∙ c.loop-name.invariant

pub returns-then-not-branch : goal.returns-then-not-branch
returns-then-not-branch g c =
    let finds = g.N.Naming.tasks c.args.naming.now in
    let items = c.as_slice-name-items.result.now in
    let front = numbers c.loop-name.tasks.items in
    let none = rw c.if-not-branch.true at c.in_ok-add_task.ensures in
    sym c.loop-name.invariant
    ∙ (next_piece (λ ps. behind front (tasks_of finds ps)) items c.loop-name.name-index c.loop-name-test.true ∙ ap (behind front) (none (drop (c.loop-name.name-index + 1) (said items))))

pub returns : goal.returns
returns g c =
    let finds = g.N.Naming.tasks c.args.naming.now in
    let items = c.as_slice-name-items.result.now in
    let front = numbers c.loop-name.tasks.items in
    sym c.loop-name.invariant ∙ (last_piece (λ ps. behind front (tasks_of finds ps)) items c.loop-name.name-index c.loop-name-test.false ∙ tasks_ended finds front)
