use Rattle.std.proofs.Common.{◌≡◌, drop}
use Rattle.hurd_words.specs.Reading.{behind, said}
use Rattle.hurd_teaching.specs.Learners.{numbers, tasks_named, tasks_of}
use Rattle.hurd_teaching.proofs.naming.tasks_of.Given as goal

-- reading all names is reading those that are left, after the tasks so far
abbrev pub invariant-loop-name : goal.invariant-loop-name
invariant-loop-name g l =
    let finds = g.N.Naming.tasks l.fn.naming in
    behind (numbers l.tasks.items) (tasks_of finds (drop l.name-index (said l.name-items))) ≡ tasks_named finds l.fn.word
