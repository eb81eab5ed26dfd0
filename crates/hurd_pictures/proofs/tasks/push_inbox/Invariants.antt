use Rattle.std.proofs.Common.{◌≡◌, ◌++◌, drop}
use Rattle.hurd_pictures.specs.Tasks.{inbox_text}
use Rattle.hurd_pictures.proofs.tasks.push_inbox.Given as goal

abbrev pub invariant-loop-right : goal.invariant-loop-right
invariant-loop-right l =
    l.text.items ++ inbox_text l.titles l.view l.task l.own (drop l.right-index l.rights) ≡ l.fn.text.items ++ inbox_text l.titles l.view l.task l.own l.rights
