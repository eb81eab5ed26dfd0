use Rattle.std.proofs.Common.{◌∙◌, map}
use Rattle.std.specs.Prelude.{string_bytes}
use Rattle.hurd_run.proofs.WayLaws.{task_next}
use Rattle.hurd_run.proofs.script.RunningScriptTelling.task.Goals as goal

pub returns : goal.returns
returns c =
    let next = rw c.deref.ensures at c.task.ensures in
    next ∙ task_next c.args.self.now.session.value (map string_bytes c.args.self.now.names.items)
