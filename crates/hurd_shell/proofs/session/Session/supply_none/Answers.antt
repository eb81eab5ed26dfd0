use Rattle.std.proofs.Common.{◌∙◌, sym}
use Rattle.hurd_shell.proofs.SessionLaws.{took, took_sound, took_stays}
use Rattle.hurd_shell.proofs.session.Session.supply_none.Goals as goal

pub returns-in-Ok-clause-ok : goal.returns-in-Ok-clause-ok
returns-in-Ok-clause-ok g c =
    let inside = c.self.inside in
    let waits = rw (← c.self.view_is) at c.waits.ensures in
    rw (← c.self.view_is)
    (took g.S.Server.meaning inside.world c.go_without.new.world inside.commands.items inside.given inside.phase c.index.result.now c.in-Waiting.waiting _ c.in-Ok.stage c.in-Ok.answer
    (sym c.replace.ensures.value ∙ c.in-Waiting.is) (sym waits ∙ c.if-not-waits.false) c.index.ensures c.in-Ok.ensures.0 (rw c.task-task.ensures at c.in-Ok.ensures.1))

pub returns-in-Ok-clause-sound : goal.returns-in-Ok-clause-sound
returns-in-Ok-clause-sound g c =
    let inside = c.self.inside in
    rw (← c.self.view_is)
    (took_sound g.S.Server.meaning inside.world c.go_without.new.world inside.commands.items inside.given inside.phase _ c.in-Waiting.waiting _ c.in-Ok.stage c.in-Ok.answer
    (sym c.replace.ensures.value ∙ c.in-Waiting.is) c.in-Ok.ensures.1)

pub returns-in-Ok-clause-noted : goal.returns-in-Ok-clause-noted
returns-in-Ok-clause-noted g c = rw (← c.self.view_is) (took_stays c.in-Ok.answer c.in-Ok.ensures.1)
