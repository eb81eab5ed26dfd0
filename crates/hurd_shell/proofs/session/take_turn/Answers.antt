use Rattle.std.proofs.Common.{refl}
use Rattle.hurd_shell.proofs.SessionLaws.{told_sound, told_turn}
use Rattle.hurd_shell.proofs.session.take_turn.Goals as goal

pub returns-in-Between-clause-ok : goal.returns-in-Between-clause-ok
returns-in-Between-clause-ok g c = rw c.in-Between.is (told_turn c.args.command.now _ _ _ _ c.told.result c.begin.ensures c.told.ensures)

pub returns-in-Between-clause-sound : goal.returns-in-Between-clause-sound
returns-in-Between-clause-sound g c = told_sound c.args.command.now _ _ _ _ c.told.result c.begin.ensures c.told.ensures

pub returns-in-Waiting-clause-ok : goal.returns-in-Waiting-clause-ok
returns-in-Waiting-clause-ok g c = rw c.in-Waiting.is (λ next. refl)

pub returns-in-Answered-clause-ok : goal.returns-in-Answered-clause-ok
returns-in-Answered-clause-ok g c =
    rw c.in-Answered.is
    (told_turn c.args.command.now _ _ _ _ c.told-in-Answered.result (rw (c.task.ensures, c.into_stage.ensures) at c.resume-progress.ensures) c.told-in-Answered.ensures)

pub returns-in-Answered-clause-sound : goal.returns-in-Answered-clause-sound
returns-in-Answered-clause-sound g c =
    told_sound c.args.command.now _ _ _ _ c.told-in-Answered.result (rw c.task.ensures at c.resume-progress.ensures) c.told-in-Answered.ensures
