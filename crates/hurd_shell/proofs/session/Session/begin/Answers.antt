use Rattle.std.proofs.Common.{◌∙◌, ap, refl}
use Rattle.hurd_shell.specs.Transcript.{dialogue}
use Rattle.hurd_shell.proofs.SessionLaws.{between}
use Rattle.hurd_shell.proofs.session.Session.begin.Goals as goal

pub returns-in-Ok-clause-ok : goal.returns-in-Ok-clause-ok
returns-in-Ok-clause-ok g c =
    let booted = c.in-Ok.ensures in (
      booted.ok.0,
      record {
        world = booted.ok.1;
        left = between c.args.script.commands.items _ ∙ ap (dialogue c.args.script.commands.items) booted.ok.1;
        fine = refl;
        waits = refl;
        given = refl;
        sound = booted.sound;
      },
    )
