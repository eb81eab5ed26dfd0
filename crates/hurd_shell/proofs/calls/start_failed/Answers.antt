use Rattle.std.proofs.Common.{refl}
use Rattle.hurd_shell.proofs.ProgramLaws.{made_does}
use Rattle.hurd_shell.proofs.calls.start_failed.Goals as goal

pub returns : goal.returns
returns g c = made_does _ _ _ c.in_ok-_reply.ensures.ok refl
