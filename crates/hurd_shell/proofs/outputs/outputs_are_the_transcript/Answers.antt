use Rattle.hurd_shell.proofs.OutputLaws.{came_parts, came_wanted, came_whole}
use Rattle.hurd_shell.proofs.outputs.outputs_are_the_transcript.Goals as goal

pub returns : goal.returns
returns g c = record { parts = came_parts g.S.Server.meaning; wanted = came_wanted g.S.Server.meaning; whole = came_whole g.S.Server.meaning }
