use Rattle.hurd_world.specs.Held.{state_of}
use Rattle.hurd_client.specs.Openings.{opening_of, steps_of}
use Rattle.hurd_shell.specs.Progress.{LeadsTo}
use Rattle.hurd_shell.proofs.looking.go_on.Given as goal

abbrev pub invariant-turns : goal.invariant-turns
invariant-turns g l =
    LeadsTo l.task.0 (opening_of l.fn.opening) (state_of g.S.Server.meaning l.fn.world) (opening_of l.opening) (state_of g.S.Server.meaning l.world)

abbrev pub decreases-turns : goal.decreases-turns
decreases-turns g l = steps_of l.opening
