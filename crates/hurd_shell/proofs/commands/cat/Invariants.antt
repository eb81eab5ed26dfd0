use Rattle.hurd_world.specs.Held.{state_of}
use Rattle.hurd_shell.specs.Commands.{cat, cat_from}
use Rattle.hurd_shell.specs.Progress.{LeadsTo}
use Rattle.hurd_shell.proofs.commands.cat.Given as goal

abbrev pub invariant-loop-reads : goal.invariant-loop-reads
invariant-loop-reads g l =
    LeadsTo l.task.0 (cat l.port) (state_of g.S.Server.meaning l.fn.world) (cat_from l.reads l.port l.output.items) (state_of g.S.Server.meaning l.world)

abbrev pub decreases-loop-reads : goal.decreases-loop-reads
decreases-loop-reads g l = l.reads
