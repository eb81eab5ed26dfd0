-- What a session comes to with a command.
use Rattle.std.specs.Prelude.{◌≡◌, ℕ, Option, Some, None, Result, Ok, Err}
use Rattle.hurd_machine.specs.World.{World}
use Rattle.hurd_script.specs.Commands.{CommandLine}
use Rattle.hurd_shell.specs.declared.fault.Stop.{Stop}
use Rattle.hurd_shell.specs.declared.fault.Stop.TheVariants.{Refused, Memory}
use Rattle.hurd_shell.specs.declared.phase.Phase.{Phase}
use Rattle.hurd_shell.specs.declared.phase.Phase.TheVariants.{Between, Waiting}
use Rattle.hurd_shell.specs.declared.session.Want.{Want}
use Rattle.hurd_shell.specs.declared.session.Want.TheVariants.{Output, Server}
use Rattle.hurd_shell.specs.declared.stages.Progress.{Progress}
use Rattle.hurd_shell.specs.declared.stages.Progress.TheVariants as progress
use Rattle.hurd_shell.specs.declared.transcript.Turn.{Turn}
use Rattle.hurd_shell.specs.declared.transcript.Turn.TheVariants.{Told, Waits}
use Rattle.hurd_shell.specs.Stages.{waiting_on}
use Rattle.hurd_shell.specs.Transcript.{Dialogue, tells, part_by, answer_to, played}

-- what is told of a command that came to its end, or waits for a server, unless memory was refused
abbrev pub turn_of : CommandLine → Result Progress Stop → Option Turn
turn_of c (Ok (progress.Ended printed)) = Some (Told (answer_to c (Ok printed)))
turn_of c (Ok (progress.Waits w)) = Some (Waits w)
turn_of c (Err (Refused e)) = Some (Told (answer_to c (Err e)))
turn_of c (Err Memory) = None

-- what is left to tell after a turn, where this is told after the command
abbrev pub turn_on : CommandLine → (World → Dialogue) → Turn → World → Dialogue
turn_on c next (Told answer) x = tells (part_by c answer x) (next x)
turn_on c next (Waits w) x = played c.task (waiting_on w) x (λ r y. tells (part_by c (answer_to c r) y) (next y))

-- what the caller is given after a turn, how many commands are made then, and how far the next one is
abbrev pub Stands : Turn → ℕ → ℕ → Want → ℕ → Phase → Type 0
Stands (Told answer) made before want given phase = (want ≡ Output answer) × (given ≡ made) × (phase ≡ Between)
Stands (Waits w) made before want given phase = (want ≡ Server w.words) × (given ≡ before) × (phase ≡ Waiting w)
