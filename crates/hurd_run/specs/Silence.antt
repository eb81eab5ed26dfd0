-- What it means that commands teach nothing.
use Rattle.std.specs.Prelude.{◌≡◌, ◌≤◌, List, [], ◌∷◌, ◌++◌, drop, length}
use Rattle.hurd_creds.specs.declared.name.TaskId.{TaskId}
use Rattle.hurd_machine.specs.World.{World}
use Rattle.hurd_machine.specs.Sound.{Sound}
use Rattle.hurd_script.specs.Commands.{CommandLine}
use Rattle.hurd_shell.specs.Isolation.{commands_by, parts_to, world_after}
use Rattle.hurd_shell.specs.Transcript.{Maker, dialogue, parts_by, told_by}
use Rattle.hurd_sight.specs.Reach.{among}
use Rattle.hurd_lessons.specs.Told.{Said}
use Rattle.hurd_teaching.specs.Learners.{Speech}
use Rattle.hurd_teaching.specs.Lessons.{LessonsOf}

-- nothing is said
abbrev pub Silent : List Said → Type 0
Silent [] = Unit {0}
Silent (s ∷ more) = (s.text ≡ []) × Silent more

-- from a command on, where lessons have begun and nothing is learned, these users are told what they are told without the commands of others
abbrev pub AsWithoutTheSilent : Type 0
AsWithoutTheSilent =
    (tasks : List TaskId) (who : Speech) (make : Maker) (before cs : List CommandLine) (w : World) (said : List Said) → Sound w → who.from ≤ length before
    → LessonsOf tasks who 0 w (told_by make (dialogue (before ++ cs) w)) said → Silent (drop (length before) said)
    → let x = world_after make before w in
    let S = among tasks in
    parts_to S cs (parts_by make (dialogue cs x)) ≡ parts_to S (commands_by S cs) (parts_by make (dialogue (commands_by S cs) x))
