-- Commands that teach nothing.
use Rattle.std.proofs.Common.{◌≡◌, ◌≤◌, ◌+◌, subst, ℕ, arith, nat_lt, false, List, [], ◌∷◌, ◌++◌, drop, length}
use Rattle.std.proofs.lemmas.Bool.{le-ltb, or_from}
use Rattle.hurd_creds.specs.declared.name.TaskId.{TaskId}
use Rattle.hurd_machine.specs.Sound.{Sound}
use Rattle.hurd_machine.specs.World.{World}
use Rattle.hurd_laws.specs.Runs.{run}
use Rattle.hurd_dialogue.specs.Parts.{Part}
use Rattle.hurd_script.specs.Commands.{CommandLine}
use Rattle.hurd_shell.specs.Isolation.{UnmovedCommands, command_calls, script_calls, world_after}
use Rattle.hurd_shell.specs.Transcript.{Maker, dialogue, told_by}
use Rattle.hurd_shell.proofs.IsolationLaws.{as_without_others, first_told, part_at, run_both, run_sound}
use Rattle.hurd_sight.specs.Reach.{among}
use Rattle.hurd_lessons.specs.Told.{Said}
use Rattle.hurd_lessons.proofs.TaughtLaws.{untaught_where_unmoved}
use Rattle.hurd_teaching.specs.Learners.{Speech, is_quiet}
use Rattle.hurd_teaching.specs.Lessons.{LessonsOf}
use Rattle.hurd_run.specs.Silence.{AsWithoutTheSilent, Silent}

module _ (tasks : List TaskId) (who : Speech) (make : Maker) where
  -- what is said of a script's commands is said of the first, and of the others in the world after it
  first_lesson : (n : ℕ) (c : CommandLine) (cs : List CommandLine) (w : World) (said : List Said) → LessonsOf tasks who n w (told_by make (dialogue (c ∷ cs) w)) said
      → LessonsOf tasks who n w (part_at make c w ∷ told_by make (dialogue cs (run w (command_calls make c w)))) said
  first_lesson n c cs w said lessons = subst (λ (ps : List Part). LessonsOf tasks who n w ps said) (first_told make c cs w) lessons

  -- what is said after some commands is said of those from the world after the others
  lessons_behind : (n : ℕ) (before cs : List CommandLine) (w : World) (said : List Said) → LessonsOf tasks who n w (told_by make (dialogue (before ++ cs) w)) said
      → (m : ℕ) × (m ≡ n + length before) × LessonsOf tasks who m (world_after make before w) (told_by make (dialogue cs (world_after make before w))) (drop (length before) said)
  lessons_behind n [] cs w said lessons = (n, omega arith, lessons)
  lessons_behind n (c ∷ before) cs w said lessons =
      go (first_lesson n c (before ++ cs) w said lessons) (λ more rest. lessons_behind (n + 1) before cs (run w (command_calls make c w)) more rest)
    where
      go : LessonsOf tasks who n w (part_at make c w ∷ told_by make (dialogue (before ++ cs) (run w (command_calls make c w)))) said
          → ((more : List Said) → LessonsOf tasks who (n + 1) (run w (command_calls make c w)) (told_by make (dialogue (before ++ cs) (run w (command_calls make c w)))) more
          → (m : ℕ) × (m ≡ (n + 1) + length before)
          × LessonsOf tasks who m (world_after make before (run w (command_calls make c w))) (told_by make (dialogue cs (world_after make before (run w (command_calls make c w))))) (drop (length before) more))
          → (m : ℕ) × (m ≡ n + length (c ∷ before)) × LessonsOf tasks who m (world_after make (c ∷ before) w) (told_by make (dialogue cs (world_after make (c ∷ before) w))) (drop (length (c ∷ before)) said)
      go (text, shown, more, split, lesson, shows, rest) of_rest =
          let (m, is, behind) = of_rest more rest in
          (m, omega (arith, is), rw (split, run_both (command_calls make c w) (script_calls make before (run w (command_calls make c w))) w) behind)

  -- where lessons have begun, they are of what others do
  loud : (from made t : ℕ) → from ≤ made → among tasks t ≡ false → is_quiet tasks from made t ≡ false
  loud from made t begun other = or_from (nat_lt made from) (among tasks t) (le-ltb made from begun) other

  -- where lessons have begun and nothing is said, the others' commands leave the view as it was
  silent_unmoved : (n : ℕ) (cs : List CommandLine) (w : World) (said : List Said) → Sound w → who.from ≤ n → LessonsOf tasks who n w (told_by make (dialogue cs w)) said → Silent said
      → UnmovedCommands (among tasks) make cs w
  silent_unmoved n [] w said sound begun lessons silent = tt
  silent_unmoved n (c ∷ cs) w said sound begun lessons silent =
      let (text, shown, more, split, lesson, shows, rest) = first_lesson n c cs w said lessons in
      let y = run w (command_calls make c w) in
      let still = run_sound (command_calls make c w) w sound in
      let none = rw split at silent in (
        λ other. (untaught_where_unmoved tasks who.learns w y text sound still (lesson.some (loud who.from n c.task begun other))).0 none.0,
        silent_unmoved (n + 1) cs y more still (omega (arith, begun)) rest none.1,
      )

pub as_without_the_silent : AsWithoutTheSilent
as_without_the_silent tasks who make before cs w said sound begun lessons silent =
    let x = world_after make before w in
    let still = run_sound (script_calls make before w) w sound in
    let (m, is, behind) = lessons_behind tasks who make 0 before cs w said lessons in
    as_without_others (among tasks) make x cs still (silent_unmoved tasks who make m cs x (drop (length before) said) still (omega (arith, is, begun)) behind silent)
