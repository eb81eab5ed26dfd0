-- How far a script is.
use Rattle.std.proofs.Common.{◌≡◌, ◌<◌, ◌∙◌, codes, ℕ, zero, suc, List, [], ◌∷◌, refl, sym, ap, drop, length, slice_get, nat_lt, true}
use Rattle.std.proofs.lemmas.Bool.{lt-ltb}
use Rattle.std.specs.Option.{option_map}
use Rattle.hurd_creds.specs.Limits.{most_script}
use Rattle.hurd_trans_iface.specs.Meaning.{begin}
use Rattle.hurd_machine.specs.World.{World}
use Rattle.hurd_kinds.specs.declared.server_box.ServerBox.{ServerBox}
use Rattle.hurd_script.specs.Commands.{CommandLine}
use Rattle.hurd_terminal.proofs.RunLaws.{HasLimit}
use Rattle.hurd_dialogue.specs.Parts.{Part}
use Rattle.hurd_dialogue.specs.Parts as parts
use Rattle.hurd_shell.specs.Session.{View, command_on, left_of, next_task}
use Rattle.hurd_shell.specs.Transcript.{Maker, dialogue, part_by, answer_to, tells, told_by}
use Rattle.hurd_shell.specs.declared.phase.Phase.{Phase}
use Rattle.hurd_shell.proofs.IsolationLaws.{played_told}
use Rattle.hurd_shell.specs.Scripts.{scripts, way_of}
use Rattle.hurd_run.proofs.ComplaintLaws.{bad_said}
use Rattle.hurd_script.specs.declared.flaw.ScriptFlaw.TheVariants.{Length}

-- a script that is too long is bad at line 0
is_long : (xs : List ℕ) → 1048576 < length xs → nat_lt most_script (length xs) ≡ true
is_long xs long = lt-ltb _ _ long

said_long : (xs : List ℕ) → 1048576 < length xs → scripts.complaint xs ≡ codes ": longer than 1048576 bytes\n"
said_long xs long = bad_said xs 0 Length (rw (is_long xs long) refl) (rw (is_long xs long) refl)

pub scripts_limited : HasLimit scripts.bad scripts.complaint
scripts_limited = record {
  cut = λ xs long. rw (is_long xs long) refl;
  same = λ xs ys long longer. said_long xs long ∙ sym (said_long ys longer);
}

-- the next task

got_next : (cs : List CommandLine) (n : ℕ) → option_map (λ (c : CommandLine). c.task) (slice_get cs n) ≡ option_map (λ (c : CommandLine). c.task) (slice_get (drop n cs) 0)
got_next [] zero = refl
got_next [] (suc n) = refl
got_next (c ∷ cs) zero = refl
got_next (c ∷ cs) (suc n) = got_next cs n

left_next : (make : Maker) (phase : Phase) (cs : List CommandLine) (w : World) → option_map (λ (c : CommandLine). c.task) (slice_get cs 0) ≡ parts.next_task (told_by make (left_of phase cs w))
unfolding told_by
left_next make phase [] w = refl
left_next make phase (c ∷ cs) w =
    sym (ap parts.next_task (played_told make c.task (λ r x. tells (part_by c (answer_to c r) x) (dialogue cs x)) (command_on phase c) w))

pub task_next : (s : View ServerBox) (names : List (List ℕ)) → next_task s ≡ parts.next_task (way_of s names).left
task_next s names = got_next s.commands s.given ∙ left_next begin s.phase (drop s.given s.commands) _
