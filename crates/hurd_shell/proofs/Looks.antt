-- What scripts tell a set of tasks that gives its commands in worlds that look the same to it except for names.
use Rattle.std.proofs.Common.{◌≡◌, ◌∙◌, ℕ, Bool, true, List, ◌∷◌, Result, sym, refl, ap, ap₂, subst}
use Rattle.hurd_creds.specs.declared.errno.Errno.{Errno}
use Rattle.hurd_machine.specs.Calls.{Reply}
use Rattle.hurd_machine.specs.Renamed.{OtherNames}
use Rattle.hurd_machine.specs.World.{World}
use Rattle.hurd_machine.specs.Sound.{Sound}
use Rattle.hurd_script.specs.Commands.{CommandLine}
use Rattle.hurd_script.specs.Actions.{action_of}
use Rattle.hurd_script.specs.Script.{users_of, commands_of}
use Rattle.hurd_laws.specs.Step.{reply_of, after}
use Rattle.hurd_laws.specs.Runs.{run}
use Rattle.hurd_laws.proofs.Assembled.{stays_sound}
use Rattle.hurd_laws.proofs.Together.{together}
use Rattle.hurd_laws.specs.After.{AllLookAlike, LooksLike}
use Rattle.hurd_laws.proofs.OwnLooks.{own_from_looks}
use Rattle.hurd_world.specs.Boot.{first_world}
use Rattle.hurd_world.proofs.FirstWorld.{first_sound}
use Rattle.hurd_client.specs.Programs.{Prog, gives, calls, asks}
use Rattle.hurd_shell.specs.Commands.{program_of}
use Rattle.hurd_shell.specs.Transcript.{Maker, answer_to}
use Rattle.hurd_shell.specs.Isolation.{calls_in, command_calls, commands_by, result_in, worlds_of}
use Rattle.hurd_shell.specs.Looks.{CommandsByLooks, OwnCommandFromLooks, ScriptsByLooks}
use Rattle.hurd_shell.proofs.IsolationLaws.{run_sound, told_parts, told_to}

-- a program of a task of S goes the same way in two worlds that look the same to it
abbrev GoesAlike : {A : Type 0} → (ℕ → Bool) → OtherNames → Maker → ℕ → Prog A → Prog A → World → World → Type 0
GoesAlike S f make t p q v w = (result_in make t p v ≡ result_in make t q w) × LooksLike S f (run v (calls_in make t p v)) (run w (calls_in make t q w))

own_program : {A : Type 0} (S : ℕ → Bool) (f : OtherNames) (make : Maker) (t : ℕ) → S t ≡ true → (p : Prog A) (v w : World) → Sound v → Sound w → LooksLike S f v w → GoesAlike S f make t p p v w
unfolding calls_in result_in
own_program S f make t ours (gives r) v w sv sw looks = (refl, looks)
own_program {A} S f make t ours (calls c k) v w sv sw looks =
    let step = own_from_looks S f v w t c sv sw ours looks in
    let x = after v t c in
    let y = after w t c in
    subst (λ (r : Reply). GoesAlike S f make t (k (reply_of v t c)) (k r) x y) step.0
    (own_program S f make t ours (k (reply_of v t c)) x y (stays_sound v t c sv) (stays_sound w t c sw) step.1)
own_program S f make t ours (asks words k) v w sv sw looks = own_program S f make t ours (k (make words)) v w sv sw looks

pub own_command_looks : OwnCommandFromLooks
own_command_looks S f make v w c sv sw ours looks =
    let now = own_program S f make c.task ours (program_of (action_of c)) v w sv sw looks in
    (ap (answer_to c) now.0, now.1)

-- commands, one after another
abbrev Told : (ℕ → Bool) → Maker → List CommandLine → List CommandLine → Type 0
Told S make cs ds =
    (v w : World) → Sound v → Sound w → AllLookAlike S (worlds_of S make v cs) (worlds_of S make w ds) → told_to S make cs v ≡ told_to S make ds w

told_alike : (S : ℕ → Bool) (make : Maker) (cs ds : List CommandLine) → commands_by S cs ≡ commands_by S ds → Told S make cs ds
told_alike S make = together (λ (c : CommandLine). S c.task) (Told S make)
    (λ v w sv sw looks. refl)
    (λ c cs ds e ih v w sv sw. let ms = command_calls make c v in rw e (ih (run v ms) w (run_sound ms v sv) sw))
    (λ d cs ds e ih v w sv sw. let ns = command_calls make d w in rw e (ih v (run w ns) sv (run_sound ns w sw)))
    (λ c cs ds e ih v w sv sw.
    let ms = command_calls make c v in
    let ns = command_calls make c w in
    rw e (λ looks.
    ap₂ ◌∷◌ (own_command_looks S looks.0.0 make v w c sv sw e looks.0.1).0
    (ih (run v ms) (run w ns) (run_sound ms v sv) (run_sound ns w sw) looks.1)))

pub commands_by_looks : CommandsByLooks
commands_by_looks S make v w cs ds sv sw commands looks =
    told_parts S make cs v ∙ (told_alike S make cs ds commands v w sv sw looks ∙ sym (told_parts S make ds w))

pub scripts_by_looks : ScriptsByLooks
scripts_by_looks S make m script other begins commands looks =
    commands_by_looks S make (first_world m (users_of script)) (first_world m (users_of other)) (commands_of script) (commands_of other)
    (first_sound m (users_of script) begins) (first_sound m (users_of other) begins) commands looks
