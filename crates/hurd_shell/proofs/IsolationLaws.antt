-- What two scripts tell a set of tasks that gives the same commands in both.
use Rattle.std.proofs.Common.{◌≡◌, ◌∙◌, ℕ, suc, Bool, true, false, true≢false, if◌then◌else◌, List, [], ◌∷◌, ◌++◌, length, Result, sym, refl, ap, ap₂, subst}
use Rattle.hurd_creds.specs.declared.errno.Errno.{Errno}
use Rattle.hurd_creds.specs.Access.{IdSets}
use Rattle.hurd_machine.specs.Calls.{Reply}
use Rattle.hurd_machine.specs.World.{World}
use Rattle.hurd_machine.specs.Sight.{SameView}
use Rattle.hurd_machine.specs.Sound.{Sound}
use Rattle.hurd_machine.proofs.Views.{Agree-refl, Agree-sym, Agree-trans, agree_of, view_of}
use Rattle.hurd_script.specs.Commands.{CommandLine}
use Rattle.hurd_script.specs.Actions.{action_of}
use Rattle.hurd_script.specs.Script.{users_of, commands_of}
use Rattle.hurd_laws.specs.Step.{reply_of, after}
use Rattle.hurd_laws.specs.Runs.{TaskCall, run, calls_of, Quiet, SameViews}
use Rattle.hurd_laws.proofs.Assembled.{own_from_view, stays_sound}
use Rattle.hurd_laws.proofs.Headline.{isolated}
use Rattle.hurd_laws.proofs.Together.{together}
use Rattle.hurd_world.specs.Boot.{first_world}
use Rattle.hurd_world.proofs.FirstWorld.{first_sound}
use Rattle.hurd_client.specs.Programs.{Prog, gives, calls, asks}
use Rattle.hurd_shell.specs.Commands.{program_of}
use Rattle.hurd_dialogue.specs.Parts.{Part, answers}
use Rattle.hurd_words.specs.declared.answers.Answer.{Answer}
use Rattle.hurd_shell.specs.Transcript.{Dialogue, tells, Maker, dialogue, part_by, answer_to, parts_by, played, told_by}
use Rattle.hurd_shell.specs.Isolation.{calls_in, command_calls, command_part, result_in, script_calls, world_after, worlds_of, commands_by, parts_to, QuietCommands, OnePartEach, ToldInTurn, UnmovedCommands, CommandsSideBySide, ScriptsSideBySide, IsolatedCommands, IsolatedByView, AsWithoutOthers, IsolatedScripts, OwnCommandFromView}

-- runs in two halves

pub run_both : (ms ns : List TaskCall) (w : World) → run w (ms ++ ns) ≡ run (run w ms) ns
run_both [] ns w = refl
run_both (m ∷ ms) ns w = run_both ms ns (after w m.task m.call)

quiet_both : (S : ℕ → Bool) (ms ns : List TaskCall) (w : World) → Quiet S w (ms ++ ns) → Quiet S w ms × Quiet S (run w ms) ns
quiet_both S [] ns w q = (tt, q)
quiet_both S (m ∷ ms) ns w q = let rest = quiet_both S ms ns (after w m.task m.call) q.1 in ((q.0, rest.0), rest.1)

pub run_sound : (ms : List TaskCall) (w : World) → Sound w → Sound (run w ms)
run_sound [] w s = s
run_sound (m ∷ ms) w s = run_sound ms (after w m.task m.call) (stays_sound w m.task m.call s)

-- what is told while a program is made is what is told at its end
pub played_told : {A : Type 0} (make : Maker) (t : ℕ) (next : Result A Errno → World → Dialogue) (p : Prog A) (w : World)
    → told_by make (played t p w next) ≡ told_by make (next (result_in make t p w) (run w (calls_in make t p w)))
unfolding played told_by calls_in result_in
played_told make t next (gives r) w = refl
played_told make t next (calls c k) w = played_told make t next (k (reply_of w t c)) (after w t c)
played_told make t next (asks words k) w = played_told make t next (k (make words)) w

-- the part that is told of a command
abbrev pub part_at : Maker → CommandLine → World → Part
part_at make c w = part_by c (command_part make c w) (run w (command_calls make c w))

-- the first part that is told, and those of the commands after
pub first_told : (make : Maker) (c : CommandLine) (cs : List CommandLine) (w : World)
    → told_by make (dialogue (c ∷ cs) w) ≡ part_at make c w ∷ told_by make (dialogue cs (run w (command_calls make c w)))
unfolding dialogue told_by
first_told make c cs w = played_told make c.task (λ r x. tells (part_by c (answer_to c r) x) (dialogue cs x)) (program_of (action_of c)) w

pub none_told : (make : Maker) (w : World) → told_by make (dialogue [] w) ≡ []
unfolding dialogue told_by
none_told make w = refl

no_parts : (make : Maker) (w : World) → parts_by make (dialogue [] w) ≡ []
no_parts make w = ap answers (none_told make w)

-- their answers
first_part : (make : Maker) (c : CommandLine) (cs : List CommandLine) (w : World)
    → parts_by make (dialogue (c ∷ cs) w) ≡ command_part make c w ∷ parts_by make (dialogue cs (run w (command_calls make c w)))
first_part make c cs w = ap answers (first_told make c cs w)

pub one_part_each : OnePartEach
one_part_each make [] w = ap length (no_parts make w)
one_part_each make (c ∷ cs) w = ap length (first_part make c cs w) ∙ ap (λ (n : ℕ). suc n) (one_part_each make cs (run w (command_calls make c w)))

pub told_in_turn : ToldInTurn
told_in_turn make [] ds w = sym (ap (λ (ps : List Answer). ps ++ parts_by make (dialogue ds w)) (no_parts make w))
told_in_turn make (c ∷ cs) ds w =
    let x = run w (command_calls make c w) in
    let later : World → List Answer = λ y. parts_by make (dialogue ds y) in
    first_part make c (cs ++ ds) w
    ∙ (ap (λ (ps : List Answer). command_part make c w ∷ ps) (told_in_turn make cs ds x)
    ∙ ap₂ (λ (ps qs : List Answer). ps ++ qs) (sym (first_part make c cs w)) (ap later (sym (run_both (command_calls make c w) (script_calls make cs x) w))))

-- what S is told, command by command
abbrev pub told_to : (ℕ → Bool) → Maker → List CommandLine → World → List Answer
told_to S make [] w = []
told_to S make (c ∷ cs) w =
    if S c.task then command_part make c w ∷ told_to S make cs (run w (command_calls make c w))
    else told_to S make cs (run w (command_calls make c w))

pub told_parts : (S : ℕ → Bool) (make : Maker) (cs : List CommandLine) (w : World) → parts_to S cs (parts_by make (dialogue cs w)) ≡ told_to S make cs w
told_parts S make [] w = refl
told_parts S make (c ∷ cs) w =
    ap (parts_to S (c ∷ cs)) (first_part make c cs w)
    ∙ ap (λ (ps : List Answer). if S c.task then command_part make c w ∷ ps else ps) (told_parts S make cs (run w (command_calls make c w)))

-- a program of a task of S goes the same way in two worlds that have the same view for S

abbrev GoesAlike : {A : Type 0} → (ℕ → Bool) → Maker → ℕ → Prog A → World → World → Type 0
GoesAlike S make t p v w = (result_in make t p v ≡ result_in make t p w) × SameView S (run v (calls_in make t p v)) (run w (calls_in make t p w))

own_program : {A : Type 0} (S : ℕ → Bool) (make : Maker) (t : ℕ) → S t ≡ true → (p : Prog A) (v w : World) → Sound v → Sound w → SameView S v w → GoesAlike S make t p v w
unfolding calls_in result_in
own_program S make t ours (gives r) v w sv sw same = (refl, same)
own_program {A} S make t ours (calls c k) v w sv sw same =
    let step = own_from_view S v w t c sv sw ours same in
    let x = after v t c in
    let y = after w t c in
    let rest = own_program S make t ours (k (reply_of v t c)) x y (stays_sound v t c sv) (stays_sound w t c sw) step.1 in
    let end : Reply → World = λ r. run y (calls_in make t (k r) y) in (
      rest.0 ∙ ap (λ (r : Reply). result_in make t (k r) y) (sym step.0),
      subst (λ (z : World). SameView S (run x (calls_in make t (k (reply_of v t c)) x)) z) (ap end (sym step.0)) rest.1,
    )
own_program S make t ours (asks words k) v w sv sw same = own_program S make t ours (k (make words)) v w sv sw same

pub own_command : OwnCommandFromView
own_command S make v w c sv sw ours same =
    let now = own_program S make c.task ours (program_of (action_of c)) v w sv sw same in
    (ap (answer_to c) now.0, now.1)

-- a program of another task makes no call of a task of S
none_of : {A : Type 0} (S : ℕ → Bool) (make : Maker) (t : ℕ) → S t ≡ false → (p : Prog A) (w : World) → calls_of S (calls_in make t p w) ≡ []
unfolding calls_in
none_of S make t other (gives r) w = refl
none_of S make t other (calls c k) w = rw other (none_of S make t other (k (reply_of w t c)) (after w t c))
none_of S make t other (asks words k) w = none_of S make t other (k (make words)) w

-- where S gives its commands in worlds of the same view, it is told the same
abbrev Told : (ℕ → Bool) → Maker → List CommandLine → List CommandLine → Type 0
Told S make cs ds =
    (v w : World) → Sound v → Sound w → SameViews S (worlds_of S make v cs) (worlds_of S make w ds) → told_to S make cs v ≡ told_to S make ds w

told_alike : (S : ℕ → Bool) (make : Maker) (cs ds : List CommandLine) → commands_by S cs ≡ commands_by S ds → Told S make cs ds
told_alike S make = together (λ (c : CommandLine). S c.task) (Told S make)
    (λ v w sv sw views. refl)
    (λ c cs ds e ih v w sv sw. let ms = command_calls make c v in rw e (ih (run v ms) w (run_sound ms v sv) sw))
    (λ d cs ds e ih v w sv sw. let ns = command_calls make d w in rw e (ih v (run w ns) sv (run_sound ns w sw)))
    (λ c cs ds e ih v w sv sw.
    let ms = command_calls make c v in
    let ns = command_calls make c w in
    rw e (λ views.
    ap₂ ◌∷◌ (ap (answer_to c) (own_program S make c.task e (program_of (action_of c)) v w sv sw views.0).0)
    (ih (run v ms) (run w ns) (run_sound ms v sv) (run_sound ns w sw) views.1)))

pub commands_side_by_side : CommandsSideBySide
commands_side_by_side S make v w cs ds sv sw commands views =
    told_parts S make cs v ∙ (told_alike S make cs ds commands v w sv sw views ∙ sym (told_parts S make ds w))

pub scripts_side_by_side : ScriptsSideBySide
scripts_side_by_side S make m script other begins commands views =
    commands_side_by_side S make (first_world m (users_of script)) (first_world m (users_of other)) (commands_of script) (commands_of other)
    (first_sound m (users_of script) begins) (first_sound m (users_of other) begins) commands views

SameView-refl : (S : ℕ → Bool) (v : World) → SameView S v v
SameView-refl S v = view_of (Agree-refl S v)

-- where the others leave its view as it was, it gives its commands in worlds of the same view, and sees the same afterwards
abbrev Met : (ℕ → Bool) → Maker → List CommandLine → List CommandLine → Type 0
Met S make cs ds =
    (v w : World) → Sound v → Sound w → SameView S v w → UnmovedCommands S make cs v → UnmovedCommands S make ds w
    → SameViews S (worlds_of S make v cs) (worlds_of S make w ds) × SameView S (world_after make cs v) (world_after make ds w)

met : (S : ℕ → Bool) (make : Maker) (cs ds : List CommandLine) → commands_by S cs ≡ commands_by S ds → Met S make cs ds
met S make = together (λ (c : CommandLine). S c.task) (Met S make)
    (λ v w sv sw same qv qw. (tt, same))
    (λ c cs ds e ih v w sv sw same qv qw.
    let ms = command_calls make c v in
    let rest = ih (run v ms) w (run_sound ms v sv) sw (view_of (Agree-trans (Agree-sym (agree_of (qv.0 e))) (agree_of same))) qv.1 qw in
    rw (e, run_both ms (script_calls make cs (run v ms)) v) rest)
    (λ d cs ds e ih v w sv sw same qv qw.
    let ns = command_calls make d w in
    let rest = ih v (run w ns) sv (run_sound ns w sw) (view_of (Agree-trans (agree_of same) (agree_of (qw.0 e)))) qv qw.1 in
    rw (e, run_both ns (script_calls make ds (run w ns)) w) rest)
    (λ c cs ds e ih v w sv sw same qv qw.
    let ms = command_calls make c v in
    let ns = command_calls make c w in
    let now = own_program S make c.task e (program_of (action_of c)) v w sv sw same in
    let rest = ih (run v ms) (run w ns) (run_sound ms v sv) (run_sound ns w sw) now.1 qv.1 qw.1 in
    rw (e, run_both ms (script_calls make cs (run v ms)) v, run_both ns (script_calls make ds (run w ns)) w) ((same, rest.0), rest.1))

pub isolated_by_view : IsolatedByView
isolated_by_view S make v w cs ds sv sw same commands qv qw =
    let m = met S make cs ds commands v w sv sw same qv qw in
    (commands_side_by_side S make v w cs ds sv sw commands m.0, m.1)

-- the others' quiet calls leave the view of S as it was
quiet_unmoved : (S : ℕ → Bool) (make : Maker) (cs : List CommandLine) (w : World) → Sound w → QuietCommands S make cs w → UnmovedCommands S make cs w
quiet_unmoved S make [] w sound quiet = tt
quiet_unmoved S make (c ∷ cs) w sound quiet =
    let ms = command_calls make c w in
    let each = quiet_both S ms (script_calls make cs (run w ms)) w quiet in (
      λ other. (isolated S w w [] ms sound sound (SameView-refl S w) (sym (none_of S make c.task other (program_of (action_of c)) w)) tt each.0).1,
      quiet_unmoved S make cs (run w ms) (run_sound ms w sound) each.1,
    )

pub isolated_commands : IsolatedCommands
isolated_commands S make v w cs ds sv sw same commands qv qw =
    isolated_by_view S make v w cs ds sv sw same commands (quiet_unmoved S make cs v sv qv) (quiet_unmoved S make ds w sw qw)

-- a set's own commands leave out the others'
own_unmoved : (S : ℕ → Bool) (make : Maker) (cs : List CommandLine) (w : World) → UnmovedCommands S make (commands_by S cs) w
own_unmoved S make [] w = tt
own_unmoved S make (c ∷ cs) w = go (S c.task) refl (own_unmoved S make cs)
  where
    go : (b : Bool) → S c.task ≡ b → ((x : World) → UnmovedCommands S make (commands_by S cs) x) → UnmovedCommands S make (commands_by S (c ∷ cs)) w
    go true ours rest = rw ours (λ other. absurd (true≢false (sym ours ∙ other)), rest (run w (command_calls make c w)))
    go false other rest = rw other (rest w)

-- and taking them twice is taking them once
own_twice : (S : ℕ → Bool) (cs : List CommandLine) → commands_by S (commands_by S cs) ≡ commands_by S cs
own_twice S [] = refl
own_twice S (c ∷ cs) = go (S c.task) refl (own_twice S cs)
  where
    go : (b : Bool) → S c.task ≡ b → commands_by S (commands_by S cs) ≡ commands_by S cs → commands_by S (commands_by S (c ∷ cs)) ≡ commands_by S (c ∷ cs)
    go true ours rest = rw (ours, ours) (ap (λ (es : List CommandLine). c ∷ es) rest)
    go false other rest = rw other rest

pub as_without_others : AsWithoutOthers
as_without_others S make w cs sound still =
    (isolated_by_view S make w w cs (commands_by S cs) sound sound (SameView-refl S w) (sym (own_twice S cs)) still (own_unmoved S make cs w)).0

-- what S is told of a common beginning is the same
behind : (S : ℕ → Bool) (make : Maker) (before cs ds : List CommandLine) (w : World)
    → told_to S make cs (world_after make before w) ≡ told_to S make ds (world_after make before w)
    → told_to S make (before ++ cs) w ≡ told_to S make (before ++ ds) w
behind S make [] cs ds w same = same
behind S make (c ∷ before) cs ds w same =
    let x = run w (command_calls make c w) in
    let later = rw (run_both (command_calls make c w) (script_calls make before x) w) at same in
    ap (λ (ps : List Answer). if S c.task then command_part make c w ∷ ps else ps) (behind S make before cs ds x later)

begun_alike : (S : ℕ → Bool) (make : Maker) (before cs ds : List CommandLine) (w : World) → Sound w → commands_by S cs ≡ commands_by S ds
    → QuietCommands S make cs (world_after make before w) → QuietCommands S make ds (world_after make before w)
    → told_to S make (before ++ cs) w ≡ told_to S make (before ++ ds) w
begun_alike S make before cs ds w sound commands qc qd =
    let x = world_after make before w in
    let still = run_sound (script_calls make before w) w sound in
    let told = isolated_commands S make x x cs ds still still (SameView-refl S x) commands qc qd in
    behind S make before cs ds w (sym (told_parts S make cs x) ∙ (told.0 ∙ told_parts S make ds x))

pub isolated_scripts : IsolatedScripts
isolated_scripts S make m script other before cs ds begins users ours theirs commands qc qd =
    let w = first_world m (users_of script) in
    let to : List IdSets → List CommandLine → List Answer = λ us es. told_to S make es (first_world m us) in
    let there = subst (λ (us : List IdSets). QuietCommands S make ds (world_after make before (first_world m us))) (sym users) qd in
    let told = begun_alike S make before cs ds w (first_sound m (users_of script) begins) commands qc there in
    told_parts S make (commands_of script) w
    ∙ (ap (to (users_of script)) ours
    ∙ (told ∙ (ap₂ to users (sym theirs) ∙ sym (told_parts S make (commands_of other) (first_world m (users_of other))))))
