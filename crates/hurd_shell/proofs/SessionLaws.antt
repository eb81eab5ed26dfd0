-- What a session has still to tell.
use Rattle.std.proofs.Common.{◌≡◌, ◌≢◌, ◌≤◌, ◌<◌, ◌+◌, ◌&&◌, ℕ, zero, suc, true, List, [], ◌∷◌, length, drop, get_or, slice_get, Option, Some, Result, Ok, Err, nat_lt, refl, sym, ◌∙◌, ap, subst, arith}
use Rattle.std.specs.Prelude.{IfOk, OnOk}
use Rattle.std.specs.Option.{option_map}
use Rattle.std.proofs.lemmas.Bool.{and_parts, lt-ltb, ltb-true}
use Rattle.std.proofs.lemmas.List.{drop_all}
use Rattle.hurd_creds.specs.declared.errno.Errno.{Errno}
use Rattle.hurd_words.specs.declared.answers.Answer.{Answer}
use Rattle.hurd_trans_iface.specs.Meaning.{Meaning}
use Rattle.hurd_machine.specs.World.{World}
use Rattle.hurd_machine.specs.Sound.{Sound}
use Rattle.hurd_laws.specs.Step.{reply_of, after}
use Rattle.hurd_world.specs.Held.{Whole, state_of, world_of}
use Rattle.hurd_world.specs.Noting.{State, NotesWhatIsTouched}
use Rattle.hurd_script.specs.Commands.{CommandLine}
use Rattle.hurd_shell.specs.declared.commands.Printed.{Printed}
use Rattle.hurd_shell.specs.declared.fault.Stop.{Stop}
use Rattle.hurd_shell.specs.declared.fault.Stop.TheVariants.{Refused, Memory}
use Rattle.hurd_shell.specs.declared.phase.Phase.{Phase}
use Rattle.hurd_shell.specs.declared.phase.Phase.TheVariants as phase
use Rattle.hurd_shell.specs.declared.session.Want.{Want}
use Rattle.hurd_shell.specs.declared.stages.Progress.{Progress}
use Rattle.hurd_shell.specs.declared.stages.Progress.TheVariants.{Ended}
use Rattle.hurd_shell.specs.declared.stages.Progress.TheVariants as progress
use Rattle.hurd_shell.specs.declared.stages.Stage.{Stage}
use Rattle.hurd_shell.specs.declared.stages.Stage.TheVariants.{Opens, Enters, Sets}
use Rattle.hurd_shell.specs.declared.stages.Waiting.{Waiting}
use Rattle.hurd_shell.specs.declared.transcript.Turn.{Turn}
use Rattle.hurd_shell.specs.declared.transcript.Turn.TheVariants.{Told, Waits}
use Rattle.hurd_client.specs.Programs.{Prog, gives, calls, asks, bind, on_ok}
use Rattle.hurd_shell.specs.Programs.{Pause, go}
use Rattle.hurd_shell.specs.Progress.{DoesAll, LeadsTo, Reaches, stopped}
use Rattle.hurd_shell.specs.Stages.{answer_with, progress_on, stage_behind, waiting_on}
use Rattle.hurd_shell.specs.Session.{Answers, HangsTogether, Takes, Tells, View, command_on, is_failed, left_in, left_of, waits_by}
use Rattle.hurd_shell.specs.Transcript.{Dialogue, ends, tells, dialogue, part_by, answer_to, played, AsksFor}
use Rattle.hurd_shell.specs.Turns.{Stands, turn_of, turn_on}
use Rattle.hurd_shell.proofs.ProgramLaws.{go-asks, go-gives, tried_leads}
use Rattle.hurd_shell.proofs.LookLaws.{held_leads}
use Rattle.hurd_shell.proofs.SoundLaws.{does_sound, stop_sound}

played_goes : {A : Type 0} (t : ℕ) (p : Prog A) (w : World) (next : Result A Errno → World → Dialogue) → played t p w next ≡ played t (go t p w).rest (go t p w).world next
unfolding go played
played_goes t (gives r) w next = refl
played_goes t (calls c k) w next = played_goes t (k (reply_of w t c)) (after w t c) next
played_goes t (asks words k) w next = refl

-- a program that comes to another tells what that tells
pub leads_played : {A : Type 0} {t : ℕ} {p q : Prog A} {w x : State} (next : Result A Errno → World → Dialogue) → LeadsTo t p w q x → played t p w.world next ≡ played t q x.world next
leads_played {A} {t} {p} {q} {w} {x} next l =
    played_goes t p w.world next ∙ (ap (λ (z : Pause A). played t z.rest z.world next) l.goes ∙ sym (played_goes t q x.world next))

played_gives : {A : Type 0} (t : ℕ) (r : Result A Errno) (w : World) (next : Result A Errno → World → Dialogue) → played t (gives r) w next ≡ next r w
unfolding played
played_gives t r w next = refl

-- what is told after a command
abbrev behind : CommandLine → (World → Dialogue) → Result Printed Errno → World → Dialogue
behind c next r x = tells (part_by c (answer_to c r) x) (next x)

ended : (c : CommandLine) (p : Prog Printed) (w x : State) (r : Result Printed Errno) (turn : Turn) (next : World → Dialogue)
    → LeadsTo c.task p w (gives r) x → Some turn ≡ Some (Told (answer_to c r)) → played c.task p w.world (behind c next) ≡ turn_on c next turn x.world
ended c p w x r turn next l same =
    let told : turn ≡ Told (answer_to c r) = cc in
    rw told (leads_played (behind c next) l ∙ played_gives c.task r x.world (behind c next))

-- a command that came to its end, or waits for a server, tells what is left to tell after that turn
pub turned : (c : CommandLine) (p : Prog Printed) (w x : State) (r : Result Progress Stop) (turn : Turn) → Reaches c.task p w progress_on r x → Some turn ≡ turn_of c r
    → (next : World → Dialogue) → played c.task p w.world (λ r y. tells (part_by c (answer_to c r) y) (next y)) ≡ turn_on c next turn x.world
turned c p w x (Ok (Ended printed)) turn d same next = ended c p w x (Ok printed) turn next d.reaches same
turned c p w x (Ok (progress.Waits waiting)) turn d same next =
    let waits : turn ≡ Waits waiting = cc in
    rw waits (leads_played (behind c next) d.reaches)
turned c p w x (Err (Refused e)) turn d same next = ended c p w x (Err e) turn next d.reaches same
turned c p w x (Err Memory) turn d same next = absurd (cc)

-- and its world hangs together
pub turned_sound : (c : CommandLine) (p : Prog Printed) (w x : State) (r : Result Progress Stop) (turn : Turn) → Reaches c.task p w progress_on r x → Some turn ≡ turn_of c r
    → Sound w.world → Sound x.world
turned_sound c p w x (Ok (Ended printed)) turn d same s = stop_sound (go-gives _ _ _) d.reaches s
turned_sound c p w x (Ok (progress.Waits waiting)) turn d same s = stop_sound (go-asks _ _ _ _) d.reaches s
turned_sound c p w x (Err (Refused e)) turn d same s = stop_sound (go-gives _ _ _) d.reaches s
turned_sound c p w x (Err Memory) turn d same s = absurd (cc)

one_more : (k : ℕ) → k + 1 ≡ suc k
one_more k = omega arith

from_here : (cs : List CommandLine) (k : ℕ) (c : CommandLine) → k < length cs → c ≡ get_or cs k c → drop k cs ≡ c ∷ drop (suc k) cs
from_here [] k c within here = absurd (omega arith)
from_here (d ∷ cs) zero c within here = ap (λ (x : CommandLine). x ∷ cs) (sym here)
from_here (d ∷ cs) (suc k) c within here = from_here cs k c (omega arith) here

got_here : (cs : List CommandLine) (k : ℕ) (c : CommandLine) → k < length cs → c ≡ get_or cs k c → slice_get cs k ≡ Some c
got_here [] k c within here = absurd (omega arith)
got_here (d ∷ cs) zero c within here = ap Some (sym here)
got_here (d ∷ cs) (suc k) c within here = got_here cs k c (omega arith) here

-- the command that a session is at, and those after it
pub at_command : (cs : List CommandLine) (k : ℕ) (c : CommandLine) → k < length cs → c ≡ get_or cs k c → drop k cs ≡ c ∷ drop (k + 1) cs
at_command cs k c within here = from_here cs k c within here ∙ ap (λ (n : ℕ). c ∷ drop n cs) (sym (one_more k))

-- what is told of commands that none is begun of
pub between : (cs : List CommandLine) (w : World) → left_of phase.Between cs w ≡ dialogue cs w
unfolding dialogue
between [] w = refl
between (c ∷ cs) w = refl

-- no command is left
pub none_left : (phase : Phase) (cs : List CommandLine) (k : ℕ) (w : World) → length cs ≤ k → left_of phase (drop k cs) w ≡ ends
none_left phase cs k w all = ap (λ (ds : List CommandLine). left_of phase ds w) (drop_all k cs all)

-- what a session has to tell is what its turn comes to
pub turn_left : (at : Phase) (cs : List CommandLine) (k : ℕ) (c : CommandLine) (w x : World) (turn : Turn) → k < length cs → c ≡ get_or cs k c
    → ((next : World → Dialogue) → played c.task (command_on at c) w (λ r y. tells (part_by c (answer_to c r) y) (next y)) ≡ turn_on c next turn x)
    → left_of at (drop k cs) w ≡ turn_on c (dialogue (drop (k + 1) cs)) turn x
turn_left at cs k c w x turn within here same = ap (λ (ds : List CommandLine). left_of at ds w) (at_command cs k c within here) ∙ same (dialogue (drop (k + 1) cs))

-- a part is told, and the commands after are left
pub part_told : (c : CommandLine) (cs : List CommandLine) (answer : Answer) (x : World) → turn_on c (dialogue cs) (Told answer) x ≡ tells (part_by c answer x) (left_of phase.Between cs x)
part_told c cs answer x = ap (tells (part_by c answer x)) (sym (between cs x))

-- a server is waited for, and the command is left with those after
pub waits_left : (cs : List CommandLine) (k : ℕ) (c : CommandLine) (waiting : Waiting) (x : World) → k < length cs → c ≡ get_or cs k c
    → turn_on c (dialogue (drop (k + 1) cs)) (Waits waiting) x ≡ left_of (phase.Waiting waiting) (drop k cs) x
waits_left cs k c waiting x within here = ap (λ (ds : List CommandLine). left_of (phase.Waiting waiting) ds x) (sym (at_command cs k c within here))

-- the words of the server that is waited for
pub waits_asks : (c : CommandLine) (next : World → Dialogue) (waiting : Waiting) (x : World) → AsksFor (turn_on c next (Waits waiting) x) waiting.words
unfolding played
waits_asks c next waiting x = refl

bind_leads : {A B : Type 0} {t : ℕ} {p q : Prog A} {w x : State} (k : A → Prog B) → LeadsTo t p w q x → LeadsTo t (bind p k) w (bind q k) x
unfolding bind
bind_leads k l = tried_leads (on_ok k) l

behind_leads : {t : ℕ} {w x : State} (stage : Stage) (p q : Prog (Unit {0})) → LeadsTo t p w q x → LeadsTo t (stage_behind stage p) w (stage_behind stage q) x
behind_leads (Opens o work) p q l = bind_leads _ (held_leads o.way.held.items (bind_leads _ l))
behind_leads (Enters port o name work) p q l = tried_leads _ (bind_leads _ (held_leads o.way.held.items (bind_leads _ l)))
behind_leads (Sets port setting) p q l = tried_leads _ (bind_leads _ l)

does_leads : {A : Type 0} {t : ℕ} {p : Prog A} {w x : State} (answer : Result A Errno) → DoesAll t p w (stopped answer) x → LeadsTo t p w (gives answer) x
does_leads (Ok a) d = d.ends
does_leads (Err e) d = d.ends

answers_wanted : (c : CommandLine) (next : Result Printed Errno → World → Dialogue) (waiting : Waiting) (server : Option Meaning) (w : World) (left : Dialogue)
    → left ≡ played c.task (stage_behind waiting.stage (answer_with waiting.stage waiting.words server)) w next
    → Answers (played c.task (waiting_on waiting) w next) server left
unfolding played
answers_wanted c next waiting server w left same = same

answered_left : (c : CommandLine) (ds : List CommandLine) (waiting : Waiting) (server : Option Meaning) (stage : Stage) (answer : Result (Unit {0}) Errno) (w x : State)
    → stage ≡ waiting.stage → DoesAll c.task (answer_with waiting.stage waiting.words server) w (stopped answer) x
    → Answers (left_of (phase.Waiting waiting) (c ∷ ds) w.world) server (left_of (phase.Answered stage answer) (c ∷ ds) x.world)
answered_left c ds waiting server stage answer w x same d =
    rw same
    (answers_wanted c (behind c (dialogue ds)) waiting server w.world _
    (sym (leads_played (behind c (dialogue ds)) (behind_leads waiting.stage _ (gives answer) (does_leads answer d)))))

-- a session that was answered has to tell what follows the answer
pub answered : (cs : List CommandLine) (k : ℕ) (c : CommandLine) (waiting : Waiting) (server : Option Meaning) (stage : Stage) (answer : Result (Unit {0}) Errno) (w x : State)
    → k < length cs → c ≡ get_or cs k c → stage ≡ waiting.stage → DoesAll c.task (answer_with waiting.stage waiting.words server) w (stopped answer) x
    → Answers (left_of (phase.Waiting waiting) (drop k cs) w.world) server (left_of (phase.Answered stage answer) (drop k cs) x.world)
answered cs k c waiting server stage answer w x within here same d =
    subst (λ (ds : List CommandLine). Answers (left_of (phase.Waiting waiting) ds w.world) server (left_of (phase.Answered stage answer) ds x.world)) (sym (at_command cs k c within here))
    (answered_left c (drop (k + 1) cs) waiting server stage answer w x same d)

-- a session that waited for a server takes an answer
pub took : {S : Type 0} (f : S → Meaning) (world left : Whole S) (commands : List CommandLine) (given : ℕ) (at : Phase) (c : CommandLine) (waiting : Waiting)
    (server : Option Meaning) (stage : Stage) (answer : Result (Unit {0}) Errno)
    → at ≡ phase.Waiting waiting → (waits_by at && nat_lt given (length commands)) ≡ true → c ≡ get_or commands given c → stage ≡ waiting.stage
    → DoesAll c.task (answer_with waiting.stage waiting.words server) (state_of f world) (stopped answer) (state_of f left)
    → Takes f (record { world = world; commands = commands; given = given; phase = at }) server
    (record { world = left; commands = commands; given = given; phase = phase.Answered stage answer })
took f world left commands given at c waiting server stage answer is waits here same d =
    let within : given < length commands = ltb-true _ _ (and_parts _ _ waits).1 in (
      subst (λ (q : Phase). Answers (left_of q (drop given commands) (world_of f world)) server (left_of (phase.Answered stage answer) (drop given commands) (world_of f left))) (sym is)
          (answered commands given c waiting server stage answer (state_of f world) (state_of f left) within here same d),
      waits,
      refl,
      refl,
      refl,
      refl,
    )

-- and its world hangs together
pub took_sound : {S : Type 0} (f : S → Meaning) (world left : Whole S) (commands : List CommandLine) (given : ℕ) (at : Phase) (t : ℕ) (waiting : Waiting)
    (server : Option Meaning) (stage : Stage) (answer : Result (Unit {0}) Errno)
    → at ≡ phase.Waiting waiting → DoesAll t (answer_with waiting.stage waiting.words server) (state_of f world) (stopped answer) (state_of f left)
    → HangsTogether f (record { world = world; commands = commands; given = given; phase = at })
    → HangsTogether f (record { world = left; commands = commands; given = given; phase = phase.Answered stage answer })
took_sound f world left commands given at t waiting server stage answer is d hangs = λ fine. does_sound answer d (hangs (ap is_failed is))

-- what is told of a command that came to its end, or waits for a server, unless memory was refused
pub told_turn : {E : Type 0} (c : CommandLine) (p : Prog Printed) (w x : State) (r : Result Progress Stop) (told : Result Turn E) → Reaches c.task p w progress_on r x
    → IfOk told (λ turn. Some turn ≡ turn_of c r)
    → IfOk told (λ turn. (next : World → Dialogue) → played c.task p w.world (λ r y. tells (part_by c (answer_to c r) y) (next y)) ≡ turn_on c next turn x.world)
told_turn c p w x r (Ok turn) d same = turned c p w x r turn d same
told_turn c p w x r (Err e) d same = tt

pub told_sound : {E : Type 0} (c : CommandLine) (p : Prog Printed) (w x : State) (r : Result Progress Stop) (told : Result Turn E) → Reaches c.task p w progress_on r x
    → IfOk told (λ turn. Some turn ≡ turn_of c r) → Sound w.world → OnOk told (Sound x.world)
told_sound c p w x r (Ok turn) d same s = turned_sound c p w x r turn d same s
told_sound c p w x r (Err e) d same s = tt

-- and so it does where an answer was taken
pub took_stays : {A : Type 0} {t : ℕ} {p : Prog A} {w x : State} (answer : Result A Errno) → DoesAll t p w (stopped answer) x → NotesWhatIsTouched w x
took_stays answer d = (does_leads answer d).stays

-- what a session gives after a turn
pub told_next : {S : Type 0} (f : S → Meaning) (world left : Whole S) (commands : List CommandLine) (given after : ℕ) (at next : Phase) (c : CommandLine) (turn : Turn) (want : Want)
    → given < length commands → c ≡ get_or commands given c
    → ((n : World → Dialogue) → played c.task (command_on at c) (world_of f world) (λ r y. tells (part_by c (answer_to c r) y) (n y)) ≡ turn_on c n turn (world_of f left))
    → Stands turn (given + 1) given want after next
    → Tells f (record { world = world; commands = commands; given = given; phase = at }) (Ok want)
    (record { world = left; commands = commands; given = after; phase = next })
told_next f world left commands given after at next c (Told text) want within here same s =
    rw (s.0, s.1, s.2)
    (record {
      task = c.task;
      next = ap (option_map (λ (d : CommandLine). d.task)) (got_here commands given c within here);
      left = turn_left at commands given c _ _ (Told text) within here same ∙ part_told c _ text _;
      fine = refl;
      waits = refl;
      given = refl;
    })
told_next f world left commands given after at next c (Waits waiting) want within here same s =
    let turned = turn_left at commands given c _ (world_of f left) (Waits waiting) within here same in
    rw (s.0, s.1, s.2) (
      sym (turned ∙ waits_left commands given c waiting (world_of f left) within here),
      subst (λ (d : Dialogue). AsksFor d waiting.words) (sym turned) (waits_asks c (dialogue (drop (given + 1) commands)) waiting (world_of f left)),
      refl,
      lt-ltb _ _ within,
      refl,
      refl,
    )

-- what is told of a command is never the end
never_ends : {A : Type 0} (t : ℕ) (p : Prog A) (w : World) (next : Result A Errno → World → Dialogue) → ((r : Result A Errno) (x : World) → next r x ≢ ends) → played t p w next ≢ ends
unfolding played
never_ends t (gives r) w next more e = more r w e
never_ends t (calls c k) w next more e = never_ends t (k (reply_of w t c)) (after w t c) next more e
never_ends t (asks words k) w next more e = absurd (cc (e))

-- so where a command is left, something is left to tell
pub left_on : (phase : Phase) (cs : List CommandLine) (k : ℕ) (w : World) → k < length cs → left_of phase (drop k cs) w ≢ ends
left_on phase [] k w less e = absurd (omega (arith, less))
left_on phase (c ∷ cs) zero w less e = never_ends c.task (command_on phase c) w (λ r x. tells (part_by c (answer_to c r) x) (dialogue cs x)) (λ r x told. absurd (cc (told))) e
left_on phase (c ∷ cs) (suc k) w less e = left_on phase cs k w (omega (arith, less)) e

-- a session that has a command left has something left to tell
pub not_done : {S : Type 0} (f : S → Meaning) (v now : View S) → v ≡ now → v.given < length v.commands → left_in f now ≡ ends → ⊥
not_done {S} f v now is less at_end =
    left_on v.phase v.commands v.given (world_of f v.world) less (subst (λ (s : View S). left_in f s ≡ ends) (sym is) at_end)
