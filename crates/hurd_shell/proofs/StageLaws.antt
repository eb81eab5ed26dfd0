-- A command's stages: what it comes to where its nodes are opened, worked on and given up.
use Rattle.std.proofs.Common.{◌≡◌, ℕ, ◌&&◌, Bool, true, false, List, [], None, Result, Ok, Err, refl, ap}
use Rattle.std.specs.Result.{IsErr, IsErrAnd}
use Rattle.hurd_creds.specs.declared.errno.Errno.{Errno}
use Rattle.hurd_trans_iface.specs.Nodes.{has_words}
use Rattle.hurd_machine.specs.declared.call.Call.TheVariants.{Plain}
use Rattle.hurd_machine.specs.declared.call.PlainCall.TheVariants.{PortDeallocate}
use Rattle.hurd_machine.specs.declared.call.Setting.{Setting}
use Rattle.hurd_world.specs.Noting.{State}
use Rattle.hurd_world.proofs.NotingLaws.{notes_refl}
use Rattle.hurd_script.specs.declared.command.Action.{Action}
use Rattle.hurd_shell.specs.declared.commands.Printed.{Printed}
use Rattle.hurd_shell.specs.declared.entries.EntryWork.{EntryWork}
use Rattle.hurd_shell.specs.declared.fault.Stop.{Stop}
use Rattle.hurd_shell.specs.declared.fault.Stop.TheVariants.{Refused, Memory}
use Rattle.hurd_client.specs.declared.opening.Opening.{Opening}
use Rattle.hurd_shell.specs.declared.looking.Reached.TheVariants as reached
use Rattle.hurd_shell.specs.declared.stages.Progress.{Progress}
use Rattle.hurd_shell.specs.declared.stages.Progress.TheVariants as progress
use Rattle.hurd_shell.specs.declared.stages.Stage.TheVariants as stage
use Rattle.hurd_shell.specs.declared.stages.Work.{Work}
use Rattle.hurd_shell.specs.declared.stages.Work.TheVariants as work
use Rattle.hurd_client.specs.Programs.{Prog, gives, tried, bind, on_ok, made, closing, unread}
use Rattle.hurd_shell.specs.Commands.{prints, program_of, set, setting_with, silent}
use Rattle.hurd_shell.specs.Progress.{DoesAll, ReachesTo, Reaches}
use Rattle.hurd_shell.specs.Stages.{entry_work_of, progress_on, reached_on, work_of}
use Rattle.hurd_shell.proofs.ProgramLaws.{does_close, does_gives, does_ok, leads_reaches, leads_refl, tried_ends, tried_leads}

-- a command came to its end
pub ended : {t : ℕ} {p : Prog Printed} {printed : Printed} {w x : State} → DoesAll t p w (Ok printed) x → Reaches t p w progress_on (Ok (progress.Ended printed)) x
ended d = record { reaches = d.ends }

stopped_reaches : {A B : Type 0} (t : ℕ) (p : Prog A) (w x : State) (left : B → Prog A) (s : Stop) → DoesAll {A = A} t p w (Err s) x → ReachesTo {B = B} t p w left (Err s) x
stopped_reaches t p w x left (Refused e) d = d.ends
stopped_reaches t p w x left Memory d = tt

-- out by `?`: a program was refused
pub stops : {A B : Type 0} {t : ℕ} {p : Prog A} {s : Stop} {r : Result B Stop} {w x : State} {left : B → Prog A} → IsErr r × IsErrAnd r (λ e. e ≡ s) → DoesAll {A = A} t p w (Err s) x → Reaches t p w left r x
stops {r = Ok b} gone d = absurd gone.1
stops {r = Err e} {left = left} gone d = record { reaches = rw gone.1 (stopped_reaches _ _ _ _ left _ d) }

-- a refusal is the end
pub does_refuse : {A : Type 0} (t : ℕ) (e : Errno) (w : State) → DoesAll {A = A} t (gives (Err e)) w (Err (Refused e)) w
does_refuse t e w = record { ends = leads_refl _ _ _ }

-- the first of two programs is refused, and so are both
pub err_does : {A B : Type 0} {t : ℕ} {p : Prog A} {w x : State} (k : A → Prog B) (s : Stop) → DoesAll {A = A} t p w (Err s) x → DoesAll {A = B} t (bind p k) w (Err s) x
unfolding bind
err_does k (Refused e) d = record { ends = tried_ends (on_ok k) d.ends }
err_does k Memory d = record { ends = tt }

-- out by `?`: an opening was refused
pub reaches_err : {A B C D : Type 0} {t : ℕ} {p : Prog A} {s : Stop} {r : Result D Stop} {w x : State} {left : C → Prog A} {next : D → Prog B} (k : A → Prog B)
    → IsErr r × IsErrAnd r (λ e. e ≡ s) → Reaches {B = C} t p w left (Err s) x → Reaches t (bind p k) w next r x
reaches_err {s = Refused e} {next = next} k gone d = stops gone (err_does k (Refused e) (record { ends = d.reaches }))
reaches_err {s = Memory} {next = next} k gone d = stops gone (err_does k Memory (record { ends = tt }))

-- a program stops somewhere while a port is held, and the rest of the code goes on from there
pub reaches_inside : {A B C D : Type 0} {t : ℕ} {p : Prog A} {left : C → Prog A} {at : C} {next : D → Prog B} {r : Result D Stop} {w x y : State} (port : ℕ) (k : A → Prog B)
    → Reaches t p w left (Ok at) x → Reaches t (closing port (bind (left at) k)) x next r y → Reaches t (closing port (bind p k)) w next r y
unfolding bind
reaches_inside {p = p} {left = left} {at = at} port k d e = leads_reaches (tried_leads _ (tried_leads {p = p} {q = left at} (on_ok k) d.reaches)) e

-- a program is refused while a port is held, and the port is given up
pub refused_inside : {A B C D : Type 0} {t : ℕ} {p : Prog A} {left : C → Prog A} {next : D → Prog B} {r : Result D Stop} {w x y : State} (port : ℕ) (k : A → Prog B) (s : Stop)
    → Reaches {B = C} t p w left (Err s) x → ((e : Errno) → s ≡ Refused e → Reaches t (closing port (gives (Err e))) x next r y) → (s ≡ Memory → r ≡ Err Memory)
    → Reaches t (closing port (bind p k)) w next r y
unfolding bind
refused_inside {p = p} port k (Refused e) d refused lost = leads_reaches (tried_leads _ (tried_ends {p = p} {r = Err e} (on_ok k) d.reaches)) (refused e refl)
refused_inside {next = next} port k Memory d refused lost = rw (lost refl) (record { reaches = tt })

-- what is after an opened node goes on
pub goes_on : {A B D : Type 0} {t : ℕ} {next : D → Prog B} {r : Result D Stop} {w x : State} (a : A) (k : A → Prog B) → Reaches t (k a) w next r x → Reaches t (bind (gives (Ok a)) k) w next r x
unfolding bind tried
goes_on a k d = d

-- the same while a port is held
pub goes_on_inside : {A B D : Type 0} {t : ℕ} {next : D → Prog B} {r : Result D Stop} {w x : State} (port : ℕ) (a : A) (k : A → Prog B)
    → Reaches t (closing port (k a)) w next r x → Reaches t (closing port (bind (gives (Ok a)) k)) w next r x
unfolding bind tried
goes_on_inside port a k d = d

-- the opening of a command's node waits for a server
pub opens_waits : (t : ℕ) (w : State) (words : List (List ℕ)) (o : Opening) (deed : Work)
    → Reaches t (bind (reached_on (reached.Waits words o)) (λ q. closing q (work_of deed q))) w progress_on
    (Ok (progress.Waits (record { words = words; stage = stage.Opens o deed }))) w
unfolding bind tried
opens_waits t w words o deed = record { reaches = record { goes = refl; stays = notes_refl w } }

-- the opening of a second directory waits for a server
pub enters_waits : (t : ℕ) (w : State) (port : ℕ) (words : List (List ℕ)) (o : Opening) (name : List ℕ) (deed : EntryWork)
    → Reaches t (closing port (bind (reached_on (reached.Waits words o)) (λ q. closing q (entry_work_of deed port q name)))) w progress_on
    (Ok (progress.Waits (record { words = words; stage = stage.Enters port o name deed }))) w
unfolding bind tried
enters_waits t w port words o name deed = record { reaches = record { goes = refl; stays = notes_refl w } }

-- the setting of a translator waits for a server
sets_waits : (t : ℕ) (w : State) (port : ℕ) (setting : Setting) (words : List (List ℕ)) (active : Bool) → active ≡ true
    → Reaches t (closing port (silent (setting_with active port setting words))) w progress_on
    (Ok (progress.Waits (record { words = words; stage = stage.Sets port setting }))) w
unfolding bind tried
sets_waits t w port setting words true waits = record { reaches = record { goes = refl; stays = notes_refl w } }
sets_waits t w port setting words false waits = absurd (cc)

-- a translator is set without a server
sets_none : {t : ℕ} {w x : State} {r : Result Progress Stop} (port : ℕ) (setting : Setting) (words : List (List ℕ)) (active : Bool) → active ≡ false
    → Reaches t (closing port (silent (set port setting words None))) w progress_on r x
    → Reaches t (closing port (silent (setting_with active port setting words))) w progress_on r x
sets_none port setting words true none d = absurd (cc)
sets_none port setting words false none d = d

-- a translator was set, and the node is given up
pub set_closed : {t : ℕ} {w x : State} (port : ℕ) (u v : Unit {0}) → DoesAll t (made (Plain (PortDeallocate port)) unread) w (Ok u) x
    → Reaches t (closing port (silent (gives (Ok v)))) w progress_on (Ok (progress.Ended (prints []))) x
set_closed port u v d = ended (does_close port u (does_ok {a = v} (λ z. gives (Ok (prints []))) (does_gives _ _ _) (does_gives _ _ _)) d)

-- no translator was set, and the node is given up
pub unset_closed : {t : ℕ} {w x : State} (port : ℕ) (u : Unit {0}) (e : Errno) → DoesAll t (made (Plain (PortDeallocate port)) unread) w (Ok u) x
    → Reaches {B = Progress} t (closing port (silent (gives (Err e)))) w progress_on (Err (Refused e)) x
unset_closed port u e d = record { reaches = (does_close port u (err_does (λ z. gives (Ok (prints []))) (Refused e) (does_refuse _ _ _)) d).ends }

-- what was refused is refused, and the port is given up
pub refused_closed : {t : ℕ} {w x : State} (port : ℕ) (u : Unit {0}) (e : Errno) (s : Stop) → s ≡ Refused e → DoesAll t (made (Plain (PortDeallocate port)) unread) w (Ok u) x
    → Reaches {B = Progress} t (closing port (gives (Err e))) w progress_on (Err s) x
refused_closed port u e s same d = rw same (record { reaches = (does_close port u (does_refuse _ _ _) d).ends })

-- out by `?`: memory was refused
pub lost : {A : Type 0} (r : Result A Stop) → IsErr r × IsErrAnd r (λ e. e ≡ Memory) → r ≡ Err Memory
lost (Ok a) gone = absurd gone.1
lost (Err e) gone = ap (λ (s : Stop). Err s) gone.1

both_true : (a b : Bool) → a ≡ true → b ≡ true → (a && b) ≡ true
both_true true b one other = other
both_true false b one other = absurd (cc)

-- a translator is set with a server, which is waited for
pub asks_server : (t : ℕ) (w : State) (port : ℕ) (setting : Setting) (words : List (List ℕ)) (active : Bool) → active ≡ true → has_words words ≡ true
    → Reaches t (closing port (work_of (work.Set setting words active) port)) w progress_on
    (Ok (progress.Waits (record { words = words; stage = stage.Sets port setting }))) w
asks_server t w port setting words active one other = sets_waits t w port setting words (active && has_words words) (both_true active (has_words words) one other)

-- a command begins as what it asks for
pub begins : {t task : ℕ} {r : Result Progress Stop} {w x : State} {here action : Action} → task ≡ t → here ≡ action
    → Reaches task (program_of here) w progress_on r x → Reaches t (program_of action) w progress_on r x
begins same told d = rw (← same, ← told) d

lacks_both : (a b : Bool) → a ≡ false → (a && b) ≡ false
lacks_both true b none = absurd (cc)
lacks_both false b none = refl

lacks_second : (a b : Bool) → b ≡ false → (a && b) ≡ false
lacks_second true b none = none
lacks_second false b none = refl

-- no server is asked for, since none is wanted
pub not_active : {t : ℕ} {w x : State} {r : Result Progress Stop} (port : ℕ) (setting : Setting) (words : List (List ℕ)) (active : Bool) → active ≡ false
    → Reaches t (closing port (silent (set port setting words None))) w progress_on r x
    → Reaches t (closing port (work_of (work.Set setting words active) port)) w progress_on r x
not_active port setting words active none d = sets_none port setting words (active && has_words words) (lacks_both active (has_words words) none) d

-- no server is asked for, since there are no words
pub no_words : {t : ℕ} {w x : State} {r : Result Progress Stop} (port : ℕ) (setting : Setting) (words : List (List ℕ)) (active : Bool) → has_words words ≡ false
    → Reaches t (closing port (silent (set port setting words None))) w progress_on r x
    → Reaches t (closing port (work_of (work.Set setting words active) port)) w progress_on r x
no_words port setting words active none d = sets_none port setting words (active && has_words words) (lacks_second active (has_words words) none) d
