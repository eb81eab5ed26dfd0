-- What is done with an answer at a stage.
use Rattle.std.proofs.Common.{◌≡◌, ◌⊎◌, inl, inr, ℕ, List, Some, None, Result, Ok, Err, IsSome, refl}
use Rattle.hurd_creds.specs.declared.errno.Errno.{Errno}
use Rattle.hurd_creds.specs.declared.errno.Errno.TheVariants.{ENOENT}
use Rattle.hurd_trans_iface.specs.Meaning.{Meaning, Begins}
use Rattle.hurd_machine.specs.Calls.{BringsBegun, Call, box_in, call_by}
use Rattle.hurd_machine.specs.declared.call.Call.TheVariants.{Plain}
use Rattle.hurd_machine.specs.declared.call.PlainCall.TheVariants.{StartFailed}
use Rattle.hurd_world.specs.Noting.{State}
use Rattle.hurd_shell.specs.declared.fault.Stop.TheVariants.{Refused}
use Rattle.hurd_shell.specs.declared.entries.EntryWork.{EntryWork}
use Rattle.hurd_client.specs.declared.opening.Opening.{Opening}
use Rattle.hurd_shell.specs.declared.stages.Stage.{Stage}
use Rattle.hurd_shell.specs.declared.stages.Stage.TheVariants as stage
use Rattle.hurd_shell.specs.declared.stages.Work.{Work}
use Rattle.hurd_client.specs.Programs.{Prog, gives, tried, made, set_of, started, started_of, unread}
use Rattle.hurd_shell.specs.Progress.{LeadsTo, DoesAll, stopped}
use Rattle.hurd_client.specs.Looking.{start_with}
use Rattle.hurd_shell.specs.Stages.{answer_with, offer_of, read_at}
use Rattle.hurd_shell.proofs.ProgramLaws.{does_ok, leads_refl, tried_ends}

leads_of : {A : Type 0} {t : ℕ} {p : Prog A} {w x : State} (r : Result A Errno) → DoesAll t p w (stopped r) x → LeadsTo t p w (gives r) x
leads_of (Ok a) d = d.ends
leads_of (Err e) d = d.ends

does_of : {A : Type 0} {t : ℕ} {p : Prog A} {w x : State} (r : Result A Errno) → LeadsTo t p w (gives r) x → DoesAll t p w (stopped r) x
does_of (Ok a) l = record { ends = l }
does_of (Err e) l = record { ends = l }

-- a start is read of its answer
made_started : {t : ℕ} {w x : State} (c : Call) (answer : Result (Unit {0}) Errno) → DoesAll t (made c set_of) w (stopped answer) x → DoesAll t (made c started_of) w (stopped (started answer)) x
unfolding made tried
made_started c answer d = does_of (started answer) (tried_ends {p = made c set_of} {r = answer} (λ r. gives (started r)) (leads_of answer d))

-- the server was brought
pub brought : {S : Type 0} {t : ℕ} {w x : State} (f : S → Meaning) (s : Stage) (words : List (List ℕ)) (server : S) (answer : Result (Unit {0}) Errno)
    → DoesAll t (made (call_by f (offer_of s words server)) set_of) w (stopped answer) x
    → DoesAll t (answer_with s words (Some (f server))) w (stopped (read_at s answer)) x
brought f (stage.Opens o at_node) words server answer d = made_started _ answer d
brought f (stage.Enters port o name at_entry) words server answer d = made_started _ answer d
brought f (stage.Sets port setting) words server answer d = d

-- nothing is set without a server
pub refused : {A : Type 0} (t : ℕ) (e : Errno) (w : State) → DoesAll {A = A} t (gives (Err e)) w (Err (Refused e)) w
refused t e w = record { ends = leads_refl _ _ _ }

-- a start was given up
start_given_up : {t : ℕ} {w x : State} (u : Unit {0}) → DoesAll t (made (Plain StartFailed) unread) w (Ok u) x → DoesAll t (start_with None) w (Err (Refused ENOENT)) x
start_given_up u d = does_ok {r = Err (Refused ENOENT)} (λ v. gives (Err ENOENT)) d (refused _ _ _)

-- the stages where a translator is started
abbrev pub Starts : Stage → Type 0
Starts s = ((o : Opening) × (deed : Work) × (s ≡ stage.Opens o deed))
    ⊎ ((port : ℕ) × (o : Opening) × (name : List ℕ) × (deed : EntryWork) × (s ≡ stage.Enters port o name deed))

-- the start of a stage was given up
pub without_start : {t : ℕ} {w x : State} (s : Stage) (words : List (List ℕ)) → Starts s → (u : Unit {0}) → DoesAll t (made (Plain StartFailed) unread) w (Ok u) x
    → DoesAll t (answer_with s words None) w (Err (Refused ENOENT)) x
without_start (stage.Opens o deed) words starts u d = start_given_up u d
without_start (stage.Enters port o name deed) words starts u d = start_given_up u d
without_start (stage.Sets port setting) words (inl (o, deed, same)) u d = absurd (cc)
without_start (stage.Sets port setting) words (inr (q, o, name, deed, same)) u d = absurd (cc)

-- the server that is brought was begun with some words
pub offer_begun : {S : Type 0} (f : S → Meaning) (s : Stage) (words : List (List ℕ)) (server : S) → Begins (f server) → BringsBegun (call_by f (offer_of s words server))
offer_begun f (stage.Opens o at_node) words server begun = begun
offer_begun f (stage.Enters port o name at_entry) words server begun = begun
offer_begun f (stage.Sets port setting) words server begun = begun

offer_box : {S : Type 0} (s : Stage) (words : List (List ℕ)) (server : S) → box_in (offer_of s words server) ≡ Some server
offer_box (stage.Opens o at_node) words server = refl
offer_box (stage.Enters port o name at_entry) words server = refl
offer_box (stage.Sets port setting) words server = refl

-- a server is brought
pub offer_brings : {S : Type 0} (s : Stage) (words : List (List ℕ)) (server : S) → IsSome (box_in (offer_of s words server))
offer_brings (stage.Opens o at_node) words server = refl
offer_brings (stage.Enters port o name at_entry) words server = refl
offer_brings (stage.Sets port setting) words server = refl

-- the server that comes back is the one that was brought
pub offer_back : {S : Type 0} (s : Stage) (words : List (List ℕ)) (server back : S) → box_in (offer_of s words server) ≡ Some back → back ≡ server
offer_back s words server back came = let brought = offer_box s words server in cc
