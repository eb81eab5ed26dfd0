-- Programs, one after another.
use Rattle.std.proofs.Common.{◌≡◌, ℕ, List, Option, Result, Ok, Err, refl, sym, ◌∙◌, ap}
use Rattle.std.specs.Result.{IsErr, IsErrAnd}
use Rattle.hurd_creds.specs.declared.errno.Errno.{Errno}
use Rattle.hurd_trans_iface.specs.Meaning.{Meaning}
use Rattle.hurd_machine.specs.Calls.{Call, Reply}
use Rattle.hurd_machine.specs.declared.call.Call.TheVariants.{Plain}
use Rattle.hurd_machine.specs.declared.call.PlainCall.TheVariants.{PortDeallocate}
use Rattle.hurd_machine.specs.World.{World}
use Rattle.hurd_laws.specs.Step.{reply_of, after}
use Rattle.hurd_world.specs.Noting.{State, NotesWhatIsTouched}
use Rattle.hurd_world.proofs.NotingLaws.{notes_refl, notes_trans}
use Rattle.hurd_shell.specs.declared.commands.Printed.{Printed}
use Rattle.hurd_shell.specs.declared.fault.Stop.{Stop}
use Rattle.hurd_shell.specs.declared.fault.Stop.TheVariants.{Refused, Memory}
use Rattle.hurd_client.specs.Programs.{Prog, gives, calls, asks, tried, bind, on_ok, made, closing, unread}
use Rattle.hurd_shell.specs.Programs.{go, Pause}
use Rattle.hurd_shell.specs.Progress.{Stepped, LeadsTo, Ends, DoesAll, ReachesTo, Reaches, stopped}

pub leads_refl : {A : Type 0} (t : ℕ) (p : Prog A) (w : State) → LeadsTo t p w p w
leads_refl t p w = record { goes = refl; stays = notes_refl w }

pub leads_trans : {A : Type 0} {t : ℕ} {p q s : Prog A} {w x y : State} → LeadsTo t p w q x → LeadsTo t q x s y → LeadsTo t p w s y
leads_trans a b = record { goes = a.goes ∙ b.goes; stays = notes_trans a.stays b.stays }

-- a program that is at its end, and one that asks for a server
pub go-gives : {A : Type 0} (t : ℕ) (r : Result A Errno) (w : World) → go t (gives r) w ≡ record { world = w; rest = gives r }
unfolding go
go-gives t r w = refl

pub go-asks : {A : Type 0} (t : ℕ) (words : List (List ℕ)) (k : Option Meaning → Prog A) (w : World) → go t (asks words k) w ≡ record { world = w; rest = asks words k }
unfolding go
go-asks t words k w = refl

-- what is after a program goes on where that program stops
pub tried_goes : {A B : Type 0} (t : ℕ) (k : Result A Errno → Prog B) (p : Prog A) (w : World) → go t (tried p k) w ≡ go t (tried (go t p w).rest k) (go t p w).world
unfolding go tried
tried_goes t k (gives r) w = refl
tried_goes t k (calls c j) w = tried_goes t k (j (reply_of w t c)) (after w t c)
tried_goes t k (asks words j) w = refl

-- a program that comes to another comes to it in front of what is after it
pub tried_leads : {A B : Type 0} {t : ℕ} {p q : Prog A} {w x : State} (k : Result A Errno → Prog B) → LeadsTo t p w q x → LeadsTo t (tried p k) w (tried q k) x
tried_leads {A} {B} {t} {p} {q} {w} {x} k l = record {
  goes = tried_goes t k p w.world ∙ (ap (λ (z : Pause A). go t (tried z.rest k) z.world) l.goes ∙ sym (tried_goes t k q x.world));
  stays = l.stays;
}

-- the first of two programs ends, and the other goes on
pub tried_ends : {A B : Type 0} {t : ℕ} {p : Prog A} {r : Result A Errno} {w x : State} (k : Result A Errno → Prog B) → LeadsTo t p w (gives r) x → LeadsTo t (tried p k) w (k r) x
unfolding tried
tried_ends {A} {B} {t} {p} {r} {w} {x} k a = record { goes = (tried_leads {q = gives r} k a).goes; stays = a.stays }

ends_behind : {A : Type 0} (t : ℕ) (p q : Prog A) (w x y : State) (r : Result A Stop) → LeadsTo t p w q x → Ends t q x r y → Ends t p w r y
ends_behind t p q w x y (Ok a) l d = leads_trans l d
ends_behind t p q w x y (Err (Refused e)) l d = leads_trans l d
ends_behind t p q w x y (Err Memory) l d = tt

-- a program that comes to another does what that does
pub leads_does : {A : Type 0} {t : ℕ} {p q : Prog A} {w x y : State} {r : Result A Stop} → LeadsTo t p w q x → DoesAll t q x r y → DoesAll t p w r y
leads_does l d = record { ends = ends_behind _ _ _ _ _ _ _ l d.ends }

-- a program that is at its end
pub does_gives : {A : Type 0} (t : ℕ) (a : A) (w : State) → DoesAll t (gives (Ok a)) w (Ok a) w
does_gives t a w = record { ends = leads_refl t (gives (Ok a)) w }

-- along `?`: the first program is made, and the rest of the code makes the rest
pub does_ok : {A B : Type 0} {t : ℕ} {p : Prog A} {a : A} {r : Result B Stop} {w x y : State} (k : A → Prog B) → DoesAll t p w (Ok a) x → DoesAll t (k a) x r y → DoesAll t (bind p k) w r y
unfolding bind
does_ok k d e = leads_does (tried_ends (on_ok k) d.ends) e

err_ends : {A B : Type 0} (t : ℕ) (p : Prog A) (k : A → Prog B) (s : Stop) (w x : State) → DoesAll {A = A} t p w (Err s) x → Ends {A = B} t (bind p k) w (Err s) x
unfolding bind
err_ends t p k (Refused e) w x d = tried_ends (on_ok k) d.ends
err_ends t p k Memory w x d = tt

-- out by `?`: the first program is refused, and so is the whole
pub does_err : {A B : Type 0} {t : ℕ} {p : Prog A} {s : Stop} {r : Result B Stop} {w x : State} (k : A → Prog B) → IsErr r × IsErrAnd r (λ e. e ≡ s) → DoesAll t p w (Err s) x → DoesAll t (bind p k) w r x
does_err {r = Ok b} k gone d = absurd gone.1
does_err {r = Err e} k gone d = record { ends = rw gone.1 (err_ends _ _ k _ _ _ d) }

by_reply : {A : Type 0} (t : ℕ) (c : Call) (read : Reply → Result A Errno) (w x : State) (got : Result A Errno) → read (reply_of w.world t c) ≡ got → x.world ≡ after w.world t c → NotesWhatIsTouched w x
    → DoesAll t (made c read) w (stopped got) x
unfolding go made
by_reply t c read w x (Ok a) same left stays = record { ends = record { goes = rw left (ap (λ r. go t (gives r) (after w.world t c)) same); stays = stays } }
by_reply t c read w x (Err e) same left stays = record { ends = record { goes = rw left (ap (λ r. go t (gives r) (after w.world t c)) same); stays = stays } }

-- one call
pub made_does : {A : Type 0} {t : ℕ} {w x : State} {got : Result A Stop} (c : Call) (read : Reply → Result A Errno) (r : Reply)
    → Stepped w t c r x → got ≡ stopped (read r) → DoesAll t (made c read) w got x
made_does {A} {t} {w} {x} c read r s same =
    let told : r ≡ reply_of w.world t c = ap (λ z. z.0) s.step in
    rw (same, told) (by_reply t c read w x (read (reply_of w.world t c)) refl (ap (λ z. z.1) s.step) s.stays)

lost_ends : {A : Type 0} (t : ℕ) (p : Prog A) (w x : State) (r : Result A Stop) → IsErr r × IsErrAnd r (λ e. e ≡ Memory) → Ends t p w r x
lost_ends t p w x (Ok a) gone = absurd gone.1
lost_ends t p w x (Err e) gone = rw gone.1 tt

-- memory was refused
pub does_lost : {A : Type 0} {t : ℕ} {p : Prog A} {w x : State} {r : Result A Stop} → IsErr r × IsErrAnd r (λ e. e ≡ Memory) → DoesAll t p w r x
does_lost gone = record { ends = lost_ends _ _ _ _ _ gone }

closes : {t : ℕ} {x y : State} (p : Prog Printed) (w : State) (port : ℕ) (u : Unit {0}) (r : Result Printed Stop) → Ends t p w r x → DoesAll t (made (Plain (PortDeallocate port)) unread) x (Ok u) y → Ends t (closing port p) w r y
closes p w port u (Ok a) d e = leads_trans (tried_ends _ d) (does_ok {r = Ok a} (λ v. gives (Ok a)) e (does_gives _ a _)).ends
closes p w port u (Err (Refused s)) d e = leads_trans (tried_ends _ d) (does_ok {r = Err (Refused s)} (λ v. gives (Err s)) e (record { ends = leads_refl _ _ _ })).ends
closes p w port u (Err Memory) d e = tt

-- a program was made, and its port is given up
pub does_close : {t : ℕ} {p : Prog Printed} {r : Result Printed Stop} {w x y : State} (port : ℕ) (u : Unit {0}) → DoesAll t p w r x → DoesAll t (made (Plain (PortDeallocate port)) unread) x (Ok u) y → DoesAll t (closing port p) w r y
does_close port u d e = record { ends = closes _ _ port u _ d.ends e }

reaches_behind : {A B : Type 0} (t : ℕ) (p q : Prog A) (w x y : State) (left : B → Prog A) (r : Result B Stop) → LeadsTo t p w q x → ReachesTo t q x left r y → ReachesTo t p w left r y
reaches_behind t p q w x y left (Ok b) l d = leads_trans l d
reaches_behind t p q w x y left (Err (Refused e)) l d = leads_trans l d
reaches_behind t p q w x y left (Err Memory) l d = tt

-- a program that comes to another goes on as that does
pub leads_reaches : {A B : Type 0} {t : ℕ} {p q : Prog A} {w x y : State} {left : B → Prog A} {r : Result B Stop} → LeadsTo t p w q x → Reaches t q x left r y → Reaches t p w left r y
leads_reaches l d = record { reaches = reaches_behind _ _ _ _ _ _ _ _ l d.reaches }

lost_reaches : {A B : Type 0} (t : ℕ) (p : Prog A) (w x : State) (left : B → Prog A) (r : Result B Stop) → IsErr r × IsErrAnd r (λ e. e ≡ Memory) → ReachesTo t p w left r x
lost_reaches t p w x left (Ok b) gone = absurd gone.1
lost_reaches t p w x left (Err e) gone = rw gone.1 tt

-- memory was refused
pub reaches_lost : {A B : Type 0} {t : ℕ} {p : Prog A} {w x : State} {left : B → Prog A} {r : Result B Stop} → IsErr r × IsErrAnd r (λ e. e ≡ Memory) → Reaches t p w left r x
reaches_lost gone = record { reaches = lost_reaches _ _ _ _ _ _ gone }

-- along `?`: the first program stops somewhere, and the rest of the code goes on from there
pub reaches_ok : {A B C : Type 0} {t : ℕ} {p : Prog A} {left : C → Prog A} {c : C} {D : Type 0} {next : D → Prog B} {r : Result D Stop} {w x y : State} (k : A → Prog B)
    → Reaches t p w left (Ok c) x → Reaches t (bind (left c) k) x next r y → Reaches t (bind p k) w next r y
unfolding bind
reaches_ok k d e = leads_reaches (tried_leads (on_ok k) d.reaches) e
