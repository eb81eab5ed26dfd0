-- Openings in a world.
use Rattle.std.proofs.Common.{◌≡◌, ◌∙◌, ℕ, List, [], ◌∷◌, Result, Ok, Err, refl, ap, sym}
use Rattle.std.specs.Result.{IsErr, IsErrAnd}
use Rattle.hurd_machine.specs.Calls.{Call, Reply}
use Rattle.hurd_laws.specs.Step.{after, reply_of}
use Rattle.hurd_world.specs.Noting.{State}
use Rattle.hurd_creds.specs.declared.errno.Errno.{Errno}
use Rattle.hurd_client.specs.Programs.{Prog, calls, made, after_reply}
use Rattle.hurd_client.specs.Openings.{releasing}
use Rattle.hurd_shell.specs.Programs.{go}
use Rattle.hurd_shell.specs.Progress.{DoesAll, LeadsTo, Reaches, ReachesTo, Stepped, stopped}
use Rattle.hurd_shell.specs.declared.fault.Stop.{Stop}
use Rattle.hurd_shell.specs.declared.fault.Stop.TheVariants.{Refused, Memory}
use Rattle.hurd_shell.proofs.ProgramLaws.{made_does, tried_leads}

-- a program goes on as it does where ports are given up after it
pub held_leads : {t : ℕ} {p q : Prog ℕ} {w x : State} (held : List ℕ) → LeadsTo t p w q x → LeadsTo t (releasing held p) w (releasing held q) x
unfolding releasing
held_leads [] l = l
held_leads (port ∷ held) l = tried_leads _ (held_leads held l)

called : {A : Type 0} (t : ℕ) (c : Call) (k : Reply → Prog A) (w x : State) (r : Reply) → Stepped w t c r x → go t (calls c k) w.world ≡ go t (k r) x.world
unfolding go
called t c k w x r s = sym (ap (λ z. go t (k z.0) z.1) s.step)

-- the call that a program makes next leads to what is left of it after the reply
pub call_leads : {A : Type 0} {t : ℕ} {p q : Prog A} {w x : State} {c : Call} {k : Reply → Prog A} {r : Reply} → p ≡ calls c k → Stepped w t c r x → q ≡ after_reply p r → LeadsTo t p w q x
call_leads {A} {t} {p} {q} {w} {x} {c} {k} {r} is s left =
    let rest : q ≡ k r = left ∙ ap (λ (z : Prog A). after_reply z r) is in
    record { goes = ap (λ (z : Prog A). go t z w.world) is ∙ (called t c k w x r s ∙ ap (λ (z : Prog A). go t z x.world) (sym rest)); stays = s.stays }

stops : {A B C : Type 0} (t : ℕ) (p : Prog A) (w x : State) (left : B → Prog A) (next : C → Prog A) (s : Stop) → ReachesTo {B = B} t p w left (Err s) x → ReachesTo {B = C} t p w next (Err s) x
stops t p w x left next (Refused e) l = l
stops t p w x left next Memory l = tt

-- out by `?`: what stopped inside is stopped
pub stopped_inside : {A B C : Type 0} {t : ℕ} {p : Prog A} {w x : State} {left : B → Prog A} {next : C → Prog A} {s : Stop} {r : Result C Stop}
    → IsErr r × IsErrAnd r (λ e. e ≡ s) → Reaches {B = B} t p w left (Err s) x → Reaches t p w next r x
stopped_inside {r = Ok c} gone d = absurd gone.1
stopped_inside {left = left} {next = next} {r = Err e} gone d = record { reaches = rw gone.1 (stops _ _ _ _ left next _ d.reaches) }

-- out by `?`: a call was refused
pub made_err : {A : Type 0} {t : ℕ} {w x : State} {e : Errno} {r : Result A Stop} (c : Call) (read : Reply → Result A Errno) (reply : Reply)
    → IsErr r × IsErrAnd r (λ s. s ≡ Refused e) → Stepped w t c reply x → Err e ≡ read reply → DoesAll t (made c read) w r x
made_err {r = Ok a} c read reply gone s same = absurd gone.1
made_err {r = Err stop} c read reply gone s same = made_does c read reply s (ap (λ (z : Stop). Err z) gone.1 ∙ ap stopped same)
