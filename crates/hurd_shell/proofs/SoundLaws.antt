-- A world that hangs together stays so along a program.
use Rattle.std.proofs.Common.{ℕ, ◌≡◌, ◌∙◌, Result, Ok, Err, ap, subst}
use Rattle.hurd_creds.specs.declared.errno.Errno.{Errno}
use Rattle.hurd_machine.specs.World.{World}
use Rattle.hurd_world.specs.Noting.{State}
use Rattle.hurd_machine.specs.Sound.{Sound}
use Rattle.hurd_laws.specs.Step.{reply_of, after}
use Rattle.hurd_laws.proofs.Assembled.{stays_sound}
use Rattle.hurd_client.specs.Programs.{Prog, gives, calls, asks}
use Rattle.hurd_shell.specs.Programs.{Pause, go}
use Rattle.hurd_shell.specs.Progress.{DoesAll, LeadsTo, stopped}
use Rattle.hurd_shell.proofs.ProgramLaws.{go-gives}

pub go_sound : {A : Type 0} (t : ℕ) (p : Prog A) (w : World) → Sound w → Sound (go t p w).world
unfolding go
go_sound t (gives r) w s = s
go_sound t (calls c k) w s = go_sound t (k (reply_of w t c)) (after w t c) (stays_sound w t c s)
go_sound t (asks words k) w s = s

-- a world that a program stops in
pub stop_sound : {A : Type 0} {t : ℕ} {p q : Prog A} {w x : State} → go t q x.world ≡ record { world = x.world; rest = q } → LeadsTo t p w q x → Sound w.world → Sound x.world
stop_sound {A} {t} {p} {q} {w} {x} stops l s = subst Sound (ap (λ (z : Pause A). z.world) (l.goes ∙ stops)) (go_sound t p w.world s)

-- a world that a program that never lacks memory ends in
pub does_sound : {A : Type 0} {t : ℕ} {p : Prog A} {w x : State} (answer : Result A Errno) → DoesAll t p w (stopped answer) x → Sound w.world → Sound x.world
does_sound (Ok a) d s = stop_sound (go-gives _ (Ok a) _) d.ends s
does_sound (Err e) d s = stop_sound (go-gives _ (Err e) _) d.ends s
