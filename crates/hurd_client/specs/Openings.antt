-- What an opening does from where it is, as a program.
use Rattle.std.specs.Prelude.{◌≡◌, ◌<◌, ℕ, ◌+◌, ◌*◌, List, [], ◌∷◌, Option, Some, None, Result, Err, length}
use Rattle.hurd_creds.specs.declared.errno.Errno.{Errno}
use Rattle.hurd_creds.specs.declared.errno.Errno.TheVariants.{ENOENT}
use Rattle.hurd_trans_iface.specs.Meaning.{Meaning}
use Rattle.hurd_machine.specs.Calls.{Reply}
use Rattle.hurd_machine.specs.declared.call.Call.TheVariants.{Plain}
use Rattle.hurd_machine.specs.declared.call.PlainCall.{PlainCall}
use Rattle.hurd_machine.specs.declared.call.PlainCall.TheVariants.{DirLookup, IoReauthenticate, PortDeallocate}
use Rattle.hurd_client.specs.declared.opening.NextCall.{NextCall}
use Rattle.hurd_client.specs.declared.opening.NextCall.TheVariants as call
use Rattle.hurd_client.specs.declared.opening.Next.{Next}
use Rattle.hurd_client.specs.declared.opening.Next.TheVariants as next
use Rattle.hurd_client.specs.declared.opening.Opening.{Opening}
use Rattle.hurd_client.specs.declared.opening.Step.{Step}
use Rattle.hurd_client.specs.declared.opening.Step.TheVariants.{LooksUp, Reauthenticates, Ends}
use Rattle.hurd_client.specs.declared.opening.Turn.{Turn}
use Rattle.hurd_client.specs.declared.opening.Turn.TheVariants.{Onward, Starts}
use Rattle.hurd_client.specs.Looking.{Opener, look, start_with}
use Rattle.hurd_client.specs.Programs.{Prog, gives, calls, asks, bind, made, closing, port_of, started_of}

-- a program, and after its end these ports are given up, the last first
unfoldable pub releasing : List ℕ → Prog ℕ → Prog ℕ
releasing [] p = p
releasing (q ∷ qs) p = closing q (releasing qs p)

-- a step, and what comes after it by a way to open names
abbrev pub step_on : Opener → Step → Prog ℕ
step_on opener (LooksUp target) = opener target.port target.name
step_on opener (Reauthenticates target) = bind (made (Plain (IoReauthenticate target.port)) port_of) (λ own. closing own (opener own target.name))
step_on opener (Ends end) = gives end

-- an opening that goes on once this program gives no refusal
abbrev pub opening_after : Opening → Prog (Unit {0}) → Prog ℕ
opening_after o p = releasing o.way.held.items (bind p (λ u. step_on (look o.way.left o.way.how) o.step))

-- an opening
abbrev pub opening_of : Opening → Prog ℕ
opening_of o = releasing o.way.held.items (step_on (look o.way.left o.way.how) o.step)

-- what comes of a turn: the opening goes on, or asks for a server first
abbrev pub turn_on : Turn → Prog ℕ
turn_on (Onward o) = opening_of o
turn_on (Starts words o) = asks words (λ server. opening_after o (start_with server))

-- as many steps as this step and what comes after it take at most, if so many retries and starts are still followed, and no port is held
abbrev pub steps_from : ℕ → Step → ℕ
steps_from left (LooksUp target) = 4 * left + 2
steps_from left (Reauthenticates target) = 4 * left + 4
steps_from left (Ends end) = 0

-- as many steps as an opening still takes at most
abbrev pub steps_of : Opening → ℕ
steps_of o = steps_from o.way.left o.step + length o.way.held.items

abbrev pub steps_of_turn : Turn → ℕ
steps_of_turn (Onward o) = steps_of o
steps_of_turn (Starts words o) = steps_of o

-- a call of an opening, as a task makes it
abbrev pub call_of : NextCall → PlainCall
call_of (call.DirLookup port name how) = DirLookup port name how.flags how.mode
call_of (call.IoReauthenticate port) = IoReauthenticate port
call_of (call.PortDeallocate port) = PortDeallocate port

-- how the start of a translator ended, with a server or without one
abbrev pub start_end : Option Meaning → Reply → Result (Unit {0}) Errno
start_end (Some server) r = started_of r
start_end None r = Err ENOENT

-- what an opening does next: a call, and then at least that step is left; or nothing, since it is at its end
abbrev pub IsNext : Opening → Next → Type 0
IsNext o (next.Call c) = ((k : Reply → Prog ℕ) × (opening_of o ≡ calls (Plain (call_of c)) k)) × (0 < steps_of o)
IsNext o (next.Ends end) = opening_of o ≡ gives end
