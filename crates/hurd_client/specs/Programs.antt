-- Commands as programs: calls, chosen by the replies so far, and servers that are asked for.
use Rattle.std.specs.Prelude.{ℕ, Bool, true, false, List, Option, Result, Ok, Err, if◌then◌else◌}
use Rattle.hurd_creds.specs.declared.errno.Errno.{Errno}
use Rattle.hurd_creds.specs.declared.errno.Errno.TheVariants.{EIO, EBUSY}
use Rattle.hurd_creds.specs.declared.attrs.Stat.{Stat}
use Rattle.hurd_trans_iface.specs.Meaning.{Meaning}
use Rattle.hurd_machine.specs.Calls.{Call, Reply}
use Rattle.hurd_machine.specs.declared.call.Call.TheVariants.{Plain}
use Rattle.hurd_machine.specs.declared.call.PlainCall.TheVariants.{PortDeallocate}
use Rattle.hurd_machine.specs.declared.call.Reply.TheVariants as reply

-- what a task does: it gives a result or a refusal, makes a call and goes on with the reply, or asks for the server of some words
-- and goes on with that, or with none
pub data Prog (A : Type 0) : Type 0 where
  gives : Result A Errno → Prog A
  calls : Call → (Reply → Prog A) → Prog A
  asks : List (List ℕ) → (Option Meaning → Prog A) → Prog A

-- one program, and then what comes of its end
unfoldable pub tried : {A B : Type 0} → Prog A → (Result A Errno → Prog B) → Prog B
tried (gives r) k = k r
tried (calls c j) k = calls c (λ r. tried (j r) k)
tried (asks words j) k = asks words (λ server. tried (j server) k)

-- a refusal is the end
abbrev pub on_ok : {A B : Type 0} → (A → Prog B) → Result A Errno → Prog B
on_ok k (Ok a) = k a
on_ok k (Err e) = gives (Err e)

-- one program, and then another, unless the first is refused
unfoldable pub bind : {A B : Type 0} → Prog A → (A → Prog B) → Prog B
bind p k = tried p (on_ok k)

-- one call, and what is read of its reply
unfoldable pub made : {A : Type 0} → Call → (Reply → Result A Errno) → Prog A
made c read = calls c (λ r. gives (read r))

-- what is left of a program after the reply to its next call
abbrev pub after_reply : {A : Type 0} → Prog A → Reply → Prog A
after_reply (calls c k) r = k r
after_reply p r = p

-- EBUSY
abbrev pub is_busy : Errno → Bool
is_busy EBUSY = true
is_busy _ = false

-- what a command reads of a reply; a reply of another sort can't come, and would be EIO

abbrev pub port_of : Reply → Result ℕ Errno
port_of (reply.Port p) = Ok p
port_of (reply.Refused e) = Err e
port_of _ = Err EIO

abbrev pub data_of : Reply → Result (List ℕ) Errno
data_of (reply.Data bytes) = Ok bytes
data_of (reply.Refused e) = Err e
data_of _ = Err EIO

abbrev pub names_of : Reply → Result (List (List ℕ)) Errno
names_of (reply.Names names) = Ok names
names_of (reply.Refused e) = Err e
names_of _ = Err EIO

abbrev pub stat_of : Reply → Result Stat Errno
stat_of (reply.Stat stat) = Ok stat
stat_of (reply.Refused e) = Err e
stat_of _ = Err EIO

abbrev pub done_of : Reply → Result (Unit {0}) Errno
done_of reply.Done = Ok tt
done_of (reply.Count n) = Ok tt
done_of (reply.Refused e) = Err e
done_of _ = Err EIO

abbrev pub words_of : Reply → Result (List (List ℕ)) Errno
words_of (reply.Words words) = Ok words
words_of (reply.Refused e) = Err e
words_of _ = Err EIO

-- of a call that brings a server: one that comes back is dropped
abbrev pub set_of : Reply → Result (Unit {0}) Errno
set_of reply.Done = Ok tt
set_of (reply.Refused e) = Err e
set_of (reply.Back e server) = Err e
set_of _ = Err EIO

-- a start that another was quicker with is as good as one's own
abbrev pub started : Result (Unit {0}) Errno → Result (Unit {0}) Errno
started (Ok u) = Ok u
started (Err e) = if is_busy e then Ok tt else Err e

-- of a call that starts a translator
abbrev pub started_of : Reply → Result (Unit {0}) Errno
started_of r = started (set_of r)

-- a reply that nobody reads
abbrev pub unread : Reply → Result (Unit {0}) Errno
unread r = Ok tt

-- a program, and after its end the port is given up
abbrev pub closing : {A : Type 0} → ℕ → Prog A → Prog A
closing p q = tried q (λ r. bind (made (Plain (PortDeallocate p)) unread) (λ u. gives r))
