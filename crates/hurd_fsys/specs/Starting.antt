-- Starting the translator that a lookup came to, or giving that up.
use Rattle.std.specs.Prelude.{◌≡◌, ◌⊎◌, ◌&&◌, not, is_some, ℕ, Bool, true, false, List, [], ◌∷◌, None, Result, Ok, Err, IsOk}
use Rattle.std.specs.Global.{Vec}
use Rattle.std.specs.Str.{bytes_eq}
use Rattle.hurd_creds.specs.declared.name.Name.{Name}
use Rattle.hurd_creds.specs.declared.attrs.Attrs.{Attrs}
use Rattle.hurd_creds.specs.declared.errno.Errno.{Errno}
use Rattle.hurd_creds.specs.declared.errno.Errno.TheVariants.{EBUSY, EDIED, ENOMEM, ESRCH}
use Rattle.hurd_trans_iface.specs.Nodes.{Header}
use Rattle.hurd_trans_iface.specs.Meaning.{Meaning}
use Rattle.hurd_ports.specs.declared.table.PendingStart.{PendingStart}
use Rattle.hurd_ports.specs.Tables.{Task, pending_of}
use Rattle.hurd_machine.specs.declared.call.Reply.TheVariants.{Done, Refused}
use Rattle.hurd_machine.specs.World.{World, ports_of, task_at, header_at, active_at, words_at}
use Rattle.hurd_machine.specs.Change.{pending}
use Rattle.hurd_machine.specs.Plan.{Plan, on, given, first, answered}
use Rattle.hurd_machine.specs.Sight.{Part, AttrOf}
use Rattle.hurd_machine.specs.Touched.{asked_parts, Nothing}
use Rattle.hurd_core.specs.Core.{attaching, naming_asks}
use Rattle.hurd_core.specs.PortNode.{header_with}
use Rattle.hurd_lookup.specs.Lent.{lent, server_ids}
use Rattle.hurd_fsys.specs.Aims.{HasTargets, aims_asks}
use Rattle.hurd_fsys.specs.Setting.{seat_on}

-- what the task is to start: ESRCH
abbrev pub pending_asks : World → ℕ → Result PendingStart Errno
pending_asks w t = on ESRCH (pending_of (ports_of w) t) (λ s. Ok s)

-- start_failed: it is to start nothing any more, and what nothing keeps then goes
abbrev pub plan_start_failed : World → ℕ → Plan
plan_start_failed w t = answered (pending_asks w t) (λ s. record { reply = Done; changes = pending t None })

abbrev pub touches_start_failed : World → ℕ → Part → Type 0
touches_start_failed w t = Nothing

-- two lists of words are the same
abbrev pub same_words : List (List ℕ) → List (List ℕ) → Bool
same_words [] [] = true
same_words (v ∷ vs) (w ∷ ws) = bytes_eq v w && same_words vs ws
same_words vs ws = false

-- fsys_startup: the node is there, nothing is active on it, and its words are those that the lookup found: EDIED, EBUSY
abbrev pub waiting_asks : World → PendingStart → Result Header Errno
waiting_asks w s =
    on EDIED (header_at w s.node) (λ h.
    given EBUSY (not (is_some (active_at w s.node)) && same_words h.passive s.words) (Ok h))

-- what a start finds: its node's header, the targets of its server, and the task that names this
pub record Startup : Type 0 where
  pub header : Header
  pub targets : List Name
  pub task : Task

-- the targets of the server that comes, found with what is lent of the task's ids: EBUSY where a translator waits at one, which is to be started first
abbrev pub start_aims : World → ℕ → Meaning → ℕ → Result (List Name) Errno
start_aims w t m owner = on ESRCH (task_at w t) (λ x. aims_asks EBUSY w (lent x.ids owner) m)

-- and the targets are found, and the task can name a server and its root: EOVERFLOW
abbrev pub startup_asks : World → ℕ → Meaning → PendingStart → Result Startup Errno
startup_asks w t m s =
    first (waiting_asks w s) (λ h.
    first (start_aims w t m h.owner) (λ ns.
    first (naming_asks w t 2) (λ x. Ok (record { header = h; targets = ns; task = x }))))

-- the header that attributes tell, with these words
abbrev pub header_told : List (List ℕ) → Result Attrs Errno → Result Header Errno
header_told words (Ok a) = Ok (header_with words a)
header_told words (Err e) = Err e

-- what the code finds of a start: it is what is asked, or memory was wanting, where targets were to be found
abbrev pub StartFinds : World → ℕ → Meaning → PendingStart → Result (Attrs × Vec Name) Errno → Type 0
StartFinds w t m s (Ok a) = (x : Task) × (startup_asks w t m s ≡ Ok (record { header = header_with (words_at w s.node) a.0; targets = a.1.items; task = x }))
StartFinds w t m s (Err e) = (startup_asks w t m s ≡ Err e) ⊎ ((e ≡ ENOMEM) × (HasTargets m × IsOk (waiting_asks w s)))

-- a start may want memory for its targets, where a translator waits
abbrev pub StartLacks : World → ℕ → Meaning → Type 0
StartLacks w t m = HasTargets m × IsOk (first (pending_asks w t) (waiting_asks w))

-- the server comes, and the task is to start nothing any more; nor is it where that is refused
abbrev pub started : ℕ → PendingStart → Meaning → Result Startup Errno → Plan
started t s m (Err e) = record { reply = Refused e; changes = pending t None }
started t s m (Ok a) = record { reply = Done; changes = attaching t (seat_on s.node a.header m None true) (server_ids a.header.owner) a.targets m a.task }

abbrev pub plan_startup : World → ℕ → Meaning → Plan
plan_startup w t m = answered (pending_asks w t) (λ s. started t s m (startup_asks w t m s))

-- the attributes of the node
abbrev pub touches_startup : World → ℕ → Meaning → Part → Type 0
touches_startup w t m = asked_parts (pending_asks w t) (λ s. asked_parts (startup_asks w t m s) (λ a p. p ≡ AttrOf s.node))
