-- What calls do to tasks, ports and opens.
use Rattle.std.specs.Prelude.{ℕ, Bool, ◌+◌, ◌==◌, if◌then◌else◌, List, [], ◌∷◌, ◌++◌, map, Option, Some, None, Result, Ok, Err, length, nat_le, nat_lt, slice_get, slice_set}
use Rattle.std.specs.FinMap as fin
use Rattle.hurd_creds.specs.declared.name.Name.{Name}
use Rattle.hurd_creds.specs.declared.errno.Errno.{Errno}
use Rattle.hurd_creds.specs.declared.errno.Errno.TheVariants.{EBADF, EINVAL, EOVERFLOW, ESRCH, EWOULDBLOCK}
use Rattle.hurd_creds.specs.declared.open_flags.OpenFlags.{OpenFlags}
use Rattle.hurd_creds.specs.Access.{IdSets}
use Rattle.hurd_creds.specs.Bits.{with_append}
use Rattle.hurd_creds.specs.Limits.{most_tasks}
use Rattle.hurd_creds.specs.NameMaps.{edit}
use Rattle.hurd_ports.specs.declared.table.Opened.{Opened}
use Rattle.hurd_ports.specs.declared.parents.Parent.{Parent}
use Rattle.hurd_ports.specs.declared.table.IoRight.{IoRight}
use Rattle.hurd_ports.specs.declared.table.Right.{Right}
use Rattle.hurd_ports.specs.declared.table.Right.TheVariants.{Io}
use Rattle.hurd_ports.specs.declared.table.Port.{Port}
use Rattle.hurd_ports.specs.declared.table.PendingStart.{PendingStart}
use Rattle.hurd_ports.specs.Tables.{Task, OpenMap, PortState, Tables, right_in, right_of, fresh, has_room, is_held, open_of}

-- a task that has made nothing, with an empty table
abbrev pub new_task : ℕ → IdSets → Task
new_task next ids = record { ids = ids; ports = []; next = next; inbox = []; made = 0; pending = None }

-- empty tables for tasks with these ids
abbrev pub starting_at : List IdSets → ℕ → PortState
starting_at tasks next = record { opens = fin.empty; tasks = map (new_task next) tasks }

-- the same, with nothing reserved: EINVAL more tasks than there may be
abbrev pub begun_at : List IdSets → ℕ → Result Tables Errno
begun_at tasks next = if nat_le (length tasks) most_tasks then Ok (record { state = starting_at tasks next; ready = None }) else Err EINVAL

-- what a task becomes

-- it named so many things more
abbrev pub named : ℕ → Task → Task
named k x = record x { made = x.made + k }

-- one more port, under the next number
abbrev pub with_port : Right → Task → Task
with_port r x = record x { ports = x.ports ++ record { number = x.next; right = r } ∷ []; next = x.next + 1 }

-- the ports but the one of this number
abbrev pub ports_without : ℕ → List Port → List Port
ports_without p [] = []
ports_without p (x ∷ xs) = if p == x.number then xs else x ∷ ports_without p xs

abbrev pub without_port : ℕ → Task → Task
without_port p x = record x { ports = ports_without p x.ports }

-- with these ids
abbrev pub with_ids : IdSets → Task → Task
with_ids ids x = record x { ids = ids }

-- to start this from now on, or nothing
abbrev pub with_pending : Option PendingStart → Task → Task
with_pending p x = record x { pending = p }

-- the same right, with these ids
abbrev pub with_ids_for : IdSets → IoRight → IoRight
with_ids_for ids r = record r { ids = ids }

-- a right more, last in the inbox
abbrev pub with_sent : Right → Task → Task
with_sent r x = record x { inbox = x.inbox ++ r ∷ [] }

-- the inbox's first, if there is one, as a port
abbrev pub received : Task → Task
received x = taking x.inbox where
  taking : List Right → Task
  taking [] = x
  taking (r ∷ rs) = with_port r (record x { inbox = rs })

abbrev pub edit_at : ℕ → (Task → Task) → List Task → Option Task → List Task
edit_at q f ts None = ts
edit_at q f ts (Some x) = slice_set ts q (f x)

-- the tasks with one changed, if it is there
abbrev pub edit_task : ℕ → (Task → Task) → List Task → List Task
edit_task q f ts = edit_at q f ts (slice_get ts q)

-- what becomes of opens

-- an open of a node, from its beginning
abbrev pub new_open : Name → OpenFlags → Opened
new_open n modes = record { node = n; cursor = 0; modes = modes }

abbrev pub at_cursor : ℕ → Opened → Opened
at_cursor k o = record o { cursor = k }

-- an open to append, or not
abbrev pub appending : Bool → Opened → Opened
appending append o = record o { modes = with_append append o.modes }

-- the opens but the one of this name, unless it is held
abbrev pub settled_at : (Name → Bool) → Name → OpenMap → OpenMap
settled_at held o m = if held o then m else fin.remove m o

-- the same of an open that a right may have had
abbrev pub settled_by : (Name → Bool) → Option Name → OpenMap → OpenMap
settled_by held None m = m
settled_by held (Some o) m = settled_at held o m

-- what calls on tables answer, and leave

-- the right to use a node, with ids, by the open that the task names next, come in by these ways
abbrev pub new_right : ℕ → Name → IdSets → List Parent → Task → Right
new_right t n ids parents x = Io (record { node = n; ids = ids; open_name = fresh t x; parents = parents })

-- with a port of a task on a node, and a new open of its own
abbrev pub with_new_port : ℕ → Name → IdSets → List Parent → OpenFlags → Task → PortState → PortState
with_new_port t n ids parents modes x h = record {
  opens = fin.insert h.opens (fresh t x) (new_open n modes);
  tasks = edit_task t (with_port (new_right t n ids parents x)) (edit_task t (named 1) h.tasks);
}

abbrev pub insert_at : PortState → ℕ → Name → IdSets → List Parent → OpenFlags → Option Task → Result ℕ Errno × PortState
insert_at h t n ids parents modes None = (Err ESRCH, h)
insert_at h t n ids parents modes (Some x) = if has_room 1 x then (Ok x.next, with_new_port t n ids parents modes x h) else (Err EOVERFLOW, h)

-- a port of the task on the node, with an open of its own
abbrev pub insert_step : ℕ → Name → IdSets → List Parent → OpenFlags → PortState → Result ℕ Errno × PortState
insert_step t n ids parents modes h = insert_at h t n ids parents modes (slice_get h.tasks t)

-- the task names one thing
abbrev pub name_step : ℕ → PortState → PortState
name_step t h = record h { tasks = edit_task t (named 1) h.tasks }

abbrev pub dropped : PortState → ℕ → ℕ → Option Right → Result (Unit {0}) Errno × PortState
dropped h t p None = (Err EBADF, h)
dropped h t p (Some r) = let ts = edit_task t (without_port p) h.tasks in (Ok tt, record { opens = settled_by (is_held ts) (open_of r) h.opens; tasks = ts })

abbrev pub deallocate_at : PortState → ℕ → ℕ → Option Task → Result (Unit {0}) Errno × PortState
deallocate_at h t p None = (Err ESRCH, h)
deallocate_at h t p (Some x) = dropped h t p (right_in p x.ports)

-- without this port, and without its open where no other right names that
abbrev pub deallocate_step : ℕ → ℕ → PortState → Result (Unit {0}) Errno × PortState
deallocate_step t p h = deallocate_at h t p (slice_get h.tasks t)

-- a port more of the task, with a right whose open is another's too
abbrev pub share_at : PortState → ℕ → Right → Option Task → Result ℕ Errno × PortState
share_at h t r None = (Err ESRCH, h)
share_at h t r (Some x) = if has_room 0 x then (Ok x.next, record h { tasks = edit_task t (with_port r) h.tasks }) else (Err EOVERFLOW, h)

abbrev pub share_step : ℕ → Right → PortState → Result ℕ Errno × PortState
share_step t r h = share_at h t r (slice_get h.tasks t)

-- the right, sent to task q if there is one
abbrev pub sent_to : PortState → ℕ → Result Right Errno → Result (Unit {0}) Errno × PortState
sent_to h q (Err e) = (Err e, h)
sent_to h q (Ok r) = if nat_lt q (length h.tasks) then (Ok tt, record h { tasks = edit_task q (with_sent r) h.tasks }) else (Err ESRCH, h)

-- a copy of the task's right under a number, last in the inbox of task q
abbrev pub send_step : ℕ → ℕ → ℕ → PortState → Result (Unit {0}) Errno × PortState
send_step t p q h = sent_to h q (right_of h t p)

abbrev pub taken_by : PortState → ℕ → Task → List Right → Result ℕ Errno × PortState
taken_by h t x [] = (Err EWOULDBLOCK, h)
taken_by h t x (r ∷ rs) = if has_room 0 x then (Ok x.next, record h { tasks = edit_task t received h.tasks }) else (Err EOVERFLOW, h)

abbrev pub receive_at : PortState → ℕ → Option Task → Result ℕ Errno × PortState
receive_at h t None = (Err ESRCH, h)
receive_at h t (Some x) = taken_by h t x x.inbox

-- the first right of the task's inbox, under its next number
abbrev pub receive_step : ℕ → PortState → Result ℕ Errno × PortState
receive_step t h = receive_at h t (slice_get h.tasks t)

abbrev pub take_ids_at : PortState → ℕ → IdSets → Option Task → Result (Unit {0}) Errno × PortState
take_ids_at h t ids None = (Err ESRCH, h)
take_ids_at h t ids (Some x) = (Ok tt, record h { tasks = edit_task t (with_ids ids) h.tasks })

-- other ids for the task; those of its rights stay
abbrev pub take_ids_step : ℕ → IdSets → PortState → Result (Unit {0}) Errno × PortState
take_ids_step t ids h = take_ids_at h t ids (slice_get h.tasks t)

abbrev pub pend_at : PortState → ℕ → Option PendingStart → Option Task → Result (Unit {0}) Errno × PortState
pend_at h t p None = (Err ESRCH, h)
pend_at h t p (Some x) = (Ok tt, record h { tasks = edit_task t (with_pending p) h.tasks })

-- the task is to start this from now on, or nothing
abbrev pub pend_step : ℕ → Option PendingStart → PortState → Result (Unit {0}) Errno × PortState
pend_step t p h = pend_at h t p (slice_get h.tasks t)

-- with the open's APPEND set, or taken away
abbrev pub set_append_step : Name → Bool → PortState → PortState
set_append_step o append h = record h { opens = edit o (appending append) h.opens }

-- with the open's cursor moved
abbrev pub move_cursor_step : Name → ℕ → PortState → PortState
move_cursor_step o k h = record h { opens = edit o (at_cursor k) h.opens }
