-- Reading, writing, and what is told of a node.
use Rattle.std.specs.Prelude.{◌≡◌, ◌⊎◌, Bool, true, false, ℕ, ℤ, pos, negsuc, zero, suc, ◌+◌, not, is_some, if◌then◌else◌, min, List, [], ◌∷◌, ◌++◌, length, Result, Ok, Err, IfOk}
use Rattle.hurd_creds.specs.declared.name.Name.{Name}
use Rattle.hurd_creds.specs.declared.errno.Errno.{Errno}
use Rattle.hurd_creds.specs.declared.errno.Errno.TheVariants.{EINVAL, EISDIR}
use Rattle.hurd_creds.specs.Bits.{asks, READ, WRITE, APPEND}
use Rattle.hurd_creds.specs.Stats.{stat_of}
use Rattle.hurd_creds.specs.declared.attrs.Stat.{Stat}
use Rattle.hurd_creds.specs.Limits.{most_read}
use Rattle.hurd_trans_iface.specs.Nodes.{is_dir}
use Rattle.hurd_trans_iface.specs.Behaviour.{Did, Question, edits_of, reading, writing}
use Rattle.hurd_nodes.specs.Shown.{NodeState}
use Rattle.hurd_nodes.specs.Needs.{FreeRead, FreeWrite}
use Rattle.hurd_ports.specs.Steps.{at_cursor}
use Rattle.hurd_machine.specs.declared.handle.Handle.{Handle}
use Rattle.hurd_machine.specs.Calls.{Reply}
use Rattle.hurd_machine.specs.declared.call.Reply.TheVariants.{Data, Count}
use Rattle.hurd_machine.specs.declared.call.Reply.TheVariants as reply
pub use Rattle.hurd_io.specs.declared.offset.Offset.{Offset}
use Rattle.hurd_io.specs.declared.offset.Offset.TheVariants.{At, Cursor}
pub use Rattle.hurd_io.specs.declared.offset.IoAt.{IoAt}
use Rattle.hurd_machine.specs.World.{World, active_at, asked_at, nodes_of, readers_at, stream_at, writers_at}
use Rattle.hurd_machine.specs.Change.{Change, EditOpen, changes_of}
use Rattle.hurd_machine.specs.Plan.{Plan, given, first, answered, looks}
use Rattle.hurd_machine.specs.Handle.{Named, port_asks, handle_asks}
use Rattle.hurd_machine.specs.Sight.{Part, OpenOf, bare}
use Rattle.hurd_machine.specs.Touched.{asked_parts, Nothing, OnDid}

-- an offset is a place, or, for -1, the cursor; any other below 0 is refused
abbrev pub offset_of : ℤ → Result Offset Errno
offset_of (pos n) = Ok (At n)
offset_of (negsuc zero) = Ok Cursor
offset_of (negsuc (suc n)) = Err EINVAL

abbrev pub place_of : Offset → ℕ → ℕ
place_of (At n) cursor = n
place_of Cursor cursor = cursor

-- where a call on what a port has open begins, if the cursor is there; `stream`: on a stream
abbrev pub io_at : Handle → Bool → ℕ → Offset → IoAt
io_at a stream cursor offset =
    record { node = a.node; open_name = a.open_name; is_stream = stream; offset = offset; at = place_of offset cursor }

-- the greatest place: i64's greatest
abbrev pub i64_greatest : ℕ
i64_greatest = 9223372036854775807

-- so many bytes on, but not past the greatest place
abbrev pub past : ℕ → ℕ → ℕ
past at count = min (at + count) i64_greatest

-- a call that began at the cursor moves it, but not on a stream
abbrev pub moved : Offset → Bool → Name → ℕ → List Change
moved (At n) stream o to = []
moved Cursor true o to = []
moved Cursor false o to = EditOpen o (at_cursor to) ∷ []

-- and so touches the open
abbrev pub Moves : Offset → Bool → Name → Part → Type 0
Moves (At n) stream o p = ⊥
Moves Cursor true o p = ⊥
Moves Cursor false o p = p ≡ OpenOf o

-- what the server does to the node, and the cursor past so many bytes
abbrev pub io_changes : {T : Type 0} → IoAt → Did T → ℕ → List Change
io_changes a d count = changes_of (edits_of a.node (Ok d)) ++ moved a.offset a.is_stream a.open_name (past a.at count)

-- a read or a write: at the place that is asked for, a question to the server; its answer, and how many bytes that is
abbrev pub plan_io : {T : Type 0} → World → Result IoAt Errno → (IoAt → Question T) → (T → Reply) → (T → ℕ) → Plan
plan_io w asks q reply count =
    answered asks (λ a. answered (asked_at (q a) a.node w) (λ d. record { reply = reply d.told; changes = io_changes a d (count d.told) }))

abbrev pub touches_io : {T : Type 0} → World → Result IoAt Errno → (IoAt → Question T) → Part → Type 0
touches_io w asks q = asked_parts asks (λ a. asked_parts (asked_at (q a) a.node w) (λ d p. OnDid w a.node d p ⊎ Moves a.offset a.is_stream a.open_name p))

-- a read or a write that needs no memory: it is refused before the server is asked, or needs none there, at the place that is asked for
abbrev pub free_io : World → Result IoAt Errno → (IoAt → Name → NodeState → Type 0) → Type 0
free_io w asks free = IfOk asks (λ a. free a a.node (nodes_of w))

-- the server is told how many opens write the node that is read, and read the one that is written, if it is to know

abbrev pub reads : ℕ → World → IoAt → Question (List ℕ)
reads amount w a = reading a.at (min amount most_read) (writers_at w a.node)

abbrev pub writes : List ℕ → World → IoAt → Question ℕ
writes bytes w a = writing a.at bytes (readers_at w a.node)

-- all that a read asks but of the server, with its refusals in order
abbrev pub read_asks : World → ℕ → ℕ → ℤ → Result IoAt Errno
read_asks w t p offset =
    first (handle_asks w t p READ) (λ a.
    given EISDIR (not (is_dir a.kind)) (
    first (offset_of offset) (λ o. Ok (io_at a (stream_at w a.node) a.opened.cursor o))))

-- io_read: the bytes
abbrev pub plan_read : World → ℕ → ℕ → ℕ → ℤ → Plan
plan_read w t p amount offset = plan_io w (read_asks w t p offset) (reads amount w) Data length

abbrev pub touches_read : World → ℕ → ℕ → ℕ → ℤ → Part → Type 0
touches_read w t p amount offset = touches_io w (read_asks w t p offset) (reads amount w)

-- a read that needs no memory, as it gives nothing
abbrev pub free_read : World → ℕ → ℕ → ℕ → ℤ → Type 0
free_read w t p amount offset = free_io w (read_asks w t p offset) (λ a. FreeRead a.at (min amount most_read) (writers_at w a.node))

-- the cursor that a write begins at: with APPEND it is first set to the size
abbrev pub write_cursor : Handle → ℕ
write_cursor a = if asks a.opened.modes APPEND then a.size else a.opened.cursor

-- all that a write asks but of the server, with its refusals in order
abbrev pub write_asks : World → ℕ → ℕ → ℤ → Result IoAt Errno
write_asks w t p offset = first (handle_asks w t p WRITE) (λ a. first (offset_of offset) (λ o. Ok (io_at a (stream_at w a.node) (write_cursor a) o)))

-- io_write: how many bytes were taken
abbrev pub plan_write : World → ℕ → ℕ → List ℕ → ℤ → Plan
plan_write w t p bytes offset = plan_io w (write_asks w t p offset) (writes bytes w) Count (λ n. n)

abbrev pub touches_write : World → ℕ → ℕ → List ℕ → ℤ → Part → Type 0
touches_write w t p bytes offset = touches_io w (write_asks w t p offset) (writes bytes w)

-- a write that needs no memory: of no data, over bytes that are there, or to a stream
abbrev pub free_write : World → ℕ → ℕ → List ℕ → ℤ → Type 0
free_write w t p bytes offset = free_io w (write_asks w t p offset) (λ a. FreeWrite a.at bytes)

-- what is told of a port's node: its attributes, and whether a server is active on it
abbrev pub stat_at : World → Named → Stat
stat_at w n = let s = stat_of (bare n.header) in record s { active = is_some (active_at w n.right.node) }

-- the node of a port, whatever its open is for
abbrev pub stat_asks : World → ℕ → ℕ → Result Stat Errno
stat_asks w t p = first (port_asks w t p) (λ n. Ok (stat_at w n))

-- io_stat
abbrev pub plan_stat : World → ℕ → ℕ → Plan
plan_stat w t p = looks (stat_asks w t p) (λ s. reply.Stat s)

abbrev pub touches_stat : World → ℕ → ℕ → Part → Type 0
touches_stat w t p = Nothing
