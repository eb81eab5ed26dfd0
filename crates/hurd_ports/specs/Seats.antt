-- The tables as they stand in the code.
use Rattle.std.specs.Prelude.{ℕ, ◌<◌, ◌==◌, List, map, Option, Some, None, IsSomeAnd, slice_get, vec_len, vec_capacity}
use Rattle.std.specs.List.{position}
use Rattle.std.specs.Option.{option_map}
use Rattle.std.specs.Global.{Vec}
use Rattle.hurd_creds.specs.declared.name.TaskId.{TaskId}
use Rattle.hurd_ports.specs.declared.table.TaskSeat.{TaskSeat}
use Rattle.hurd_ports.specs.declared.table.Port.{Port}
use Rattle.hurd_ports.specs.declared.book.Book.{Book}
use Rattle.hurd_ports.specs.Tables.{Task, OpenMap, PortState, Tables}
use Rattle.hurd_ports.specs.Counts.{AreCounted, HasRoom}
use Rattle.hurd_ports.specs.Sound.{IsSound, NumbersRise}

-- what a seat stands for
abbrev pub seat_task : TaskSeat → Task
seat_task s = record { ids = s.ids; ports = s.ports.items; next = s.next; inbox = s.inbox.items; made = s.made; pending = s.pending }

-- the tasks of the seats, in their order
abbrev pub tasks_of : List TaskSeat → List Task
tasks_of ss = map seat_task ss

-- opens and tasks together
abbrev pub state_of : OpenMap → List TaskSeat → PortState
state_of os ss = record { opens = os; tasks = tasks_of ss }

-- and the task that is ready
abbrev pub tables_of : OpenMap → List TaskSeat → Option TaskId → Tables
tables_of os ss ready = record { state = state_of os ss; ready = option_map (λ t. t.0) ready }

-- there is room in memory for one more
abbrev pub HasSpare : {A : Type 0} → Vec A → Type 0
HasSpare v = vec_len v < vec_capacity v

-- the numbers of the ports rise
abbrev pub AreInOrder : List Port → Type 0
AreInOrder ps = (next : ℕ) × NumbersRise 0 next ps

-- the index of the port of this number
abbrev pub place_of_port : ℕ → List Port → Option ℕ
place_of_port number ps = position (λ p. number == p.number) ps

-- for the task that is ready, there is room for an open, for what a right names and for a port; the number says for how many opens
abbrev pub IsReady : ℕ → Book → List TaskSeat → Option TaskId → Type 0
IsReady room book ss None = Unit {0}
IsReady room book ss (Some t) = ((0 < room) × HasRoom book) × IsSomeAnd (slice_get ss t.0) (λ s. HasSpare s.ports)

-- what holds of the tables in the code at any time, with room for so many more opens
pub record IsKept (opens : OpenMap) (room : ℕ) (book : Book) (seats : List TaskSeat) (ready : Option TaskId) : Type 0 where
  pub sound : IsSound (state_of opens seats)
  pub counted : AreCounted book (tasks_of seats)
  pub spare : IsReady room book seats ready
