-- The tables in the code and those that they stand for.
use Rattle.std.proofs.Common.{◌≡◌, ℕ, ◌<◌, List, [], ◌∷◌, ◌++◌, map, refl, ap, ap₂, sym, ◌∙◌, append-nil}
use Rattle.std.proofs.lemmas.List.{map_push, map-set}
use Rattle.std.specs.Prelude.{Option, Some, None, IsSomeAnd, slice_get, slice_set, slice_index_or}
use Rattle.std.specs.Option.{option_map}
use Rattle.std.specs.FinMap as fin
use Rattle.std.proofs.lemmas.Option.{get_or_from_slice_get, slice_get-map}
use Rattle.hurd_creds.specs.Access.{IdSets}
use Rattle.hurd_creds.specs.NameMaps.{edit}
use Rattle.hurd_creds.specs.declared.name.Name.{Name}
use Rattle.hurd_creds.specs.declared.name.TaskId.{TaskId}
use Rattle.hurd_ports.specs.declared.book.Book.{Book}
use Rattle.hurd_ports.specs.declared.table.TaskSeat.{TaskSeat}
use Rattle.hurd_ports.specs.declared.table.Opened.{Opened}
use Rattle.hurd_ports.specs.Tables.{Task, PortState, OpenMap}
use Rattle.hurd_ports.specs.Steps.{new_task, starting_at}
use Rattle.hurd_ports.specs.Seats.{seat_task, tasks_of, state_of, AreInOrder, HasSpare, IsReady}
use Rattle.hurd_ports.specs.Counts.{HasRoom}
use Rattle.hurd_ports.specs.Sound.{IsSound}
use Rattle.hurd_ports.proofs.TaskLaws.{map-origin, set-here}

-- the tables with an open changed, where it is there
abbrev pub edit_open : Name → (Opened → Opened) → PortState → PortState
edit_open n f h = record h { opens = edit n f h.opens }

pub same_halves : (m n : OpenMap) (ts us : List Task) → m ≡ n → ts ≡ us → ◌≡◌ {A = PortState} (record { opens = m; tasks = ts }) (record { opens = n; tasks = us })
same_halves m n ts us opens tasks = rw (opens, tasks) refl

-- a seat for each task, and no opens
pub started : (os : OpenMap) (ss : List TaskSeat) (ids done rest : List IdSets) (next : ℕ) → os ≡ fin.empty → tasks_of ss ≡ map (new_task next) done → done ++ rest ≡ ids → rest ≡ [] → state_of os ss ≡ starting_at ids next
started os ss ids done rest next none seats all end =
    let whole : done ≡ ids = sym (append-nil done) ∙ ap (λ (r : List IdSets). done ++ r) (sym end) ∙ all in
    same_halves _ _ _ _ none (seats ∙ ap (map (new_task next)) whole)

-- one more seat without ports
pub seat-pushed : (ss : List TaskSeat) (x : TaskSeat) (done : List IdSets) (ids : IdSets) (next : ℕ) → tasks_of ss ≡ map (new_task next) done → seat_task x ≡ new_task next ids → tasks_of (ss ++ x ∷ []) ≡ map (new_task next) (done ++ ids ∷ [])
seat-pushed ss x done ids next seats is =
    map_push seat_task ss x ∙ ap₂ (λ (ts : List Task) (t : Task). ts ++ t ∷ []) seats is ∙ sym (map_push (new_task next) done ids)

-- an open changed
pub open-changed : (os news : OpenMap) (ss : List TaskSeat) (n : Name) (f : Opened → Opened) → news ≡ edit n f os → state_of news ss ≡ edit_open n f (state_of os ss)
open-changed os news ss n f is = same_halves _ _ _ _ is refl

-- the task of a seat that was looked up
pub seat-there : (ss : List TaskSeat) (t : ℕ) (s : TaskSeat) → slice_get ss t ≡ Some s → slice_get (tasks_of ss) t ≡ Some (seat_task s)
seat-there ss t s at = slice_get-map seat_task ss t ∙ ap (option_map seat_task) at

-- the numbers of its ports rise
pub seat-ordered : (os : OpenMap) (ss : List TaskSeat) (t : ℕ) (s : TaskSeat) → IsSound (state_of os ss) → slice_get ss t ≡ Some s → AreInOrder s.ports.items
seat-ordered os ss t s sound at = (s.next, sound.numbered t (seat_task s) (seat-there ss t s at))

-- the task of a seat that was read
pub seat-read : (ss : List TaskSeat) (t : ℕ) (s : TaskSeat) (x : Task) → slice_get (tasks_of ss) t ≡ Some x → s ≡ slice_index_or ss t s → (slice_get ss t ≡ Some s) × (seat_task s ≡ x)
seat-read ss t s x at read =
    let from = map-origin seat_task ss t x at in
    let same : s ≡ from.0 = read ∙ get_or_from_slice_get ss t from.0 s from.1 in
    (from.1 ∙ ap Some (sym same), ap seat_task same ∙ from.2)

pub seat-changed : (ss : List TaskSeat) (t : ℕ) (new : TaskSeat) (y : Task) → seat_task new ≡ y → tasks_of (slice_set ss t new) ≡ slice_set (tasks_of ss) t y
seat-changed ss t new y is = map-set seat_task ss t new ∙ ap (slice_set (tasks_of ss) t) is

-- a seat that is there is what was read
pub seat-found : (ss : List TaskSeat) (t : ℕ) (s : TaskSeat) (P : Task → Type 0) → IsSomeAnd (slice_get (tasks_of ss) t) P → s ≡ slice_index_or ss t s → slice_get ss t ≡ Some s
seat-found ss t s P there read = go (slice_get (tasks_of ss) t) refl there
  where
    go : (o : Option Task) → slice_get (tasks_of ss) t ≡ o → IsSomeAnd o P → slice_get ss t ≡ Some s
    go None e h = absurd h
    go (Some x) e h = (seat-read ss t s x e read).0

-- what is reserved is there for a task whose seat has room for a port
pub ready-made : (room : ℕ) (book : Book) (ss : List TaskSeat) (r : TaskId) (s new : TaskSeat) → slice_get ss r.0 ≡ Some s → 0 < room → HasRoom book → HasSpare new.ports → IsReady room book (slice_set ss r.0 new) (Some r)
ready-made room book ss r s new at spare place port = ((spare, place), rw (set-here ss r.0 s new at) port)

-- where a task is ready there is room for what a right names
pub ready-room : (room : ℕ) (book : Book) (ss : List TaskSeat) (ready : Option TaskId) (q : ℕ) → IsReady room book ss ready → option_map (λ (t : TaskId). t.0) ready ≡ Some q → HasRoom book
ready-room room book ss None q h is = absurd (cc)
ready-room room book ss (Some t) q h is = h.0.1
