-- A port that is filled in, with its open.
use Rattle.std.proofs.Common.{◌≡◌, ◌+◌, ℕ, List, [], ◌∷◌, refl, ap, sym, ◌∙◌, arith}
use Rattle.std.specs.Prelude.{Option, Some, None, Ok, Err, slice_get, slice_set, slice_index_or}
use Rattle.std.specs.FinMap as fin
use Rattle.hurd_creds.specs.declared.name.Name.{Name}
use Rattle.hurd_creds.specs.declared.errno.Errno.TheVariants.{EBADF}
use Rattle.hurd_creds.specs.declared.open_flags.OpenFlags.{OpenFlags}
use Rattle.hurd_creds.specs.Access.{IdSets}
use Rattle.hurd_ports.specs.declared.table.Opened.{Opened}
use Rattle.hurd_ports.specs.declared.table.TaskSeat.{TaskSeat}
use Rattle.hurd_ports.specs.declared.parents.Parent.{Parent}
use Rattle.hurd_ports.specs.declared.table.Right.{Right}
use Rattle.hurd_ports.specs.declared.table.Right.TheVariants.{Io}
use Rattle.hurd_ports.specs.Tables.{OpenMap, Task, PortState, rights_of, fresh, right_of, room_of}
use Rattle.hurd_ports.specs.Steps.{named, new_open, new_right, with_port, with_new_port, insert_step}
use Rattle.hurd_ports.specs.Sound.{IsSound}
use Rattle.hurd_ports.specs.Seats.{seat_task, tasks_of, state_of}
use Rattle.hurd_ports.specs.declared.book.Book.{Book}
use Rattle.hurd_creds.specs.Weights.{weigh_list}
use Rattle.hurd_ports.specs.Counts.{AreCounted, Sort, count_of, excess, naming}
use Rattle.hurd_ports.proofs.CountLaws.{counted-changed}
use Rattle.hurd_ports.proofs.WeightLaws.{port_weighs}
use Rattle.hurd_ports.proofs.TaskLaws.{edit-edit}
use Rattle.hurd_ports.proofs.RoomLaws.{room-is, insert-done}
use Rattle.hurd_ports.proofs.SoundLaws.{number-new, sound-inserted}
use Rattle.hurd_ports.proofs.SeatLaws.{same_halves, seat-read, seat-changed}

-- a port went in, under a number that no port had
pub record Inserted (h k : PortState) (t : ℕ) (n : Name) (ids : IdSets) (parents : List Parent) (modes : OpenFlags) (number : ℕ) : Type 0 where
  pub step : insert_step t n ids parents modes h ≡ (Ok number, k)
  pub sound : IsSound k
  pub new : right_of h t number ≡ Err EBADF

-- nothing is open under the next name of a task
pub name-new : (os : OpenMap) (ss : List TaskSeat) (t : ℕ) (old : TaskSeat) (name : Name) → IsSound (state_of os ss) → room_of (state_of os ss) t 1 ≡ Ok tt → old ≡ slice_index_or ss t old → name ≡ fresh t (seat_task old) → fin.get os name ≡ None
name-new os ss t old name sound room read fresh_is =
    let found = room-is (state_of os ss) t 1 room in
    let at : slice_get (tasks_of ss) t ≡ Some (seat_task old) = rw (seat-read ss t old found.task found.there read).1 found.there in
    rw fresh_is (go (fin.get os (fresh t (seat_task old))) refl at)
  where
    go : (o : Option Opened) → fin.get os (fresh t (seat_task old)) ≡ o → slice_get (tasks_of ss) t ≡ Some (seat_task old) → o ≡ None
    go None e at = refl
    go (Some w) e at = let below = rw at at (sound.given (fresh t (seat_task old)) w e) in absurd (omega arith)

module _ (os : OpenMap) (ss : List TaskSeat) (t : ℕ) (n : Name) (ids : IdSets) (parents : List Parent) (modes : OpenFlags) where
  -- the seat that stood as x has the port, and the open is put
  filled_in : (news : OpenMap) (new : TaskSeat) (x : Task) → slice_get (tasks_of ss) t ≡ Some x → seat_task new ≡ with_port (new_right t n ids parents x) (named 1 x)
      → news ≡ fin.insert os (fresh t x) (new_open n modes) → state_of news (slice_set ss t new) ≡ with_new_port t n ids parents modes x (state_of os ss)
  filled_in news new x at ported put =
      same_halves _ _ _ _ put
      (seat-changed ss t new (with_port (new_right t n ids parents x) (named 1 x)) ported ∙ sym (edit-edit t (with_port (new_right t n ids parents x)) (named 1) (tasks_of ss) x at))

  -- a seat was read, named the open, and was given the port
  pub filled : (news : OpenMap) (old mid new : TaskSeat) (name : Name) (number : ℕ) → IsSound (state_of os ss) → room_of (state_of os ss) t 1 ≡ Ok tt → old ≡ slice_index_or ss t old
      → name ≡ fresh t (seat_task old) → seat_task mid ≡ named 1 (seat_task old) → number ≡ mid.next → seat_task new ≡ with_port (Io (record { node = n; ids = ids; open_name = name; parents = parents })) (seat_task mid)
      → news ≡ fin.insert os name (new_open n modes) → Inserted (state_of os ss) (state_of news (slice_set ss t new)) t n ids parents modes number
  filled news old mid new name number sound room read fresh_is named_is number_is ported put =
      let h : PortState = state_of os ss in
      let found = room-is h t 1 room in
      let x : Task = found.task in
      let is : seat_task old ≡ x = (seat-read ss t old x found.there read).1 in
      let given : name ≡ fresh t x = fresh_is ∙ ap (fresh t) is in
      let grown : seat_task mid ≡ named 1 x = named_is ∙ ap (named 1) is in
      let counted : number ≡ x.next = number_is ∙ ap (λ (y : Task). y.next) grown in
      let left : seat_task new ≡ with_port (new_right t n ids parents x) (named 1 x) = ported ∙ ap (with_port (Io (record { node = n; ids = ids; open_name = name; parents = parents }))) grown ∙ ap (λ (q : Name). with_port (Io (record { node = n; ids = ids; open_name = q; parents = parents })) (named 1 x)) given in
      let whole : state_of news (slice_set ss t new) ≡ with_new_port t n ids parents modes x h =
      filled_in news new x found.there left (put ∙ ap (λ (q : Name). fin.insert os q (new_open n modes)) given) in
      rw (whole, counted) (record {
        step = insert-done h t n ids parents modes x found.there found.room;
        sound = sound-inserted h t x sound found.there n ids parents modes;
        new = number-new h t x sound found.there;
      })

-- and what it names is counted once more
pub filled-counted : (os : OpenMap) (b l : Book) (ss : List TaskSeat) (t : ℕ) (old mid new : TaskSeat) (r : Right) → AreCounted b (tasks_of ss) → room_of (state_of os ss) t 1 ≡ Ok tt → old ≡ slice_index_or ss t old
    → seat_task mid ≡ named 1 (seat_task old) → seat_task new ≡ with_port r (seat_task mid) → excess r ≡ 0 → ((k : Sort) (n : Name) → count_of k n l ≡ count_of k n b + naming k n r) → AreCounted l (tasks_of (slice_set ss t new))
filled-counted os b l ss t old mid new r counts room read named_is ported short added =
    let found = room-is (state_of os ss) t 1 room in
    let at = (seat-read ss t old found.task found.there read).0 in
    counted-changed b l ss t old new at counts [] (r ∷ []) (λ W. let now = ap (λ (x : Task). weigh_list W (rights_of x)) (ported ∙ ap (with_port r) named_is) in omega (arith, port_weighs W r (named 1 (seat_task old)))) (omega arith) (λ k n. omega (arith, added k n))
