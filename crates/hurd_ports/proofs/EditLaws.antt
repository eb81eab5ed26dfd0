-- One task that is changed, where its rights still name the opens that they named.
use Rattle.std.proofs.Common.{◌≡◌, inl, inr, ℕ, ◌+◌, ◌<◌, ◌≤◌, List, [], ◌∷◌, Bool, true, false, cond, if◌then◌else◌, length, refl, ap, sym, ◌∙◌, arith}
use Rattle.std.proofs.lemmas.List.{length-map}
use Rattle.std.proofs.lemmas.Bool.Decides.{nat_tests}
use Rattle.std.specs.Prelude.{Option, Some, None, Result, Ok, Err, slice_get, slice_set, nat_lt}
use Rattle.hurd_creds.specs.declared.name.Name.{Name}
use Rattle.hurd_creds.specs.declared.errno.Errno.{Errno}
use Rattle.hurd_creds.specs.declared.errno.Errno.TheVariants.{EBADF, ENOMEM, ESRCH}
use Rattle.hurd_creds.specs.declared.name.TaskId.{TaskId}
use Rattle.hurd_creds.specs.Access.{IdSets}
use Rattle.hurd_creds.specs.Memory.{Steps}
use Rattle.hurd_creds.proofs.StepLaws.{steps-inside, steps-short}
use Rattle.hurd_ports.specs.declared.book.Book.{Book}
use Rattle.hurd_ports.specs.declared.table.Port.{Port}
use Rattle.hurd_ports.specs.declared.table.Right.{Right}
use Rattle.hurd_ports.specs.declared.table.PendingStart.{PendingStart}
use Rattle.hurd_ports.specs.declared.table.TaskSeat.{TaskSeat}
use Rattle.hurd_creds.specs.Weights.{one_if, count_list, weigh_list}
use Rattle.hurd_ports.specs.Tables.{OpenMap, Task, PortState, has_room, names_open, or_refuse, right_at, right_in, right_of, rights_of, start_of}
use Rattle.hurd_ports.specs.Steps.{edit_task, name_step, named, pend_at, pend_step, received, receive_at, receive_step, sent_to, send_step, share_at, share_step, take_ids_at, take_ids_step, taken_by, with_ids, with_pending, with_port, with_sent}
use Rattle.hurd_ports.specs.Sound.{IsSound, NumbersRise}
use Rattle.hurd_ports.specs.Counts.{Sort, count_of, excess, naming}
use Rattle.hurd_ports.specs.Seats.{IsKept, IsReady, seat_task, tasks_of, state_of}
use Rattle.hurd_ports.proofs.TaskLaws.{one_or_other, set-apart, set-here, set-same, edit-found}
use Rattle.hurd_ports.proofs.WeightLaws.{pending_weighs, port_weighs, weigh_received, weigh_sent}
use Rattle.hurd_ports.proofs.HeldLaws.{held-grows}
use Rattle.hurd_ports.proofs.SoundLaws.{given-set, next_found, numbers-set, rise-push}
use Rattle.hurd_ports.proofs.SeatLaws.{same_halves, seat-there, seat-changed}
use Rattle.hurd_ports.proofs.CountLaws.{counted-changed}

-- a pending start names no open
none_opened : (n : Name) (p : Option PendingStart) → count_list (names_open n) (start_of p) ≡ 0
none_opened n None = refl
none_opened n (Some q) = refl

-- a task that becomes another: its pending start may go, and rights may come
pub record Becomes (x y : Task) (gone : Option PendingStart) (come : List Right) : Type 0 where
  pub weighs : (W : Right → ℕ) → weigh_list W (rights_of y) + weigh_list W (start_of gone) ≡ weigh_list W (rights_of x) + weigh_list W come
  pub made : x.made ≤ y.made
  pub rises : NumbersRise 0 x.next x.ports → NumbersRise 0 y.next y.ports

module _ (x : Task) where
  pub as_it_was : Becomes x x None []
  as_it_was = record { weighs = λ W. refl; made = omega arith; rises = λ h. h }

  pub naming_more : Becomes x (named 1 x) None []
  naming_more = record { weighs = λ W. refl; made = omega arith; rises = λ h. h }

  pub taking_ids : (ids : IdSets) → Becomes x (with_ids ids x) None []
  taking_ids ids = record { weighs = λ W. refl; made = omega arith; rises = λ h. h }

  pub ported : (r : Right) → Becomes x (with_port r x) None (r ∷ [])
  ported r = record { weighs = λ W. omega (arith, port_weighs W r x); made = omega arith; rises = rise-push 0 x.next x.ports (record { number = x.next; right = r }) refl }

  pub sent : (r : Right) → Becomes x (with_sent r x) None (r ∷ [])
  sent r = record { weighs = λ W. omega (arith, weigh_sent W r x); made = omega arith; rises = λ h. h }

  pub pended : (p : Option PendingStart) → Becomes x (with_pending p x) x.pending (start_of p)
  pended p = record { weighs = λ W. pending_weighs W p x; made = omega arith; rises = λ h. h }

  -- the first of the inbox as a port, unless there was no memory
  pub receiving : (b : Bool) → Becomes x (cond b x (received x)) None []
  receiving true = as_it_was
  receiving false = record { weighs = λ W. omega (arith, weigh_received W x); made = made x.inbox refl; rises = rises x.inbox refl }
    where
      made : (l : List Right) → x.inbox ≡ l → x.made ≤ (received x).made
      made [] e = rw e (omega arith)
      made (r ∷ rs) e = rw e (omega arith)

      rises : (l : List Right) → x.inbox ≡ l → NumbersRise 0 x.next x.ports → NumbersRise 0 (received x).next (received x).ports
      rises [] e = rw e (λ h. h)
      rises (r ∷ rs) e = rw e (rise-push 0 x.next x.ports (record { number = x.next; right = r }) refl)

-- the tables with this task in its place
abbrev pub put : PortState → ℕ → Task → PortState
put h t y = record h { tasks = slice_set h.tasks t y }

-- such a task may stand in its place
sound-put : (h : PortState) (t : ℕ) (x y : Task) (gone : Option PendingStart) (come : List Right) → IsSound h → slice_get h.tasks t ≡ Some x → Becomes x y gone come → IsSound (put h t y)
sound-put h t x y gone come sound at now = record {
  settled = λ q w is. held-grows h.tasks t x y q at (omega (arith, now.weighs (λ r. one_if (names_open q r)), none_opened q gone)) (sound.settled q w is);
  given = λ q w is. given-set h.tasks t x y q at now.made (sound.given q w is);
  numbered = numbers-set h.tasks t x y at sound.numbered (now.rises (sound.numbered t x at));
}

-- a task is there where the test says so
pub task-there : (os : OpenMap) (ss : List TaskSeat) (t : ℕ) (u : Unit {0}) → ◌≡◌ {A = Result (Unit {0}) Errno} (Ok u) (if nat_lt t (length (state_of os ss).tasks) then Ok tt else Err ESRCH) → t < length ss
task-there os ss t u is =
    let below : nat_lt t (length (tasks_of ss)) ≡ true = go (nat_lt t (length (tasks_of ss))) is in
    let same : length (tasks_of ss) ≡ length ss = length-map ss seat_task in
    grind (arith, nat_tests)
  where
    go : (b : Bool) → ◌≡◌ {A = Result (Unit {0}) Errno} (Ok u) (if b then Ok tt else Err ESRCH) → b ≡ true
    go true h = refl
    go false h = absurd (cc)

-- in the code, the seat of a task
pub record SeatAt (os : OpenMap) (ss : List TaskSeat) (t : ℕ) (s : TaskSeat) : Type 0 where
  pub is : slice_get ss t ≡ Some s

module _ {os : OpenMap} {ss : List TaskSeat} {t : ℕ} {s : TaskSeat} (seat : SeatAt os ss t s) where
  pub there : slice_get (tasks_of ss) t ≡ Some (seat_task s)
  there = seat-there ss t s seat.is

  seat-put : (new : TaskSeat) (y : Task) → seat_task new ≡ y → state_of os (slice_set ss t new) ≡ put (state_of os ss) t y
  seat-put new y is = same_halves _ _ _ _ refl (seat-changed ss t new y is)

  put-same : put (state_of os ss) t (seat_task s) ≡ state_of os ss
  put-same = same_halves _ _ _ _ refl (set-same (tasks_of ss) t (seat_task s) there)

  -- where opens and the table of the seat have other room, nothing else changes
  pub seat-kept : (news : OpenMap) (new : TaskSeat) → seat_task new ≡ seat_task s → news ≡ os → state_of news (slice_set ss t new) ≡ state_of os ss
  seat-kept news new same kept = rw kept (seat-put new (seat_task s) same ∙ put-same)

  -- what is reserved stays where the seat keeps its ports
  pub ready-kept : {room : ℕ} {b : Book} (ready : Option TaskId) (new : TaskSeat) → IsKept os room b ss ready → new.ports ≡ s.ports → IsReady room b (slice_set ss t new) ready
  ready-kept None new kept same = tt
  ready-kept (Some r) new kept same = (
    kept.spare.0,
    elim (one_or_other r.0 t) [
      | inl e ↦ let was = rw (e, seat.is) at kept.spare.1 in rw (e, set-here ss t s new seat.is, same) was
      | inr apart ↦ rw (set-apart ss t new r.0 apart) kept.spare.1
    ],
  )

  -- what holds of the tables holds of them still
  pub kept-changed : {room now_room : ℕ} {b : Book} {ready now : Option TaskId} {y : Task} {gone : Option PendingStart} {come : List Right} (l : Book) (new : TaskSeat) → IsKept os room b ss ready → Becomes (seat_task s) y gone come → seat_task new ≡ y → weigh_list excess come ≡ 0
      → ((k : Sort) (n : Name) → count_of k n l + weigh_list (naming k n) (start_of gone) ≡ count_of k n b + weigh_list (naming k n) come) → IsReady now_room l (slice_set ss t new) now → IsKept os now_room l (slice_set ss t new) now
  kept-changed {b = b} {y = y} {gone = gone} {come = come} l new kept becomes is fine counts spare = record {
    sound = rw (seat-put new y is) (sound-put (state_of os ss) t (seat_task s) y gone come kept.sound there becomes);
    counted = counted-changed b l ss t s new seat.is kept.counted (start_of gone) come (λ W. ap (λ (z : Task). weigh_list W (rights_of z) + weigh_list W (start_of gone)) is ∙ becomes.weighs W) fine counts;
    spare = spare;
  }

  -- a step that changes this seat, where there was memory
  pub seat-did : {A : Type 0} (v : A) (whole : A × PortState) (new : TaskSeat) (y : Task) → whole ≡ (v, put (state_of os ss) t y) → seat_task new ≡ y → (v, state_of os (slice_set ss t new)) ≡ whole
  seat-did v whole new y step is = ap (λ (k : PortState). (v, k)) (seat-put new y is) ∙ sym step

  pub seat-answered : {T : Type 0} (v : T) (whole : Result T Errno × PortState) (new : TaskSeat) (y : Task) → whole ≡ (Ok v, put (state_of os ss) t y) → seat_task new ≡ y → Steps (state_of os ss) whole (Ok v) (state_of os (slice_set ss t new))
  seat-answered v whole new y step is = rw (← seat-did (Ok v) whole new y step is) (record { answered = refl; left = refl })

  -- and where there was none
  pub seat-short : {T : Type 0} (v : T) (whole : Result T Errno × PortState) (new : TaskSeat) (y : PortState) → whole ≡ (Ok v, y) → seat_task new ≡ seat_task s → Steps (state_of os ss) whole (Err ENOMEM) (state_of os (slice_set ss t new))
  seat-short v whole new y step kept = rw (seat-put new (seat_task s) kept, put-same) (steps-short whole (state_of os ss) v y step)

  put-found : {T : Type 0} (v : T) (f : Task → Task) → ◌≡◌ {A = Result T Errno × PortState} (Ok v, record (state_of os ss) { tasks = edit_task t f (tasks_of ss) }) (Ok v, put (state_of os ss) t (f (seat_task s)))
  put-found {T} v f = ap (λ (ts : List Task). let a : Result T Errno × PortState = (Ok v, record (state_of os ss) { tasks = ts }) in a) (edit-found t f (tasks_of ss) (seat_task s) there)

  -- the steps

  pub share-done : (r : Right) → has_room 0 (seat_task s) ≡ true → share_step t r (state_of os ss) ≡ (Ok s.next, put (state_of os ss) t (with_port r (seat_task s)))
  share-done r room = ap (share_at (state_of os ss) t r) there ∙ rw room (put-found s.next (with_port r))

  pub send-done : (q p : ℕ) (r : Right) → right_of (state_of os ss) q p ≡ Ok r → t < length ss → send_step q p t (state_of os ss) ≡ (Ok tt, put (state_of os ss) t (with_sent r (seat_task s)))
  send-done q p r right below =
      let same : length (tasks_of ss) ≡ length ss = length-map ss seat_task in
      let is : nat_lt t (length (tasks_of ss)) ≡ true = grind (arith, nat_tests) in
      ap (sent_to (state_of os ss) t) right ∙ rw is (put-found tt (with_sent r))

  pub take_ids-done : (ids : IdSets) → take_ids_step t ids (state_of os ss) ≡ (Ok tt, put (state_of os ss) t (with_ids ids (seat_task s)))
  take_ids-done ids = ap (take_ids_at (state_of os ss) t ids) there ∙ put-found tt (with_ids ids)

  pub pend-done : (p : Option PendingStart) → pend_step t p (state_of os ss) ≡ (Ok tt, put (state_of os ss) t (with_pending p (seat_task s)))
  pend-done p = ap (pend_at (state_of os ss) t p) there ∙ put-found tt (with_pending p)

  pub seat-received : (new : TaskSeat) (got : Result ℕ Errno) → 0 < length s.inbox.items → has_room 0 (seat_task s) ≡ true → Steps (seat_task s) (Ok s.next, received (seat_task s)) got (seat_task new) → Steps (state_of os ss) (receive_step t (state_of os ss)) got (state_of os (slice_set ss t new))
  seat-received new got some room steps = rw (seat-put new (seat_task new) refl) (rw put-same at (steps-inside (put (state_of os ss) t) (seat_task s) (seat_task new) (Ok s.next, received (seat_task s)) (receive_step t (state_of os ss)) got (ap (receive_at (state_of os ss) t) there ∙ go s.inbox.items some) steps))
    where
      go : (rs : List Right) → 0 < length rs → taken_by (state_of os ss) t (seat_task s) rs ≡ (Ok s.next, put (state_of os ss) t (received (seat_task s)))
      go [] e = absurd (omega arith)
      go (r ∷ rs) e = rw room (put-found s.next received)

  pub seat-named : (new : TaskSeat) → seat_task new ≡ named 1 (seat_task s) → state_of os (slice_set ss t new) ≡ name_step t (state_of os ss)
  seat-named new is = seat-put new (named 1 (seat_task s)) is ∙ sym (same_halves _ _ _ _ refl (edit-found t (named 1) (tasks_of ss) (seat_task s) there))

  -- a right that was shared is under its number
  pub shared-new : (new : TaskSeat) (r : Right) → IsSound (state_of os ss) → seat_task new ≡ with_port r (seat_task s) → right_of (state_of os (slice_set ss t new)) t s.next ≡ Ok r
  shared-new new r sound is =
      ap (right_at s.next) (seat-there (slice_set ss t new) t new (set-here ss t s new seat.is) ∙ ap Some is) ∙ ap (or_refuse EBADF) (next_found 0 s.next s.ports.items r (sound.numbered t (seat_task s) there))

  -- where the seat keeps its ports, each right is where it was
  pub right-kept : (new : TaskSeat) (q p : ℕ) → (seat_task new).ports ≡ s.ports.items → right_of (state_of os (slice_set ss t new)) q p ≡ right_of (state_of os ss) q p
  right-kept new q p same = ap (λ (h : PortState). right_of h q p) (seat-put new (seat_task new) refl) ∙ elim (one_or_other q t) [
    | inl e ↦ rw e (ap (right_at p) (set-here (tasks_of ss) t (seat_task s) (seat_task new) there) ∙ ap (λ (ps : List Port). or_refuse EBADF (right_in p ps)) same ∙ sym (ap (right_at p) there))
    | inr apart ↦ ap (right_at p) (set-apart (tasks_of ss) t (seat_task new) q apart)
  ]
