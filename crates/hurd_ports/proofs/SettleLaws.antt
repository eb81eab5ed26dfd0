-- A port that goes, with its open where no other right names that.
use Rattle.std.proofs.Common.{◌≡◌, ◌+◌, ◌≤◌, arith, ◌≢◌, ◌⊎◌, inl, inr, ℕ, List, [], ◌∷◌, Bool, true, false, if◌then◌else◌, refl, ap, sym, ◌∙◌}
use Rattle.std.specs.Prelude.{Option, Some, None, Result, Ok, Err, nat_lt, slice_get, slice_set}
use Rattle.std.specs.Option.{option_map_or}
use Rattle.std.specs.FinMap as fin
use Rattle.hurd_creds.specs.declared.name.Name.{Name}
use Rattle.hurd_creds.specs.declared.errno.Errno.{Errno}
use Rattle.hurd_creds.specs.declared.errno.Errno.TheVariants.{EBADF}
use Rattle.hurd_creds.proofs.NameLaws.{same_or_apart, remove_here, remove_apart}
use Rattle.hurd_ports.specs.declared.table.Opened.{Opened}
use Rattle.hurd_ports.specs.declared.table.Right.{Right}
use Rattle.hurd_ports.specs.declared.table.TaskSeat.{TaskSeat}
use Rattle.hurd_ports.specs.Tables.{Task, PortState, OpenMap, is_held, rights_of, open_of, right_in}
use Rattle.hurd_ports.specs.Steps.{without_port, settled_by, deallocate_step, dropped, deallocate_at}
use Rattle.hurd_ports.specs.Sound.{IsSound}
use Rattle.hurd_ports.specs.declared.book.Book.{Book}
use Rattle.hurd_creds.specs.Weights.{weigh_list}
use Rattle.hurd_ports.specs.Counts.{AreCounted, Opens, Sort, count_of, is_counted, naming, unheld}
use Rattle.hurd_ports.specs.Seats.{seat_task, tasks_of, state_of}
use Rattle.hurd_ports.proofs.CountLaws.{counted-changed, held-counted}
use Rattle.hurd_ports.proofs.WeightLaws.{weigh_at, weigh_dropped}
use Rattle.hurd_ports.proofs.TaskLaws.{edit-found}
use Rattle.hurd_ports.proofs.HeldLaws.{held-without}
use Rattle.hurd_ports.proofs.SoundLaws.{given-set, numbers-set, rise-without}
use Rattle.hurd_ports.proofs.SeatLaws.{same_halves, seat-there, seat-changed}

-- an open that stays was there, and is held if it was looked at
settled_had : (held : Name → Bool) (o : Option Name) (m : OpenMap) (q : Name) (w : Opened) → fin.get (settled_by held o m) q ≡ Some w → (fin.get m q ≡ Some w) × ((held q ≡ true) ⊎ (o ≢ Some q))
settled_had held None m q w is = (is, inr (λ e. absurd (cc)))
settled_had held (Some n) m q w is = go (held n) refl is
  where
    go : (b : Bool) → held n ≡ b → fin.get (if b then m else fin.remove m n) q ≡ Some w → (fin.get m q ≡ Some w) × ((held q ≡ true) ⊎ (Some n ≢ Some q))
    go true e is = (is, elim (same_or_apart q n) [ inl here ↦ inl (rw here e) | inr apart ↦ inr (λ same. apart (cc)) ])
    go false e is = elim (same_or_apart q n) [
      | inl here ↦ let none = rw here at is in let gone = remove_here m n in absurd (cc)
      | inr apart ↦ (sym (remove_apart m n q apart) ∙ is, inr (λ same. apart (cc)))
    ]

-- what is held may be told in another way
settled-alike : (f g : Name → Bool) (o : Option Name) (m : OpenMap) → ((q : Name) → f q ≡ g q) → settled_by f o m ≡ settled_by g o m
settled-alike f g None m same = refl
settled-alike f g (Some n) m same = ap (λ (b : Bool). if b then m else fin.remove m n) (same n)

-- without what goes, what is held stays
settled-unheld : (held : Name → Bool) (o : Option Name) (m : OpenMap) → option_map_or (λ n. fin.remove m n) (unheld held o) m ≡ settled_by held o m
settled-unheld held None m = refl
settled-unheld held (Some n) m = go (held n)
  where
    go : (b : Bool) → option_map_or (λ n. fin.remove m n) (if b then None else Some n) m ≡ (if b then m else fin.remove m n)
    go true = refl
    go false = refl

-- the tables are sound without a port, and without its open where no right names that
sound-dropped : (h : PortState) (t p : ℕ) (x : Task) (r : Right) → IsSound h → slice_get h.tasks t ≡ Some x → right_in p x.ports ≡ Some r
    → let ts = slice_set h.tasks t (without_port p x) in IsSound (record { opens = settled_by (is_held ts) (open_of r) h.opens; tasks = ts })
sound-dropped h t p x r sound there right = record {
  settled = λ q w is.
      let had = settled_had (is_held ts) (open_of r) h.opens q w is in
      elim had.1 [ inl held ↦ held | inr apart ↦ held-without h.tasks t p x r q there right apart ∙ sound.settled q w had.0 ];
  given = λ q w is. given-set h.tasks t x (without_port p x) q there (omega arith) (sound.given q w (settled_had (is_held ts) (open_of r) h.opens q w is).0);
  numbered = numbers-set h.tasks t x (without_port p x) there sound.numbered (rise-without 0 x.next p x.ports (sound.numbered t x there));
}
  where
    ts : List Task
    ts = slice_set h.tasks t (without_port p x)

-- a port was given up
pub record Dropped (h k : PortState) (t p : ℕ) : Type 0 where
  pub step : (Ok tt, k) ≡ deallocate_step t p h
  pub sound : IsSound k

-- of a seat that has a right under a number
module _ (b : Book) (ss : List TaskSeat) (t p : ℕ) (s : TaskSeat) (r : Right) (at : slice_get ss t ≡ Some s) (right : right_in p s.ports.items ≡ Some r) where
  -- what the right names is counted
  pub right-counted : AreCounted b (tasks_of ss) → (k : Sort) (n : Name) → naming k n r ≤ count_of k n b
  right-counted counts k n =
      omega (arith, weigh_dropped (naming k n) p (seat_task s) r right, weigh_at (naming k n) (tasks_of ss) t (seat_task s) (seat-there ss t s at), counts.all k n)

  -- without its port the counts are right where one less is counted
  pub right-uncounted : (l : Book) (new : TaskSeat) → AreCounted b (tasks_of ss) → seat_task new ≡ without_port p (seat_task s) → ((k : Sort) (n : Name) → count_of k n l + naming k n r ≡ count_of k n b) → AreCounted l (tasks_of (slice_set ss t new))
  right-uncounted l new counts less taken =
      counted-changed b l ss t s new at counts (r ∷ []) [] (λ W. let now = ap (λ (x : Task). weigh_list W (rights_of x)) less in omega (arith, weigh_dropped W p (seat_task s) r right)) refl (λ k n. omega (arith, taken k n))

  -- where its seat lost it, and its open was looked at
  pub deallocated : (os news : OpenMap) (new : TaskSeat) → IsSound (state_of os ss) → seat_task new ≡ without_port p (seat_task s) → AreCounted b (tasks_of (slice_set ss t new))
      → news ≡ option_map_or (λ n. fin.remove os n) (unheld (is_counted Opens b) (open_of r)) os → Dropped (state_of os ss) (state_of news (slice_set ss t new)) t p
  deallocated os news new sound less counts opens =
      let h : PortState = state_of os ss in
      let x : Task = seat_task s in
      let there : slice_get h.tasks t ≡ Some x = seat-there ss t s at in
      let ts : List Task = slice_set h.tasks t (without_port p x) in
      let tasks : tasks_of (slice_set ss t new) ≡ ts = seat-changed ss t new (without_port p x) less in
      let left : news ≡ settled_by (is_held ts) (open_of r) os =
      opens ∙ settled-unheld (is_counted Opens b) (open_of r) os ∙ settled-alike (is_counted Opens b) (is_held (tasks_of (slice_set ss t new))) (open_of r) os (λ q. ap (nat_lt 0) (counts.all Opens q) ∙ sym (held-counted (tasks_of (slice_set ss t new)) q))
      ∙ ap (λ (us : List Task). settled_by (is_held us) (open_of r) os) tasks in
      let step : deallocate_step t p h ≡ (Ok tt, record { opens = settled_by (is_held ts) (open_of r) os; tasks = ts }) =
      ap (deallocate_at h t p) there ∙ ap (dropped h t p) right
      ∙ ap (λ (us : List Task). let a : Result (Unit {0}) Errno × PortState = (Ok tt, record { opens = settled_by (is_held us) (open_of r) os; tasks = us }) in a) (edit-found t (without_port p) h.tasks x there) in
      rw (same_halves _ _ _ _ left tasks) (record { step = sym step; sound = sound-dropped h t p x r sound there right })

-- where a seat has no right under a number
pub no-right : (os : OpenMap) (ss : List TaskSeat) (t p : ℕ) (s : TaskSeat) → slice_get ss t ≡ Some s → None ≡ right_in p s.ports.items → (Err EBADF, state_of os ss) ≡ deallocate_step t p (state_of os ss)
no-right os ss t p s at none = sym (ap (deallocate_at (state_of os ss) t p) (seat-there ss t s at) ∙ ap (dropped (state_of os ss) t p) (sym none))
