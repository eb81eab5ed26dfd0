-- What reads and writes touch, by the port that they are made by.
use Rattle.std.proofs.Common.{◌≡◌, ◌⊎◌, not, ℕ, ℤ, Bool, true, false, List, [], ◌∷◌, refl, ap, inl, inr}
use Rattle.std.specs.Prelude.{Result, Ok, Err}
use Rattle.hurd_machine.proofs.Common.{Change, Did, EditOpen, Errno, Name, OnDid, OpenOf, Part, Question, READ, WRITE, World, asked_at, asked_parts, handle_asks, is_dir, stream_at}
use Rattle.hurd_machine.specs.declared.handle.Handle.{Handle}
use Rattle.hurd_machine.proofs.Asks.{first_ok, given_ok}
use Rattle.hurd_io.specs.declared.offset.Offset.{Offset}
use Rattle.hurd_io.specs.declared.offset.Offset.TheVariants.{At, Cursor}
use Rattle.hurd_io.specs.declared.offset.IoAt.{IoAt}
use Rattle.hurd_ports.specs.declared.table.Opened.{Opened}
use Rattle.hurd_ports.specs.Steps.{at_cursor}
use Rattle.hurd_io.specs.Io.{moved, Moves, io_at, offset_of, read_asks, reads, touches_read, write_asks, write_cursor, writes, touches_write}

moves_open : (f : Offset) (stream : Bool) (o : Name) (p : Part) → Moves f stream o p → p ≡ OpenOf o
moves_open (At n) stream o p on = absurd on
moves_open Cursor true o p on = absurd on
moves_open Cursor false o p on = on

parts_of : {A P : Type 0} (x : Result A Errno) (k : A → Part → Type 0) (p : Part) → ((a : A) → x ≡ Ok a → k a p → P) → asked_parts x k p → P
unfolding asked_parts
parts_of (Err e) k p h on = absurd on
parts_of (Ok a) k p h on = h a refl on

-- what a call touches that asks this of what a port has open: what the server does to the node, or the open
pub record Touches {T : Type 0} (w : World) (t p mode : ℕ) (q : IoAt → Question T) (k : Part) : Type 0 where
  pub handle : Handle
  pub is_handle : handle_asks w t p mode ≡ Ok handle
  pub on : ((at : IoAt) × (d : Did T) × (asked_at (q at) handle.node w ≡ Ok d) × OnDid w handle.node d k) ⊎ (k ≡ OpenOf handle.open_name)

-- what a port has open for this, where a call on it begins
pub record HandleOf (w : World) (t p mode : ℕ) (a : IoAt) : Type 0 where
  pub handle : Handle
  pub is_handle : handle_asks w t p mode ≡ Ok handle
  pub node : handle.node ≡ a.node
  pub open_name : handle.open_name ≡ a.open_name

pub read_handle : (w : World) (t p : ℕ) (offset : ℤ) (a : IoAt) → read_asks w t p offset ≡ Ok a → HandleOf w t p READ a
read_handle w t p offset a is =
    let h = first_ok (handle_asks w t p READ) _ a is in
    let file = given_ok _ (not (is_dir h.0.kind)) _ a h.2 in
    let o = first_ok (offset_of offset) _ a file.1 in
    let same : io_at h.0 (stream_at w h.0.node) h.0.opened.cursor o.0 ≡ a = cc (o.2) in
    record { handle = h.0; is_handle = h.1; node = ap (λ (z : IoAt). z.node) same; open_name = ap (λ (z : IoAt). z.open_name) same }

pub write_handle : (w : World) (t p : ℕ) (offset : ℤ) (a : IoAt) → write_asks w t p offset ≡ Ok a → HandleOf w t p WRITE a
write_handle w t p offset a is =
    let h = first_ok (handle_asks w t p WRITE) _ a is in
    let o = first_ok (offset_of offset) _ a h.2 in
    let same : io_at h.0 (stream_at w h.0.node) (write_cursor h.0) o.0 ≡ a = cc (o.2) in
    record { handle = h.0; is_handle = h.1; node = ap (λ (z : IoAt). z.node) same; open_name = ap (λ (z : IoAt). z.open_name) same }

touched : {T : Type 0} (w : World) (t p mode : ℕ) (q : IoAt → Question T) (k : Part) (a : IoAt) (d : Did T) → HandleOf w t p mode a
    → asked_at (q a) a.node w ≡ Ok d → OnDid w a.node d k ⊎ Moves a.offset a.is_stream a.open_name k → Touches w t p mode q k
touched w t p mode q k a d h told on = record {
  handle = h.handle;
  is_handle = h.is_handle;
  on = elim on [
    | inl did ↦ inl (rw h.node (a, d, told, did))
    | inr moved ↦ inr (rw h.open_name (moves_open a.offset a.is_stream a.open_name k moved))
  ];
}

pub read_touches : (w : World) (t p amount : ℕ) (offset : ℤ) (k : Part) → touches_read w t p amount offset k → Touches w t p READ (reads amount w) k
read_touches w t p amount offset k = parts_of (read_asks w t p offset) _ k (λ a is. parts_of (asked_at (reads amount w a) a.node w) _ k (λ d told on.
    touched w t p READ (reads amount w) k a d (read_handle w t p offset a is) told on))

pub write_touches : (w : World) (t p : ℕ) (bytes : List ℕ) (offset : ℤ) (k : Part) → touches_write w t p bytes offset k → Touches w t p WRITE (writes bytes w) k
write_touches w t p bytes offset k = parts_of (write_asks w t p offset) _ k (λ a is. parts_of (asked_at (writes bytes w a) a.node w) _ k (λ d told on.
    touched w t p WRITE (writes bytes w) k a d (write_handle w t p offset a is) told on))

-- what holds of no changes, and of a cursor that goes to a place, each of whatever open, holds of what moves a cursor
pub moved_alike : (P : (Name → List Change) → Type 0) → P (λ o. []) → ((k : ℕ) → P (λ o. EditOpen o (at_cursor k) ∷ [])) → (f : Offset) (stream : Bool) (k : ℕ) → P (λ o. moved f stream o k)
moved_alike P none one (At n) stream k = none
moved_alike P none one Cursor true k = none
moved_alike P none one Cursor false k = one k

-- what holds of no changes, and of an edit of an open, too
pub moved_all : (P : List Change → Type 0) → P [] → ((o : Name) (f : Opened → Opened) → P (EditOpen o f ∷ [])) → (f : Offset) (stream : Bool) (o : Name) (k : ℕ) → P (moved f stream o k)
moved_all P none one f stream o k = moved_alike (λ (c : Name → List Change). P (c o)) none (λ j. one o (at_cursor j)) f stream k
