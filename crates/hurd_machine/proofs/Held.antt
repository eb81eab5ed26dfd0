-- Changes that leave each open held by a right.
use Rattle.std.proofs.Common.{◌≡◌, ℕ, true, List, [], ◌∷◌, inl, inr}
use Rattle.hurd_machine.proofs.Common.{Attach, Change, Control, EditOpen, EditTask, Io, IoRight, IsAmong, IsSettled, LetGo, MakeNode, MakeOpen, Name, Right, Send, Start, Task, World, apply, apply_all, edit_task, is_held, names_open, ports_of, rights_of, with_sent}
use Rattle.hurd_ports.specs.Steps.{named}
use Rattle.hurd_machine.proofs.Coherence.{was_settled}
use Rattle.hurd_machine.proofs.Holders.{held_by, is_any}
use Rattle.hurd_machine.proofs.Nodes.{was_edited}
use Rattle.hurd_machine.proofs.Tasks.{edit_still, sent_keeps}

-- a task function that takes no right to use a node away
abbrev pub KeepsIo : (Task → Task) → Type 0
KeepsIo f = (x : Task) (r : IoRight) → IsAmong (Io r) (rights_of x) → IsAmong (Io r) (rights_of (f x))

-- what a right holds is held yet
pub held_still : (q : ℕ) (f : Task → Task) (ts : List Task) → KeepsIo f → (o : Name) → is_held ts o ≡ true → is_held (edit_task q f ts) o ≡ true
unfolding is_held
held_still q f ts keeps o h =
    let k = held_by (names_open o) ts h in
    let r = k.right in
    elim (edit_still q f ts k.task k.seat k.is_task) [
      | inl e ↦ is_any (names_open o) (edit_task q f ts) (record { task = k.task; seat = f k.seat; is_task = e; right = r; here = io r k.seat k.here k.passes; passes = k.passes })
      | inr e ↦ is_any (names_open o) (edit_task q f ts) (record { task = k.task; seat = k.seat; is_task = e; right = r; here = k.here; passes = k.passes })
    ]
  where
    io : (r : Right) (x : Task) → IsAmong r (rights_of x) → names_open o r ≡ true → IsAmong r (rights_of (f x))
    io (Io r) x i passes = keeps x r i
    io r x i passes = absurd (cc)

-- a change that makes no open, and takes no right away that holds one
abbrev pub KeepsHeld : Change → Type 0
KeepsHeld (MakeOpen o z) = ⊥
KeepsHeld (EditTask q f) = KeepsIo f
KeepsHeld c = Unit {0}

abbrev pub AllKeepHeld : List Change → Type 0
AllKeepHeld [] = Unit {0}
AllKeepHeld (c ∷ cs) = KeepsHeld c × AllKeepHeld cs

pub held_one : (c : Change) (w : World) → KeepsHeld c → IsSettled (ports_of w) → IsSettled (ports_of (apply c w))
held_one (MakeNode n s node) w k held = λ o z e. held_still n.task.0 (named 1) w.tasks (λ x r i. i) o (held o z e)
held_one (EditOpen q f) w k held = λ o z e. elim (was_edited w.opens q o f z e) [ inl l ↦ rw (l.0) (held q l.1 l.2) | inr h ↦ held o z h ]
held_one (MakeOpen o z) w k held = absurd k
held_one (LetGo q) w k held = λ o z e. held o z (was_settled w.tasks w.opens q o z e)
held_one (EditTask q f) w k held = λ o z e. held_still q f w.tasks k o (held o z e)
held_one (Send r q) w k held = λ o z e. held_still q (with_sent r) w.tasks (λ x p i. sent_keeps r x (Io p) i) o (held o z e)
held_one (Attach s at i node) w k held = λ o z e. held_still s.task.0 (named 2) w.tasks (λ x r j. j) o (held o z e)
held_one c w k held = held

pub held_all : (cs : List Change) (w : World) → AllKeepHeld cs → IsSettled (ports_of w) → IsSettled (ports_of (apply_all cs w))
held_all [] w k held = held
held_all (c ∷ cs) w k held = held_all cs (apply c w) k.1 (held_one c w k.0 held)
