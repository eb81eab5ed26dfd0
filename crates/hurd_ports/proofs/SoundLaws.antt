-- Each change keeps the tables sound.
use Rattle.std.proofs.Common.{◌≡◌, inl, inr, ℕ, ◌+◌, ◌≤◌, ◌==◌, List, [], ◌∷◌, ◌++◌, Bool, true, false, if◌then◌else◌, refl, ap, sym, subst, ◌∙◌, arith}
use Rattle.std.specs.Prelude.{Option, Some, None, Err, slice_get, slice_set}
use Rattle.std.specs.Option.{option_map}
use Rattle.std.specs.FinMap as fin
use Rattle.hurd_creds.specs.declared.name.Name.{Name}
use Rattle.hurd_creds.specs.declared.open_flags.OpenFlags.{OpenFlags}
use Rattle.hurd_creds.specs.Access.{IdSets}
use Rattle.hurd_creds.specs.Names.{name_cmp}
use Rattle.hurd_creds.proofs.NameLaws.{same_or_apart, get_apart, edit_here, edit_apart}
use Rattle.hurd_creds.specs.NameMaps.{edit}
use Rattle.hurd_ports.specs.declared.parents.Parent.{Parent}
use Rattle.hurd_ports.specs.declared.table.Opened.{Opened}
use Rattle.hurd_ports.specs.declared.table.Port.{Port}
use Rattle.hurd_ports.specs.declared.table.Right.{Right}
use Rattle.hurd_creds.specs.Weights.{one_if}
use Rattle.hurd_ports.specs.Tables.{Task, PortState, OpenMap, names_open, fresh, right_in, right_of}
use Rattle.hurd_ports.specs.Steps.{new_task, starting_at, named, new_open, new_right, with_port, with_new_port, ports_without}
use Rattle.hurd_ports.specs.Sound.{IsSound, IsGiven, NumbersRise}
use Rattle.hurd_creds.specs.declared.errno.Errno.TheVariants.{EBADF}
use Rattle.hurd_ports.proofs.PlaceLaws.{same_test, apart_test}
use Rattle.hurd_ports.proofs.TaskLaws.{set-here, set-apart, set-cases, one_or_other, map-origin, edit-edit}
use Rattle.hurd_ports.proofs.WeightLaws.{port_weighs}
use Rattle.hurd_ports.proofs.HeldLaws.{held-grows, held-here, names_own, namings}

-- numbers

rise_to : (low n : ℕ) (ps : List Port) → NumbersRise low n ps → low ≤ n
rise_to low n [] h = h
rise_to low n (x ∷ ps) h = let a = h.0 in let b = rise_to (x.number + 1) n ps h.1 in omega arith

rise_from : (low lower n : ℕ) (ps : List Port) → lower ≤ low → NumbersRise low n ps → NumbersRise lower n ps
rise_from low lower n [] le h = omega arith
rise_from low lower n (x ∷ ps) le h = let a = h.0 in (omega arith, h.1)

-- no port has the next number
next_absent : (low n : ℕ) (ps : List Port) → NumbersRise low n ps → right_in n ps ≡ None
next_absent low n [] h = refl
next_absent low n (x ∷ ps) h =
    let b = rise_to (x.number + 1) n ps h.1 in
    rw (apart_test n x.number (λ e. omega arith)) (next_absent (x.number + 1) n ps h.1)

-- a port of the next number is found, last of all
pub next_found : (low n : ℕ) (ps : List Port) (r : Right) → NumbersRise low n ps → right_in n (ps ++ record { number = n; right = r } ∷ []) ≡ Some r
next_found low n [] r h = rw (same_test n) refl
next_found low n (x ∷ ps) r h =
    let b = rise_to (x.number + 1) n ps h.1 in
    rw (apart_test n x.number (λ e. omega arith)) (next_found (x.number + 1) n ps r h.1)

pub rise-push : (low n : ℕ) (ps : List Port) (p : Port) → p.number ≡ n → NumbersRise low n ps → NumbersRise low (n + 1) (ps ++ p ∷ [])
rise-push low n [] p e h = (omega arith, omega arith)
rise-push low n (x ∷ ps) p e h = (h.0, rise-push (x.number + 1) n ps p e h.1)

pub rise-without : (low n q : ℕ) (ps : List Port) → NumbersRise low n ps → NumbersRise low n (ports_without q ps)
rise-without low n q [] h = h
rise-without low n q (x ∷ ps) h = go (q == x.number) (rise-without (x.number + 1) n q ps h.1)
  where
    go : (b : Bool) → NumbersRise (x.number + 1) n (ports_without q ps) → NumbersRise low n (if b then ps else x ∷ ports_without q ps)
    go true rest = rise_from (x.number + 1) low n ps (let a = h.0 in omega arith) h.1
    go false rest = (h.0, rest)

-- tables of tasks that have no ports
pub sound-starting : (ids : List IdSets) (next : ℕ) → IsSound (starting_at ids next)
sound-starting ids next = record {
  settled = λ n o h. absurd (empty_has n o h);
  given = λ n o h. absurd (empty_has n o h);
  numbered = λ t x h. let from = map-origin (new_task next) ids t x h in subst (λ (z : Task). NumbersRise 0 z.next z.ports) from.2 (omega arith);
}
  where
    empty_has : (n : Name) (o : Opened) → fin.get {R = name_cmp} fin.empty n ≡ Some o → ⊥
    empty_has n o h = let none = fin.get-empty {X = Opened} name_cmp n in absurd (cc)

-- a name that a task has given stays given where the task made no fewer things
pub given-set : (ts : List Task) (t : ℕ) (x y : Task) (n : Name) → slice_get ts t ≡ Some x → x.made ≤ y.made → IsGiven ts n → IsGiven (slice_set ts t y) n
given-set ts t x y n at le h = elim (one_or_other n.task.0 t) [
  | inl e ↦
      let here : slice_get (slice_set ts t y) n.task.0 ≡ Some y = ap (slice_get (slice_set ts t y)) e ∙ set-here ts t x y at in
      let was : slice_get ts n.task.0 ≡ Some x = ap (slice_get ts) e ∙ at in
      let below = rw was at h in
      rw here (omega arith)
  | inr apart ↦ rw (set-apart ts t y n.task.0 apart) h
]

pub numbers-set : (ts : List Task) (t : ℕ) (x y : Task) → slice_get ts t ≡ Some x → ((q : ℕ) (z : Task) → slice_get ts q ≡ Some z → NumbersRise 0 z.next z.ports) → NumbersRise 0 y.next y.ports
    → (q : ℕ) (z : Task) → slice_get (slice_set ts t y) q ≡ Some z → NumbersRise 0 z.next z.ports
numbers-set ts t x y at rises here q z is = elim (set-cases ts t x y q z at is) [
  | inl both ↦ subst (λ (w : Task). NumbersRise 0 w.next w.ports) (sym both.1) here
  | inr there ↦ rises q z there
]

-- a task that is there

module _ (h : PortState) (t : ℕ) (x : Task) (sound : IsSound h) (at : slice_get h.tasks t ≡ Some x) where
  -- none of its ports has its next number
  pub number-new : right_of h t x.next ≡ Err EBADF
  number-new = rw (at, next_absent 0 x.next x.ports (sound.numbered t x at)) refl

  -- it may have one more port, with an open of its own
  pub sound-inserted : (n : Name) (ids : IdSets) (parents : List Parent) (modes : OpenFlags) → IsSound (with_new_port t n ids parents modes x h)
  sound-inserted n ids parents modes = rw (edit-edit t (with_port right) (named 1) h.tasks x at) added
    where
      right : Right
      right = new_right t n ids parents x

      port : Port
      port = record { number = x.next; right = right }

      y : Task
      y = with_port right (named 1 x)

      more : (q : Name) → namings q y ≡ namings q x + one_if (names_open q right)
      more q = port_weighs (λ z. one_if (names_open q z)) right (named 1 x)

      added : IsSound (record { opens = fin.insert h.opens (fresh t x) (new_open n modes); tasks = slice_set h.tasks t y })
      added = record {
        settled = λ q w is. elim (same_or_apart q (fresh t x)) [
          | inl e ↦ held-here h.tasks t x y q at (omega (arith, more q, ap one_if (names_own q right (ap Some (sym e)))))
          | inr apart ↦ held-grows h.tasks t x y q at (omega (arith, more q)) (sound.settled q w (sym (get_apart h.opens (fresh t x) (new_open n modes) q apart) ∙ is))
        ];
        given = λ q w is. elim (same_or_apart q (fresh t x)) [
          | inl e ↦ rw (e, set-here h.tasks t x y at) (omega arith)
          | inr apart ↦ given-set h.tasks t x y q at (omega arith) (sound.given q w (sym (get_apart h.opens (fresh t x) (new_open n modes) q apart) ∙ is))
        ];
        numbered = numbers-set h.tasks t x y at sound.numbered (rise-push 0 x.next x.ports port refl (sound.numbered t x at));
      }

-- an edit makes no open
edit_had : (m : OpenMap) (n : Name) (f : Opened → Opened) (q : Name) (w : Opened) → fin.get (edit n f m) q ≡ Some w → (v : Opened) × (fin.get m q ≡ Some v)
edit_had m n f q w is = elim (same_or_apart q n) [
  | inl e ↦
      let same : fin.get m q ≡ fin.get m n = ap (fin.get m) e in
      let edited : fin.get (edit n f m) q ≡ fin.get (edit n f m) n = ap (fin.get (edit n f m)) e in
      let had = here (fin.get m n) (sym (edit_here m n f) ∙ sym edited ∙ is) in
      (had.0, same ∙ had.1)
  | inr apart ↦ (w, sym (edit_apart m n f q apart) ∙ is)
]
  where
    here : (o : Option Opened) → option_map f o ≡ Some w → (v : Opened) × (o ≡ Some v)
    here None e = absurd (cc)
    here (Some v) e = (v, refl)

-- the tables are sound where an open is another
pub sound-open : (h : PortState) (n : Name) (f : Opened → Opened) → IsSound h → IsSound (record h { opens = edit n f h.opens })
sound-open h n f sound = record {
  settled = λ q w is. let v = edit_had h.opens n f q w is in sound.settled q v.0 v.1;
  given = λ q w is. let v = edit_had h.opens n f q w is in sound.given q v.0 v.1;
  numbered = sound.numbered;
}
