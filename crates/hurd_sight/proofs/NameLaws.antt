-- Names that are added, one thing after another.
use Rattle.std.proofs.Common.{◌≡◌, ◌∙◌, ◌⊎◌, inl, inr, sym, refl, ap, subst, true, false, true≢false, List, [], ◌∷◌, ◌++◌, map}
use Rattle.std.specs.Prelude.{◌||◌, ◌↔◌, Option, Some, None}
use Rattle.hurd_machine.proofs.Common.{IsAmong, Name, OpenMap, PendingStart, Right, Task, flat_map, rights_of, same_name, start_of}
use Rattle.std.proofs.lemmas.Bool.{or_cases, or_left, or_right, cases_Bool}
use Rattle.std.proofs.lemmas.List.{map-append}
use Rattle.std.proofs.lemmas.List.Folds.{list_any-append}
use Rattle.hurd_creds.proofs.NameLaws.{equal_if_same, same_name-itself}
use Rattle.hurd_ports.specs.declared.table.Port.{Port}
use Rattle.hurd_sight.specs.declared.held.RightNames.{RightNames}
use Rattle.hurd_sight.specs.Parts.{is_in, named, named_more, no_names, with_right, with_rights}
use Rattle.hurd_sight.proofs.WalkLaws.{Walk}
use Rattle.std.proofs.Math.Bool.{or-false}

abbrev pub Names : Type 0
Names = List Name

-- which names are there, when one or several were added

more_kept : (n x : Name) (ns : Names) → is_in n ns ≡ true → is_in n (named_more x ns) ≡ true
more_kept n x ns i = elim (cases_Bool (is_in x ns)) [
  | inl there ↦ rw there i
  | inr absent ↦ rw absent (list_any-append (same_name n) ns (x ∷ []) ∙ or_left (is_in n ns) (same_name n x || false) i)
]

more_there : (n : Name) (ns : Names) → is_in n (named_more n ns) ≡ true
more_there n ns = elim (cases_Bool (is_in n ns)) [
  | inl there ↦ rw there there
  | inr absent ↦ rw absent (list_any-append (same_name n) ns (n ∷ []) ∙ or_right (is_in n ns) (same_name n n || false) (or_left (same_name n n) false (same_name-itself n)))
]

more_said : (n x : Name) (ns : Names) → is_in n (named_more x ns) ≡ true → (is_in n ns ≡ true) ⊎ (n ≡ x)
more_said n x ns i = elim (cases_Bool (is_in x ns)) [
  | inl there ↦ inl (rw there at i)
  | inr absent ↦ elim (or_cases (is_in n ns) (same_name n x || false) (sym (list_any-append (same_name n) ns (x ∷ [])) ∙ (rw absent at i))) [
    | inl old ↦ inl old
    | inr new ↦ inr (equal_if_same n x (sym (or-false (same_name n x)) ∙ new))
  ]
]

named_kept : (n : Name) (xs ns : Names) → is_in n ns ≡ true → is_in n (named xs ns) ≡ true
named_kept n [] ns i = i
named_kept n (x ∷ xs) ns i = named_kept n xs (named_more x ns) (more_kept n x ns i)

named_there : (n : Name) (xs ns : Names) → IsAmong n xs → is_in n (named xs ns) ≡ true
named_there n [] ns a = absurd a
named_there n (x ∷ xs) ns (inl e) = named_kept n xs (named_more x ns) (subst (λ (z : Name). is_in n (named_more z ns) ≡ true) (sym e) (more_there n ns))
named_there n (x ∷ xs) ns (inr a) = named_there n xs (named_more x ns) a

named_said : (n : Name) (xs ns : Names) → is_in n (named xs ns) ≡ true → (is_in n ns ≡ true) ⊎ IsAmong n xs
named_said n [] ns i = inl i
named_said n (x ∷ xs) ns i = elim (named_said n xs (named_more x ns) i) [
  | inl old ↦ elim (more_said n x ns old) [ inl older ↦ inl older | inr is ↦ inr (inl (sym is)) ]
  | inr a ↦ inr (inr a)
]

-- those that were added to nothing
pub named_are : (n : Name) (xs : Names) → (is_in n (named xs []) ≡ true) ↔ IsAmong n xs
named_are n xs = (λ i. elim (named_said n xs [] i) [ inl none ↦ absurd (true≢false (sym none)) | inr a ↦ a ], named_there n xs [])

pub named-append : (xs ys ns : Names) → named (xs ++ ys) ns ≡ named ys (named xs ns)
named-append [] ys ns = refl
named-append (x ∷ xs) ys ns = named-append xs ys (named_more x ns)

-- the names of rights, one after another

pub with-append : (opens : OpenMap) (qs rs : List Right) (v : RightNames) → with_rights opens (qs ++ rs) v ≡ with_rights opens rs (with_rights opens qs v)
with-append opens [] rs v = refl
with-append opens (q ∷ qs) rs v = with-append opens qs rs (with_right opens q v)

pub with_both : (opens : OpenMap) (qs rs : List Right) (a : RightNames) {b c : RightNames} → b ≡ with_rights opens qs a → c ≡ with_rights opens rs b → c ≡ with_rights opens (qs ++ rs) a
with_both opens qs rs a first second = second ∙ (ap (with_rights opens rs) first ∙ sym (with-append opens qs rs a))

-- walks over rights, and over ports by theirs

pub rights_each : (opens : OpenMap) → Walk (λ (rs : List Right) (a b : RightNames). b ≡ with_rights opens rs a) (λ (r : Right) (b c : RightNames). c ≡ with_right opens r b)
rights_each opens = record { more = λ rs r a b c before step. with_both opens rs (r ∷ []) a before step }

pub ports_each : (opens : OpenMap) → Walk (λ (ps : List Port) (a b : RightNames). b ≡ with_rights opens (map (λ z. z.right) ps) a) (λ (p : Port) (b c : RightNames). c ≡ with_right opens p.right b)
ports_each opens = record { more = λ ps p a b c before step. rw (map-append (λ (z : Port). z.right) ps (p ∷ [])) (with_both opens (map (λ z. z.right) ps) (p.right ∷ []) a before step) }

-- each kind of name by itself

pub kind_with : (opens : OpenMap) (kind : RightNames → Names) (f : Right → Names) → ((q : Right) (v : RightNames) → kind (with_right opens q v) ≡ named (f q) (kind v))
    → (qs : List Right) (v : RightNames) → kind (with_rights opens qs v) ≡ named (flat_map f qs) (kind v)
kind_with opens kind f one [] v = refl
kind_with opens kind f one (q ∷ qs) v = kind_with opens kind f one qs (with_right opens q v) ∙ (ap (named (flat_map f qs)) (one q v) ∙ sym (named-append (f q) (flat_map f qs) (kind v)))

-- all rights of a task; its start names nothing
pub seat_rights : (opens : OpenMap) (x : Task) (a : RightNames) {b c : RightNames} → b ≡ with_rights opens (map (λ z. z.right) x.ports) a → c ≡ with_rights opens x.inbox b
    → c ≡ with_rights opens (rights_of x) a
seat_rights opens x a ports sent =
    with_both opens (start_of x.pending) (map (λ z. z.right) x.ports ++ x.inbox) a (starting x.pending)
    (with_both opens (map (λ z. z.right) x.ports) x.inbox a ports sent)
  where
    starting : (s : Option PendingStart) → a ≡ with_rights opens (start_of s) a
    starting None = refl
    starting (Some s) = refl

-- no names at first
pub all_empty : {a : RightNames} → a.opens ≡ [] → a.readable ≡ [] → a.writable ≡ [] → a.controlled ≡ [] → a ≡ no_names
all_empty opens reads writes controls = λ i. record { opens = opens i; readable = reads i; writable = writes i; controlled = controls i }
