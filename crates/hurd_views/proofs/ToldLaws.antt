-- What is kept of entries and of opens is what the world has.
use Rattle.std.proofs.Common.{◌≡◌, ◌∙◌, sym, refl, ap, ℕ, ◌+◌, ◌<◌, ◌≤◌, Bool, true, List, [], ◌∷◌, ◌++◌, take, take_all, length, get_or}
use Rattle.std.specs.Prelude.{Option, Some, None}
use Rattle.std.proofs.lemmas.List.{take_more}
use Rattle.hurd_machine.proofs.Common.{Body, Name, Opened, entry_of}
use Rattle.hurd_views.specs.Views.{entry_before, rows_in, told_if}
use Rattle.hurd_views.specs.declared.rows.EntryRow.{EntryRow}
use Rattle.hurd_views.specs.declared.rows.OpenRow.{OpenRow}

-- entries, one after another

before_more : (name : List ℕ) (o : Option Name) (xs ys : List EntryRow) → entry_before name o (xs ++ ys) ≡ entry_before name o xs ++ ys
before_more name None xs ys = refl
before_more name (Some n) xs ys = refl

rows_more : (b : Option Body) (ns : List (List ℕ)) (name : List ℕ) → rows_in b (ns ++ name ∷ []) ≡ rows_in b ns ++ entry_before name (entry_of name b) []
rows_more b [] name = refl
rows_more b (n ∷ ns) name =
    ap (entry_before n (entry_of n b)) (rows_more b ns name)
    ∙ before_more n (entry_of n b) (rows_in b ns) (entry_before name (entry_of name b) [])

pub rows_next : {old new : List EntryRow} (b : Option Body) (ns : List (List ℕ)) (i : ℕ) (name : List ℕ) → i < length ns → name ≡ get_or ns i name
    → old ≡ rows_in b (take i ns) → new ≡ old ++ entry_before name (entry_of name b) [] → new ≡ rows_in b (take (i + 1) ns)
rows_next b ns i name below at before step =
    step
    ∙ (ap (λ (rs : List EntryRow). rs ++ entry_before name (entry_of name b) []) before
    ∙ (sym (rows_more b (take i ns) name)
    ∙ ap (rows_in b) (ap (λ (x : List ℕ). take i ns ++ x ∷ []) at ∙ sym (take_more ns i name below))))

pub rows_all : {rows : List EntryRow} (b : Option Body) (ns : List (List ℕ)) (i : ℕ) → length ns ≤ i → rows ≡ rows_in b (take i ns) → rows ≡ rows_in b ns
rows_all b ns i past rows = rows ∙ ap (rows_in b) (take_all i ns past)

-- an open that is seen
pub open_told : (b : Bool) (o p : Option Opened) (h k : ℕ) → true ≡ b → o ≡ p → h ≡ k → ◌≡◌ {A = Option OpenRow} (Some (record { opened = o; holders = h })) (told_if b (record { opened = p; holders = k }))
open_told b o p h k on same counted = ap (λ (t : Bool). told_if t (record { opened = o; holders = h })) on ∙ rw (same, counted) refl
