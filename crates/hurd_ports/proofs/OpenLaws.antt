-- Opens in the map of the code, and the map that they stand for.
use Rattle.std.proofs.Common.{◌≡◌, ◌<◌, ◌≤◌, ◌+◌, ℕ, inl, inr, Bool, true, false, cond, List, [], ◌∷◌, length, map, refl, sym, ap, ◌∙◌, arith}
use Rattle.std.specs.Prelude.{Some, None}
use Rattle.std.specs.Map.{lookup}
use Rattle.std.specs.FinMap as fin
use Rattle.indexmap.specs.IndexMap.{IndexMap, get}
use Rattle.hurd_creds.specs.Names.{name_cmp, same_name}
use Rattle.hurd_creds.specs.NameMaps.{edit, keyed}
use Rattle.hurd_creds.specs.declared.name.Name.{Name}
use Rattle.hurd_creds.proofs.KeyedLaws.{get-keyed}
use Rattle.hurd_creds.proofs.NameLaws.{name_total, name_tied, same_name-itself, same_name-apart, same_map_by, same_or_apart, get_here, get_apart, remove_here, remove_apart, edit_found, edit_absent}
use Rattle.hurd_ports.specs.declared.table.Opened.{Opened}
use Rattle.hurd_ports.specs.OpenTables.{OpenEntry, least, open_key, open_value, opens_of}
use Rattle.std.proofs.lemmas.Bool.{cases_Bool}
use Rattle.std.proofs.lemmas.Bool.Decides.{nat_tests}

find-opens : (n : Name) (es : List OpenEntry) → fin.find name_cmp n (map (λ e. (open_key e, open_value e)) es) ≡ lookup (same_name n) es
find-opens n [] = refl
find-opens n (e ∷ es) = elim (cases_Bool (same_name n e.0)) [
  | inl is ↦ rw (name_tied n e.0, is) refl
  | inr is ↦ rw (name_tied n e.0, is) (find-opens n es)
]

-- what is open under a name is what is found there
pub open-got : (es : List OpenEntry) (n : Name) → fin.get (opens_of es) n ≡ lookup (same_name n) es
open-got es n = get-keyed open_key open_value es n ∙ find-opens n es

-- where the lesser of two numbers is more than 0, the first is
pub has_room : (a b : ℕ) → 0 < least a b → 0 < a
has_room a b some = grind (arith, nat_tests)

-- there are no more opens than entries
pub opens-few : (es : List OpenEntry) → fin.len (opens_of es) ≤ length es
unfolding keyed
opens-few [] = let none = fin.len-empty name_cmp Opened in omega arith
opens-few (e ∷ es) =
    let one = fin.len-insert name_total (opens_of es) e.0 e.1 in
    let rest = opens-few es in
    go (fin.contains_key (opens_of es) e.0) one rest
  where
    go : (b : Bool) → fin.len (opens_of (e ∷ es)) ≡ cond b (fin.len (opens_of es)) (fin.len (opens_of es) + 1) → fin.len (opens_of es) ≤ length es → fin.len (opens_of (e ∷ es)) ≤ length (e ∷ es)
    go true one rest = omega arith
    go false one rest = omega arith

module _ {S : Type 0} (m l : IndexMap Name Opened S) (n : Name) where
  -- an open is put
  pub open-put : (o : Opened) → ((q : Name) → get same_name l q ≡ cond (same_name n q) (Some o) (get same_name m q)) → opens_of l.entries ≡ fin.insert (opens_of m.entries) n o
  open-put o w = same_map_by _ _ (λ q. elim (same_or_apart q n) [
    | inl here ↦ rw (here, open-got l.entries n, w n, same_name-itself n, get_here (opens_of m.entries) n o) refl
    | inr apart ↦ rw (open-got l.entries q, w q, same_name-apart n q (λ e. apart (sym e)), get_apart (opens_of m.entries) n o q apart, open-got m.entries q) refl
  ])

  -- an open is taken out
  pub open-out : ((q : Name) → get same_name l q ≡ cond (same_name n q) None (get same_name m q)) → opens_of l.entries ≡ fin.remove (opens_of m.entries) n
  open-out w = same_map_by _ _ (λ q. elim (same_or_apart q n) [
    | inl here ↦ rw (here, open-got l.entries n, w n, same_name-itself n, remove_here (opens_of m.entries) n) refl
    | inr apart ↦ rw (open-got l.entries q, w q, same_name-apart n q (λ e. apart (sym e)), remove_apart (opens_of m.entries) n q apart, open-got m.entries q) refl
  ])

  -- one that is there is changed
  pub open-edited : (f : Opened → Opened) (o : Opened) → get same_name m n ≡ Some o → ((q : Name) → get same_name l q ≡ cond (same_name n q) (Some (f o)) (get same_name m q)) → opens_of l.entries ≡ edit n f (opens_of m.entries)
  open-edited f o is w = open-put (f o) w ∙ sym (edit_found (opens_of m.entries) n f o (open-got m.entries n ∙ is))

  -- where none has the name, a change of it changes nothing
  pub open-unedited : (f : Opened → Opened) → get same_name m n ≡ None → l ≡ m → opens_of l.entries ≡ edit n f (opens_of m.entries)
  open-unedited f none same = ap (λ (x : IndexMap Name Opened S). opens_of x.entries) same ∙ sym (edit_absent (opens_of m.entries) n f (open-got m.entries n ∙ none))
