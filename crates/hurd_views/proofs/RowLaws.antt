-- Rows that are kept by name, filled in and compared.
use Rattle.std.proofs.Common.{◌≡◌, ◌∙◌, inl, inr, sym, refl, ap, subst, ℕ, zero, suc, ◌+◌, ◌<◌, ◌≤◌, Bool, true, false, true≢false, List, [], ◌∷◌, ◌++◌, take, take_all, length, if◌then◌else◌, arith}
use Rattle.std.specs.Prelude.{◌↔◌, ◌||◌, ◌&&◌, not, is_some, IsTrue, Option, Some, None, slice_get}
use Rattle.hurd_machine.proofs.Common.{IsAmong, Name, World, boot_name, empty, list_any, lookup, put, same_name}
use Rattle.std.specs.FinMap as fin
use Rattle.std.specs.Option.{option_map}
use Rattle.std.proofs.lemmas.Bool.{or_cases, or_left, or_right}
use Rattle.std.proofs.Math.Bool.{and-false}
use Rattle.std.proofs.lemmas.List.{map-append, take_more}
use Rattle.std.proofs.lemmas.Option.{get_or_from_slice_get, slice_get_cases}
use Rattle.std.proofs.lemmas.List.Folds.{list_any-append}
use Rattle.indexmap.specs.IndexMap.{insert_entry}
use Rattle.hurd_creds.proofs.NameLaws.{equal_if_same, same_name-itself}
use Rattle.hurd_sight.specs.Found.{is_found}
use Rattle.hurd_sight.specs.Looks.{Looks, sees_with}
use Rattle.hurd_sight.specs.declared.parts.SeenPart.TheVariants as seen
use Rattle.hurd_sight.proofs.PartLaws.{parts_are_seen}
use Rattle.hurd_machine.specs.World.{counts_at, nodes_of}
use Rattle.hurd_machine.proofs.Views.{text_known}
use Rattle.hurd_sight.specs.Parts.{is_in, maybe_named, named, named_more}
use Rattle.hurd_sight.proofs.NameLaws.{named-append, named_are}
use Rattle.hurd_sight.proofs.ReachLaws.{any_found}
use Rattle.hurd_views.specs.Views.{Fills, has_row, name_found, names_found, names_seen, no_row, or_no_row, row_at, row_of, rows_for}
use Rattle.hurd_sight.specs.declared.found.Why.{Why}
use Rattle.hurd_sight.specs.declared.looks.Sight.{Sight}
use Rattle.hurd_views.specs.declared.rows.Row.{Row}
use Rattle.hurd_machine.proofs.Tasks.{among_left, among_mapped, among_right}

abbrev pub Kept : Type 0
Kept = List (Name × Row)

-- what is found under a name is the row that is kept there
pub row_got : (es : Kept) (n : Name) → or_no_row (lookup (same_name n) es) ≡ row_at es n
row_got [] n = refl
row_got (e ∷ es) n = go (same_name n e.0) refl (row_got es n)
  where
    go : (b : Bool) → same_name n e.0 ≡ b → or_no_row (lookup (same_name n) es) ≡ row_at es n → or_no_row (lookup (same_name n) (e ∷ es)) ≡ row_at (e ∷ es) n
    go true is rest = rw is refl
    go false is rest = rw is rest

-- whether a row is kept under a name, by what is looked up
pub row_is_got : (es : Kept) (n : Name) → is_some (lookup (same_name n) es) ≡ has_row es n
row_is_got [] n = refl
row_is_got (e ∷ es) n = go (same_name n e.0) refl (row_is_got es n)
  where
    go : (b : Bool) → same_name n e.0 ≡ b → is_some (lookup (same_name n) es) ≡ has_row es n → is_some (lookup (same_name n) (e ∷ es)) ≡ has_row (e ∷ es) n
    go true is rest = rw is refl
    go false is rest = rw is rest

-- the row of a name goes after the others, unless it is there
put_row : (w : World) (v : Sight) (n : Name) (ms : List Name) → insert_entry same_name (rows_for w v ms) n (row_of w v n) ≡ rows_for w v (named_more n ms)
put_row w v n [] = refl
put_row w v n (m ∷ ms) = go (same_name n m) refl (put_row w v n ms)
  where
    past : (b : Bool) → rows_for w v (m ∷ (if b then ms else ms ++ n ∷ [])) ≡ rows_for w v (if b then m ∷ ms else (m ∷ ms) ++ n ∷ [])
    past true = refl
    past false = refl

    go : (b : Bool) → same_name n m ≡ b → insert_entry same_name (rows_for w v ms) n (row_of w v n) ≡ rows_for w v (named_more n ms)
        → insert_entry same_name (rows_for w v (m ∷ ms)) n (row_of w v n) ≡ rows_for w v (named_more n (m ∷ ms))
    go true is rest = rw is (ap (λ (q : Name). (m, row_of w v q) ∷ rows_for w v ms) (equal_if_same n m is))
    go false is rest = rw is (ap (λ (es : Kept). (m, row_of w v m) ∷ es) rest ∙ past (is_in n ms))

pub row_filled : (w : World) (v : Sight) (a b c : Kept) (k : Name) (r : Row) → r ≡ row_of w v k → b ≡ a → c ≡ insert_entry same_name b k r → Fills w v (k ∷ []) a c
row_filled w v a b c k r is same put ms e =
    put ∙ (ap (λ (es : Kept). insert_entry same_name es k r) (same ∙ e) ∙ (ap (insert_entry same_name (rows_for w v ms) k) is ∙ put_row w v k ms))

-- names, one after another

pub fills_none : (w : World) (v : Sight) (a : Kept) → Fills w v [] a a
fills_none w v a ms e = e

pub fills_both : (a b c : Kept) (w : World) (v : Sight) (xs ys : List Name) → Fills w v xs a b → Fills w v ys b c → Fills w v (xs ++ ys) a c
fills_both a b c w v xs ys x y ms e = y (named xs ms) (x ms e) ∙ ap (rows_for w v) (sym (named-append xs ys ms))

fills_as : (a b : Kept) (w : World) (v : Sight) (xs ys : List Name) → xs ≡ ys → Fills w v xs a b → Fills w v ys a b
fills_as a b w v xs ys same fills ms e = fills ms e ∙ ap (λ (ns : List Name). rows_for w v (named ns ms)) same

beyond : (i n : ℕ) → i < n → n ≤ i → ⊥
beyond i n below past = omega arith

there : {X : Type 0} (xs : List X) (i : ℕ) → i < length xs → (x : X) × (slice_get xs i ≡ Some x)
there xs i below = elim (slice_get_cases xs i).1 [
  | inl inside ↦ (inside.0, inside.2)
  | inr past ↦ absurd (beyond i (length xs) below past.0)
]

or_nothing : (b : Bool) → (b || false) ≡ b
or_nothing true = refl
or_nothing false = refl

one_more : {X : Type 0} (f : Name → X → Bool) (xs : List X) (i : ℕ) (x : X) → i < length xs → slice_get xs i ≡ Some x → (n : Name) → list_any (f n) (take (i + 1) xs) ≡ (list_any (f n) (take i xs) || f n x)
one_more f xs i x below is n =
    ap (list_any (f n)) (take_more xs i x below ∙ ap (λ (y : _). take i xs ++ y ∷ []) (get_or_from_slice_get xs i x x is))
    ∙ (list_any-append (f n) (take i xs) (x ∷ []) ∙ ap (λ (b : Bool). list_any (f n) (take i xs) || b) (or_nothing (f n x)))

-- one name more of a list
pub named_next : (a b c : Kept) (w : World) (v : Sight) (ns : List Name) (i : ℕ) → i < length ns → Fills w v (take i ns) a b → Fills w v (maybe_named (slice_get ns i)) b c
    → Fills w v (take (i + 1) ns) a c
named_next a b c w v ns i below x y =
    let it = there ns i below in
    fills_as a c w v (take i ns ++ maybe_named (slice_get ns i)) (take (i + 1) ns)
    (ap (λ (o : Option Name). take i ns ++ maybe_named o) it.1
    ∙ sym (take_more ns i it.0 below ∙ ap (λ (n : Name). take i ns ++ n ∷ []) (get_or_from_slice_get ns i it.0 it.0 it.1)))
    (fills_both a b c w v (take i ns) (maybe_named (slice_get ns i)) x y)

pub named_all : (a b : Kept) (w : World) (v : Sight) (ns : List Name) (i : ℕ) → length ns ≤ i → Fills w v (take i ns) a b → Fills w v ns a b
named_all a b w v ns i past = fills_as a b w v (take i ns) ns (take_all i ns past)

-- one found node more
pub found_next : (a b c : Kept) (w : World) (v : Sight) (es : List (Name × Why)) (i : ℕ) → i < length es → Fills w v (names_found (take i es)) a b → Fills w v (name_found (slice_get es i)) b c
    → Fills w v (names_found (take (i + 1) es)) a c
found_next a b c w v es i below x y =
    let it = there es i below in
    fills_as a c w v (names_found (take i es) ++ name_found (slice_get es i)) (names_found (take (i + 1) es))
    (ap (λ (o : Option (Name × Why)). names_found (take i es) ++ name_found o) it.1
    ∙ sym (ap names_found (take_more es i it.0 below ∙ ap (λ (e : Name × Why). take i es ++ e ∷ []) (get_or_from_slice_get es i it.0 it.0 it.1))
    ∙ map-append (λ (e : Name × Why). e.0) (take i es) (it.0 ∷ [])))
    (fills_both a b c w v (names_found (take i es)) (name_found (slice_get es i)) x y)

pub found_all : (a b : Kept) (w : World) (v : Sight) (es : List (Name × Why)) (i : ℕ) → length es ≤ i → Fills w v (names_found (take i es)) a b → Fills w v (names_found es) a b
found_all a b w v es i past = fills_as a b w v (names_found (take i es)) (names_found es) (ap names_found (take_all i es past))

-- all that was gathered is filled in
pub all_filled : (a b c d e : Kept) (w : World) (v : Sight) → a ≡ [] → Fills w v (names_found v.found) a b → Fills w v v.rights.opens b c → Fills w v v.known c d
    → Fills w v v.rights.controlled d e → e ≡ rows_for w v (names_seen v)
all_filled a b c d e w v empty x y z u =
    fills_both a b e w v (names_found v.found) (v.rights.opens ++ (v.known ++ v.rights.controlled)) x
    (fills_both b c e w v v.rights.opens (v.known ++ v.rights.controlled) y (fills_both c d e w v v.known v.rights.controlled z u))
    [] empty

-- what is kept under a name

row_among : (w : World) (v : Sight) (n : Name) (ns : List Name) → row_at (rows_for w v ns) n ≡ (if is_in n ns then row_of w v n else no_row)
row_among w v n [] = refl
row_among w v n (m ∷ ms) = go (same_name n m) refl (row_among w v n ms)
  where
    go : (b : Bool) → same_name n m ≡ b → row_at (rows_for w v ms) n ≡ (if is_in n ms then row_of w v n else no_row)
        → row_at (rows_for w v (m ∷ ms)) n ≡ (if is_in n (m ∷ ms) then row_of w v n else no_row)
    go true is rest = rw is (ap (row_of w v) (sym (equal_if_same n m is)))
    go false is rest = rw is rest

-- nothing is seen under a name that was not gathered

module _ {S : ℕ → Bool} {w : World} {v : Sight} (looks : Looks S w v) (n : Name) where
  send_known : is_in n v.known ≡ false → is_in n v.sendable ≡ false
  send_known unknown = go (is_in n v.sendable) refl
    where
      known : (b : Bool) → is_in n v.known ≡ b → b ≡ false → is_in n v.sendable ≡ true → ⊥
      known b is none on = true≢false (sym (seen on) ∙ (is ∙ none))
        where
          seen : is_in n v.sendable ≡ true → is_in n v.known ≡ true
          seen s =
              let why = (looks.sendable n).0 s in
              (looks.known n).1 (why.0, why.1, elim why.2 [ inl k ↦ inl k.1 | inr k ↦ inr k.1 ])

      go : (b : Bool) → is_in n v.sendable ≡ b → is_in n v.sendable ≡ false
      go false e = e
      go true e = absurd (known (is_in n v.known) refl unknown e)

  and_none : (a b : Bool) → (a && (b && false)) ≡ false
  and_none true true = refl
  and_none true false = refl
  and_none false b = refl

  -- and of a server that isn't known no text is seen
  text_unknown : is_in n v.known ≡ false → is_in n v.rights.controlled ≡ false → sees_with (nodes_of w) v (seen.Text n) ≡ false
  text_unknown known controlled = go (sees_with (nodes_of w) v (seen.Text n)) refl
    where
      go : (b : Bool) → sees_with (nodes_of w) v (seen.Text n) ≡ b → sees_with (nodes_of w) v (seen.Text n) ≡ false
      go false e = e
      go true e =
          let t = (parts_are_seen S w v (seen.Text n) looks).0 e in
          let k = (parts_are_seen S w v (seen.Options n) looks).1 (text_known S w n t.0 t.2) in
          absurd (true≢false (sym k ∙ ap (λ (b : Bool). b || is_in n v.rights.controlled) known ∙ controlled))

  pub uncovered : is_found n v.found ≡ false → is_in n v.rights.opens ≡ false → is_in n v.known ≡ false → is_in n v.rights.controlled ≡ false → row_of w v n ≡ no_row
  uncovered found opened known controlled = rw (text_unknown known controlled, found, opened, known, controlled, send_known known, and_none (not (same_name n boot_name)) (is_some (fin.get w.servers n)), and-false (counts_at w n)) refl

-- under each name what is seen of it is kept
pub row_told : {S : ℕ → Bool} {w : World} {v : Sight} → Looks S w v → (n : Name) → row_at (rows_for w v (names_seen v)) n ≡ row_of w v n
row_told {S} {w} {v} looks n = row_among w v n (names_seen v) ∙ go (is_in n (names_seen v)) refl
  where
    -- what is among these was named
    not_in : is_in n (names_seen v) ≡ false → IsAmong n (names_found v.found ++ (v.rights.opens ++ (v.known ++ v.rights.controlled))) → ⊥
    not_in none a = true≢false (sym ((named_are n (names_found v.found ++ (v.rights.opens ++ (v.known ++ v.rights.controlled)))).1 a) ∙ none)

    found_among : is_found n v.found ≡ true → IsAmong n (names_found v.found)
    found_among f =
        let it = any_found (λ (e : Name × Why). same_name n e.0) v.found f in
        subst (λ (m : Name). IsAmong m (names_found v.found)) (sym (equal_if_same n it.0.0 it.2)) (among_mapped (λ (e : Name × Why). e.0) it.0 v.found it.1)

    in_among : (ns : List Name) → is_in n ns ≡ true → IsAmong n ns
    in_among ns i = let it = any_found (same_name n) ns i in subst (λ (m : Name). IsAmong m ns) (sym (equal_if_same n it.0 it.2)) it.1

    -- a test of what can't be
    fails : (b : Bool) → (b ≡ true → ⊥) → b ≡ false
    fails true none = absurd (none refl)
    fails false none = refl

    go : (b : Bool) → is_in n (names_seen v) ≡ b → (if is_in n (names_seen v) then row_of w v n else no_row) ≡ row_of w v n
    go true is = rw is refl
    go false is = rw is (sym (uncovered looks n
        (fails (is_found n v.found) (λ f. not_in is (among_left n (names_found v.found) _ (found_among f))))
        (fails (is_in n v.rights.opens) (λ i. not_in is (among_right n (names_found v.found) _ (among_left n v.rights.opens _ (in_among v.rights.opens i)))))
        (fails (is_in n v.known) (λ i. not_in is (among_right n (names_found v.found) _ (among_right n v.rights.opens _ (among_left n v.known _ (in_among v.known i))))))
        (fails (is_in n v.rights.controlled)
        (λ i. not_in is (among_right n (names_found v.found) _ (among_right n v.rights.opens _ (among_right n v.known _ (in_among v.rights.controlled i))))))))

-- rows that are compared, one name after another

abbrev Agree : Kept → Kept → Kept → Type 0
Agree some es fs = (n : Name) → has_row some n ≡ true → row_at es n ≡ row_at fs n

pub agree_next : (es fs : Kept) (i : ℕ) → i < length es → Agree (take i es) es fs → ((e : Name × Row) → slice_get es i ≡ Some e → row_at es e.0 ≡ row_at fs e.0) → Agree (take (i + 1) es) es fs
agree_next es fs i below before at n has = elim (or_cases (has_row (take i es) n) (same_name n it.0.0) (sym (one_more (λ (m : Name) (e : Name × Row). same_name m e.0) es i it.0 below it.1 n) ∙ has)) [
  | inl old ↦ before n old
  | inr new ↦ subst (λ (m : Name). row_at es m ≡ row_at fs m) (sym (equal_if_same n it.0.0 new)) (at it.0 it.1)
]
  where
    it : (e : Name × Row) × (slice_get es i ≡ Some e)
    it = there es i below

pub agree_all : (es fs : Kept) (i : ℕ) → length es ≤ i → Agree (take i es) es fs → Agree es es fs
agree_all es fs i past before n has = before n (ap (λ (x : Kept). has_row x n) (take_all i es past) ∙ has)

-- what is kept at an index is kept under its name
pub row_here : (es : Kept) (i : ℕ) (e : Name × Row) → slice_get es i ≡ Some e → has_row es e.0 ≡ true
row_here [] i e is = absurd (cc)
row_here (x ∷ xs) zero e is = or_left (same_name e.0 x.0) (has_row xs e.0) (let same : x ≡ e = cc in ap (λ (y : Name × Row). same_name e.0 y.0) same ∙ same_name-itself e.0)
row_here (x ∷ xs) (suc i) e is = or_right (same_name e.0 x.0) (has_row xs e.0) (row_here xs i e is)

-- under a name that isn't there, nothing is kept
no_row_at : (es : Kept) (n : Name) → has_row es n ≡ false → row_at es n ≡ no_row
no_row_at [] n none = refl
no_row_at (e ∷ es) n none = go (same_name n e.0) refl none (no_row_at es n)
  where
    go : (b : Bool) → same_name n e.0 ≡ b → has_row (e ∷ es) n ≡ false → (has_row es n ≡ false → row_at es n ≡ no_row) → row_at (e ∷ es) n ≡ no_row
    go true is none rest = absurd (true≢false (sym (or_left (same_name n e.0) (has_row es n) is) ∙ none))
    go false is none rest = rw is (rest (sym (ap (λ (b : Bool). b || has_row es n) is) ∙ none))

-- rows that agree both ways are the same
pub agree_both : (es fs : Kept) → Agree es es fs → Agree fs fs es → (n : Name) → row_at es n ≡ row_at fs n
agree_both es fs to from n = go (has_row es n) (has_row fs n) refl refl
  where
    go : (s t : Bool) → has_row es n ≡ s → has_row fs n ≡ t → row_at es n ≡ row_at fs n
    go true t is at = to n is
    go false true is at = sym (from n at)
    go false false is at = no_row_at es n is ∙ sym (no_row_at fs n at)

-- the rows under the name at an index
pub agree_at : (es fs : Kept) (i : ℕ) (name : Name) (x y : Row) (r : Bool) → (IsTrue r ↔ (x ≡ y)) → x ≡ row_at es name → y ≡ row_at fs name → Some name ≡ option_map (λ (e : Name × Row). e.0) (slice_get es i)
    → IsTrue r ↔ ((e : Name × Row) → slice_get es i ≡ Some e → row_at es e.0 ≡ row_at fs e.0)
agree_at es fs i name x y r told here there named = go (slice_get es i) refl named
  where
    go : (o : Option (Name × Row)) → slice_get es i ≡ o → Some name ≡ option_map (λ (e : Name × Row). e.0) o → IsTrue r ↔ ((e : Name × Row) → slice_get es i ≡ Some e → row_at es e.0 ≡ row_at fs e.0)
    go None is none = absurd (cc)
    go (Some e) is same = (λ t d at. to t d at, λ all. told.1 (here ∙ (ap (row_at es) key ∙ (all e is ∙ sym (there ∙ ap (row_at fs) key)))))
      where
        key : name ≡ e.0
        key = let it : Some name ≡ Some e.0 = same in cc

        to : IsTrue r → (d : Name × Row) → slice_get es i ≡ Some d → row_at es d.0 ≡ row_at fs d.0
        to t d at =
            let it : Some e ≡ Some d = sym is ∙ at in
            let one : e ≡ d = cc in
            subst (λ (k : Name). row_at es k ≡ row_at fs k) (key ∙ ap (λ (q : Name × Row). q.0) one) (sym here ∙ (told.0 t ∙ there))
