-- Lines that are added to a text, one for each name.
use Rattle.std.proofs.Common.{◌≡◌, inl, inr, ◌∙◌, refl, sym, ap, subst, ℕ, ◌+◌, ◌<◌, ◌≤◌, List, [], ◌∷◌, ◌++◌, drop, length, map, Some, arith}
use Rattle.std.specs.Prelude.{Option, Result, Ok, Err, OnOk, Bool, true, false, if◌then◌else◌, slice_get}
use Rattle.std.specs.Option.{option_map}
use Rattle.std.proofs.lemmas.List.{append_assoc, append-nil, drop_all, drop_more}
use Rattle.std.proofs.lemmas.Option.{get_or_from_slice_get, slice_get_cases, slice_get_within}
use Rattle.hurd_creds.specs.declared.name.Name.{Name}
use Rattle.hurd_views.specs.declared.rows.Row.{Row}
use Rattle.hurd_views.specs.Views.{has_row, row_at}
use Rattle.hurd_views.specs.declared.view.View.{View}
use Rattle.hurd_lessons.specs.Added.{Adds, AddsAt, AddsLines}
use Rattle.hurd_lessons.specs.Changes.{IsChange, is_kept}
use Rattle.hurd_lessons.specs.Lessons.{GoneLineOf, Lessons, LineOf, Lines, Unless, count_line, line, place_in, said_of, tasks_line}
use Rattle.hurd_lessons.specs.Values.{line_from, names_of}
use Rattle.hurd_lessons.specs.declared.changes.Change.{Change}

-- the names of rows
abbrev pub named : List (Name × Row) → List Name
named es = map (λ (e : Name × Row). e.0) es

-- what is still to be added, up to some row: with it, all is
abbrev pub Adding : (Name → List ℕ → Type 0) → List (Name × Row) → ℕ → List ℕ → List ℕ → Type 0
Adding P es i start text = (rest : List ℕ) → Lines P (named (drop i es)) rest → AddsLines P (named es) start (text ++ rest)

pub beyond : (i n : ℕ) → i < n → n ≤ i → ⊥
beyond i n below past = omega arith

pub here : {X : Type 0} (xs : List X) (i : ℕ) (x : X) → slice_get xs i ≡ Some x → drop i xs ≡ x ∷ drop (i + 1) xs
here xs i x is = drop_more xs i x (slice_get_within xs i x is) ∙ ap (λ (y : _). y ∷ drop (i + 1) xs) (get_or_from_slice_get xs i x x is)

pub adding_next : (P : Name → List ℕ → Type 0) (es : List (Name × Row)) (i : ℕ) (e : Name × Row) (start old new : List ℕ) → slice_get es i ≡ Some e → Adds (P e.0) old new
    → Adding P es i start old → Adding P es (i + 1) start new
adding_next P es i e start old new is (t, grown, p) before rest it =
    subst (λ (s : List ℕ). AddsLines P (named es) start s) (sym (ap (λ (s : List ℕ). s ++ rest) grown ∙ append_assoc old t rest))
    (before (t ++ rest) (subst (λ (fs : List (Name × Row)). Lines P (named fs) (t ++ rest)) (sym (here es i e is)) (t, rest, refl, p, it)))

pub adding_all : (P : Name → List ℕ → Type 0) (es : List (Name × Row)) (i : ℕ) (start text : List ℕ) → length es ≤ i → Adding P es i start text → AddsLines P (named es) start text
adding_all P es i start text past before =
    subst (λ (s : List ℕ). AddsLines P (named es) start s) (append-nil text)
    (before [] (subst (λ (fs : List (Name × Row)). Lines P (named fs) []) (sym (drop_all i es past)) refl))

-- at an index within there is a name, of which a text is added
pub adding_at : (P : Name → List ℕ → Type 0) (es : List (Name × Row)) (i : ℕ) (o : Option Name) (start old new : List ℕ) → i < length es
    → o ≡ option_map (λ (e : Name × Row). e.0) (slice_get es i) → AddsAt P o old new → Adding P es i start old → Adding P es (i + 1) start new
adding_at P es i o start old new below is adds before = elim (slice_get_cases es i).1 [
  | inl inside ↦ there inside.0 inside.2
  | inr past ↦ absurd (beyond i (length es) below past.0)
]
  where
    there : (e : Name × Row) → slice_get es i ≡ Some e → Adding P es (i + 1) start new
    there e at =
        adding_next P es i e start old new at
        (subst (λ (m : Option Name). AddsAt P m old new) (is ∙ ap (option_map (λ (e : Name × Row). e.0)) at) adds) before

-- a name under which something did
pub changed_line : (who : List ℕ) (a b : View) (n : Name) (old new : List ℕ) (x y : Row) (c : Change) (place said : List ℕ) → x ≡ row_at a.rows n → y ≡ row_at b.rows n → IsChange x y c → false ≡ is_kept c
    → place ≡ place_in a b n → said ≡ said_of a b x y c → new ≡ old ++ line_from who place said → Adds (LineOf who a b n) old new
changed_line who a b n old new x y c place said at there is changed where_is what_is grown = (
  line_from who place said,
  grown,
  (
    c,
    subst (λ (r : Row). IsChange r (row_at b.rows n) c) at (subst (λ (r : Row). IsChange x r c) there is),
    (λ i. line_from who (where_is i) (what_is i))
        ∙ ((λ i. line_from who (place_in a b n) (said_of a b (at i) (there i) c)) ∙ ap (λ (k : Bool). if k then [] else line who a b n c) changed),
  ),
)

-- a name under which nothing changed
pub kept_line : (who : List ℕ) (a b : View) (n : Name) (old : List ℕ) (x y : Row) (c : Change) → x ≡ row_at a.rows n → y ≡ row_at b.rows n → IsChange x y c → true ≡ is_kept c
    → Adds (LineOf who a b n) old old
kept_line who a b n old x y c at there is kept = (
  [],
  sym (append-nil old),
  (
    c,
    subst (λ (r : Row). IsChange r (row_at b.rows n) c) at (subst (λ (r : Row). IsChange x r c) there is),
    ap (λ (k : Bool). if k then [] else line who a b n c) kept,
  ),
)

-- a name that has its line already, and one that has it not
pub gone_here : (who : List ℕ) (a b : View) (n : Name) (old : List ℕ) → true ≡ has_row b.rows n → Adds (GoneLineOf who a b n) old old
gone_here who a b n old has = ([], sym (append-nil old), inl (sym has, refl))

pub gone_line : {E : Type 0} (who : List ℕ) (a b : View) (n : Name) (old new : List ℕ) (r : Result (Unit {0}) E) → false ≡ has_row b.rows n → OnOk r (Adds (LineOf who a b n) old new)
    → OnOk r (Adds (GoneLineOf who a b n) old new)
gone_line who a b n old new (Ok u) none (t, grown, it) = (t, grown, inr (sym none, it))
gone_line who a b n old new (Err e) none it = tt

-- all texts, one after the other
pub all_told : (who : List ℕ) (a b : View) (t0 t1 t2 t3 t4 : List ℕ) → t0 ≡ [] → AddsLines (LineOf who a b) (names_of b) t0 t1 → AddsLines (GoneLineOf who a b) (names_of a) t1 t2
    → Adds (Unless (a.seats.items ≡ b.seats.items) (tasks_line who)) t2 t3 → Adds (Unless (a.count ≡ b.count) (count_line who)) t3 t4 → Lessons who a b t4
all_told who a b t0 t1 t2 t3 t4 none (s, is, p) (g, js, q) (t, ks, r) (c, ls, u) = record {
  seen = s;
  gone = g;
  tasks = t;
  count = c;
  joined = ls ∙ (ap (λ (x : List ℕ). x ++ c) (ks ∙ ap (λ (x : List ℕ). x ++ t) (js ∙ ap (λ (x : List ℕ). x ++ g) (is ∙ ap (λ (x : List ℕ). x ++ s) none)))
      ∙ (append_assoc (s ++ g) t c ∙ append_assoc s g (t ++ c)));
  are_seen = p;
  are_gone = q;
  are_tasks = r;
  is_count = u;
}
