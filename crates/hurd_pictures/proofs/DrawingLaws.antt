-- What is drawn of names, one after another.
use Rattle.std.proofs.Common.{◌≡◌, ◌∙◌, inl, inr, sym, ap, ℕ, ◌+◌, ◌<◌, ◌≤◌, List, ◌∷◌, ◌++◌, drop, length, map, Some, arith}
use Rattle.std.specs.Prelude.{Option, slice_get}
use Rattle.std.specs.Option.{option_map}
use Rattle.std.proofs.lemmas.List.{append_assoc, append-nil, drop_all, drop_more}
use Rattle.std.proofs.lemmas.Option.{get_or_from_slice_get, slice_get_cases, slice_get_within}
use Rattle.hurd_creds.specs.declared.name.Name.{Name}
use Rattle.hurd_views.specs.declared.rows.Row.{Row}
use Rattle.hurd_views.specs.declared.view.View.{View}
use Rattle.hurd_pictures.specs.Pictures.{drawn_at, rows_text}
use Rattle.hurd_pictures.specs.declared.names.Titles.{Titles}

-- the names of rows
abbrev pub named : List (Name × Row) → List Name
named es = map (λ (e : Name × Row). e.0) es

pub beyond : (i n : ℕ) → i < n → n ≤ i → ⊥
beyond i n below past = omega arith

pub here : {X : Type 0} (xs : List X) (i : ℕ) (x : X) → slice_get xs i ≡ Some x → drop i xs ≡ x ∷ drop (i + 1) xs
here xs i x is = drop_more xs i x (slice_get_within xs i x is) ∙ ap (λ (y : _). y ∷ drop (i + 1) xs) (get_or_from_slice_get xs i x x is)

-- what was added before some row, and what the rows from there on add, is all
abbrev pub DrawnBefore : Titles → View → Option View → Option View → List (Name × Row) → ℕ → List ℕ → List ℕ → Type 0
DrawnBefore t v theirs wide es i start text = text ++ rows_text t v theirs wide (named (drop i es)) ≡ start ++ rows_text t v theirs wide (named es)

-- the next row was drawn
pub drawn_next : (t : Titles) (v : View) (theirs wide : Option View) (es : List (Name × Row)) (i : ℕ) (o : Option Name) (start old new : List ℕ) → i < length es
    → o ≡ option_map (λ (e : Name × Row). e.0) (slice_get es i) → new ≡ old ++ drawn_at t v theirs wide o → DrawnBefore t v theirs wide es i start old → DrawnBefore t v theirs wide es (i + 1) start new
drawn_next t v theirs wide es i o start old new below is grown before = elim (slice_get_cases es i).1 [
  | inl inside ↦ there inside.0 inside.2
  | inr past ↦ absurd (beyond i (length es) below past.0)
]
  where
    there : (e : Name × Row) → slice_get es i ≡ Some e → DrawnBefore t v theirs wide es (i + 1) start new
    there e at =
        ap (λ (s : List ℕ). s ++ rows_text t v theirs wide (named (drop (i + 1) es)))
        (grown ∙ ap (λ (m : Option Name). old ++ drawn_at t v theirs wide m) (is ∙ ap (option_map (λ (e : Name × Row). e.0)) at))
        ∙ (append_assoc old (drawn_at t v theirs wide (Some e.0)) (rows_text t v theirs wide (named (drop (i + 1) es)))
        ∙ (ap (λ (fs : List (Name × Row)). old ++ rows_text t v theirs wide (named fs)) (sym (here es i e at)) ∙ before))

-- all rows were drawn
pub drawn_all : (t : Titles) (v : View) (theirs wide : Option View) (es : List (Name × Row)) (i : ℕ) (start text : List ℕ) → length es ≤ i → DrawnBefore t v theirs wide es i start text
    → text ≡ start ++ rows_text t v theirs wide (named es)
drawn_all t v theirs wide es i start text past before =
    sym (append-nil text) ∙ (ap (λ (fs : List (Name × Row)). text ++ rows_text t v theirs wide (named fs)) (sym (drop_all i es past)) ∙ before)
