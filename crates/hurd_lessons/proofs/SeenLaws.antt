-- Lines of what is seen, one for each name.
use Rattle.std.proofs.Common.{◌≡◌, ◌∙◌, inl, inr, sym, ap, ℕ, ◌+◌, ◌<◌, ◌≤◌, List, [], ◌++◌, drop, length, Some}
use Rattle.std.specs.Prelude.{Option, slice_get}
use Rattle.std.specs.Option.{option_map}
use Rattle.std.proofs.lemmas.List.{append_assoc, append-nil, drop_all}
use Rattle.std.proofs.lemmas.Option.{slice_get_cases}
use Rattle.hurd_creds.specs.declared.name.Name.{Name}
use Rattle.hurd_views.specs.declared.rows.Row.{Row}
use Rattle.hurd_views.specs.declared.view.View.{View}
use Rattle.hurd_lessons.specs.Seen.{seen_at, seen_lines}
use Rattle.hurd_lessons.proofs.LineLaws.{beyond, here, named}

-- what was added before some row, and what the rows from there on add, are all lines
abbrev pub SeenBefore : List ℕ → View → List (Name × Row) → ℕ → List ℕ → Type 0
SeenBefore who v es i text = text ++ seen_lines who v (named (drop i es)) ≡ seen_lines who v (named es)

pub seen_none : (who : List ℕ) (v : View) (es : List (Name × Row)) (text : List ℕ) → text ≡ [] → SeenBefore who v es 0 text
seen_none who v es text none = ap (λ (t : List ℕ). t ++ seen_lines who v (named es)) none

-- the line of the next row was added
pub seen_next : (who : List ℕ) (v : View) (es : List (Name × Row)) (i : ℕ) (o : Option Name) (old new : List ℕ) → i < length es
    → o ≡ option_map (λ (e : Name × Row). e.0) (slice_get es i) → new ≡ old ++ seen_at who v o → SeenBefore who v es i old → SeenBefore who v es (i + 1) new
seen_next who v es i o old new below is grown before = elim (slice_get_cases es i).1 [
  | inl inside ↦ there inside.0 inside.2
  | inr past ↦ absurd (beyond i (length es) below past.0)
]
  where
    there : (e : Name × Row) → slice_get es i ≡ Some e → SeenBefore who v es (i + 1) new
    there e at =
        ap (λ (t : List ℕ). t ++ seen_lines who v (named (drop (i + 1) es))) (grown ∙ ap (λ (m : Option Name). old ++ seen_at who v m) (is ∙ ap (option_map (λ (e : Name × Row). e.0)) at))
        ∙ (append_assoc old (seen_at who v (Some e.0)) (seen_lines who v (named (drop (i + 1) es)))
        ∙ (ap (λ (fs : List (Name × Row)). old ++ seen_lines who v (named fs)) (sym (here es i e at)) ∙ before))

pub seen_all : (who : List ℕ) (v : View) (es : List (Name × Row)) (i : ℕ) (text : List ℕ) → length es ≤ i → SeenBefore who v es i text → text ≡ seen_lines who v (named es)
seen_all who v es i text past before =
    sym (append-nil text) ∙ (ap (λ (fs : List (Name × Row)). text ++ seen_lines who v (named fs)) (sym (drop_all i es past)) ∙ before)
