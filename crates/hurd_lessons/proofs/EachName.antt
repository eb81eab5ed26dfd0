-- Names of a view, one after another.
use Rattle.std.proofs.Common.{◌≡◌, ◌∙◌, refl, sym, ap, subst, inl, inr, ℕ, ◌+◌, ◌<◌, ◌≤◌, List, [], ◌∷◌, drop, length, map, Some, None, Option}
use Rattle.std.specs.Prelude.{slice_get}
use Rattle.std.specs.Option.{option_map}
use Rattle.std.proofs.lemmas.List.{drop_all}
use Rattle.std.proofs.lemmas.Option.{slice_get_cases}
use Rattle.hurd_creds.specs.declared.name.Name.{Name}
use Rattle.hurd_views.specs.declared.rows.Row.{Row}
use Rattle.hurd_views.specs.declared.view.View.{View}
use Rattle.hurd_lessons.specs.Beside.{with_thing, with_things}
use Rattle.hurd_lessons.specs.Values.{names_of}
use Rattle.hurd_lessons.proofs.LineLaws.{beyond, here, named}

-- at an index within there is a name
pub name_there : {P : Type 0} (es : List (Name × Row)) (i : ℕ) → i < length es → None ≡ option_map (λ (e : Name × Row). e.0) (slice_get es i) → P
name_there {P} es i below none = elim (slice_get_cases es i).1 [
  | inl inside ↦ absurd (none_some inside.0.0 (none ∙ ap (option_map (λ (e : Name × Row). e.0)) inside.2))
  | inr past ↦ absurd (beyond i (length es) below past.0)
]
  where
    none_some : (x : Name) → None ≡ Some x → ⊥
    none_some x is = cc

-- it is the first of those that are left
pub name_next : (es : List (Name × Row)) (i : ℕ) (n : Name) → Some n ≡ option_map (λ (e : Name × Row). e.0) (slice_get es i) → named (drop i es) ≡ n ∷ named (drop (i + 1) es)
name_next es i n is = go (slice_get es i) refl is
  where
    go : (o : Option (Name × Row)) → slice_get es i ≡ o → Some n ≡ option_map (λ (e : Name × Row). e.0) o → named (drop i es) ≡ n ∷ named (drop (i + 1) es)
    go None at some = absurd (cc)
    go (Some e) at some = ap named (here es i e at) ∙ ap (λ (m : Name). m ∷ named (drop (i + 1) es)) (sym (inside n e.0 some))
      where
        inside : (x y : Name) → Some x ≡ Some y → x ≡ y
        inside x y eq = cc

-- things that are noted, and those that are left
pub things_next : (v : View) (i : ℕ) (n : Name) (old new all : List (List ℕ × Name)) → Some n ≡ option_map (λ (e : Name × Row). e.0) (slice_get v.rows i) → new ≡ with_thing v old n
    → with_things v old (named (drop i v.rows)) ≡ all → with_things v new (named (drop (i + 1) v.rows)) ≡ all
things_next v i n old new all at is before =
    ap (λ (es : List (List ℕ × Name)). with_things v es (named (drop (i + 1) v.rows))) is ∙ (sym (ap (with_things v old) (name_next v.rows i n at)) ∙ before)

pub things_all : (v : View) (i : ℕ) (old all : List (List ℕ × Name)) → length v.rows ≤ i → with_things v old (named (drop i v.rows)) ≡ all → old ≡ all
things_all v i old all past before = sym (ap (λ (es : List (Name × Row)). with_things v old (named es)) (drop_all i v.rows past)) ∙ before
