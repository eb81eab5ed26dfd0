-- What is looked for among the rows of a view, by an index.
use Rattle.std.proofs.Common.{◌≡◌, ◌∙◌, refl, sym, ap, ℕ, ◌+◌, Bool, List, if◌then◌else◌, drop, Some, None}
use Rattle.std.specs.Prelude.{Option, slice_get}
use Rattle.std.specs.Option.{option_map}
use Rattle.hurd_creds.specs.declared.name.Name.{Name}
use Rattle.hurd_views.specs.declared.rows.Row.{Row}
use Rattle.hurd_views.specs.declared.view.View.{View}
use Rattle.hurd_views.specs.Views.{row_at}
use Rattle.hurd_pictures.specs.Found.{first_sought, is_sought}
use Rattle.hurd_pictures.specs.declared.names.Sought.{Sought}
use Rattle.hurd_pictures.proofs.DrawingLaws.{here}

-- it is under the name at an index, or further on
pub sought_at : (v : View) (s : Sought) (es : List (Name × Row)) (i : ℕ) (n : Name) (t : Bool) → Some n ≡ option_map (λ (e : Name × Row). e.0) (slice_get es i)
    → is_sought s (row_at v.rows n) ≡ t → first_sought v s (drop i es) ≡ (if t then Some n else first_sought v s (drop (i + 1) es))
sought_at v s es i n t is sought = go (slice_get es i) refl is
  where
    go : (o : Option (Name × Row)) → slice_get es i ≡ o → Some n ≡ option_map (λ (e : Name × Row). e.0) o
        → first_sought v s (drop i es) ≡ (if t then Some n else first_sought v s (drop (i + 1) es))
    go None at is = absurd (cc)
    go (Some e) at is =
        ap (first_sought v s) (here es i e at)
        ∙ (ap (λ (m : Name). if is_sought s (row_at v.rows m) then Some m else first_sought v s (drop (i + 1) es)) (sym key)
        ∙ ap (λ (b : Bool). if b then Some n else first_sought v s (drop (i + 1) es)) sought)
      where
        key : n ≡ e.0
        key = let it : Some n ≡ Some e.0 = is in cc
