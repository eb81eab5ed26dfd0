-- Between a view and itself nothing is learned.
use Rattle.std.proofs.Common.{◌≡◌, inl, inr, refl, ℕ, Bool, true, false, List, [], ◌∷◌, Option, Some, None}
use Rattle.hurd_creds.specs.declared.name.Name.{Name}
use Rattle.hurd_views.specs.Views.{has_row, row_at}
use Rattle.hurd_views.specs.declared.rows.Row.{Row}
use Rattle.hurd_views.specs.declared.view.View.{View}
use Rattle.hurd_lessons.specs.Changes.{IsChange, Turned}
use Rattle.hurd_lessons.specs.Lessons.{GoneLineOf, LineOf, Lines, NothingBetween}
use Rattle.hurd_lessons.specs.Values.{names_of}
use Rattle.hurd_lessons.specs.declared.changes.Became.TheVariants as became
use Rattle.hurd_lessons.specs.declared.changes.Change.{Change}

-- each part is as it was
abbrev kept : Change
kept = record {
  attributes = became.Same;
  body = became.Same;
  ends = became.Same;
  empty = became.Same;
  opened = became.Same;
  server = became.Same;
  text = became.Same;
  users = became.Same;
  total = became.Same;
  by_name = false;
}

turned_not : {X : Type 0} (x : Option X) → Turned x x became.Same
turned_not None = refl
turned_not (Some x) = inl (refl, refl)

row_kept : (r : Row) → IsChange r r kept
row_kept r = record {
  attributes = turned_not r.attributes;
  body = turned_not r.body;
  ends = turned_not r.ends;
  empty = turned_not r.empty;
  opened = turned_not r.opened;
  server = turned_not r.server;
  text = turned_not r.text;
  users = turned_not r.users;
  total = turned_not r.total;
  by_name = refl;
}

line_none : (who : List ℕ) (a : View) (n : Name) → LineOf who a a n []
line_none who a n = (kept, row_kept (row_at a.rows n), refl)

gone_none : (who : List ℕ) (a : View) (n : Name) → GoneLineOf who a a n []
gone_none who a n = go (has_row a.rows n) refl
  where
    go : (t : Bool) → has_row a.rows n ≡ t → GoneLineOf who a a n []
    go true is = inl (is, refl)
    go false is = inr (is, line_none who a n)

lines_none : (P : Name → List ℕ → Type 0) (ns : List Name) → ((n : Name) → P n []) → Lines P ns []
lines_none P [] each = refl
lines_none P (n ∷ ns) each = ([], [], refl, each n, lines_none P ns each)

pub nothing_between : NothingBetween
nothing_between who a = record {
  seen = [];
  gone = [];
  tasks = [];
  count = [];
  joined = refl;
  are_seen = lines_none (LineOf who a a) (names_of a) (line_none who a);
  are_gone = lines_none (GoneLineOf who a a) (names_of a) (gone_none who a);
  are_tasks = inl (refl, refl);
  is_count = inl (refl, refl);
}
