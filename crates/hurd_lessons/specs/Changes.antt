-- What became of what is seen under a name between two looks, and what differs of what is seen in two scripts.
use Rattle.std.specs.Prelude.{◌≡◌, ◌≢◌, ◌⊎◌, ◌&&◌, ◌||◌, Bool, true, false, List, [], ◌∷◌, Option, Some, None, bytes_eq, if◌then◌else◌, is_some}
use Rattle.hurd_views.specs.declared.rows.BodyRow.{BodyRow}
use Rattle.hurd_views.specs.declared.rows.BodyRow.TheVariants as body
use Rattle.hurd_views.specs.declared.rows.EntryRow.{EntryRow}
use Rattle.hurd_views.specs.declared.rows.Row.{Row}
use Rattle.hurd_lessons.specs.declared.changes.Became.{Became}
use Rattle.hurd_lessons.specs.declared.changes.Became.TheVariants as became
use Rattle.hurd_lessons.specs.declared.changes.Change.{Change}

-- what became of a part, of which this was seen before, and that after
abbrev pub Turned : {X : Type 0} → Option X → Option X → Became → Type 0
Turned None None b = b ≡ became.Same
Turned None (Some y) b = b ≡ became.New
Turned (Some x) None b = b ≡ became.Lost
Turned (Some x) (Some y) b = ((x ≡ y) × (b ≡ became.Same)) ⊎ ((x ≢ y) × (b ≡ became.Changed))

-- what became of each part
pub record IsChange (x y : Row) (c : Change) : Type 0 where
  pub attributes : Turned x.attributes y.attributes c.attributes
  pub body : Turned x.body y.body c.body
  pub ends : Turned x.ends y.ends c.ends
  pub empty : Turned x.empty y.empty c.empty
  pub opened : Turned x.opened y.opened c.opened
  pub server : Turned x.server y.server c.server
  pub text : Turned x.text y.text c.text
  pub users : Turned x.users y.users c.users
  pub total : Turned x.total y.total c.total
  pub by_name : c.by_name ≡ false

-- a part is as it was
abbrev pub is_same : Became → Bool
is_same became.Same = true
is_same _ = false

-- each part is
abbrev pub is_kept : Change → Bool
is_kept c = is_same c.attributes && (is_same c.body && (is_same c.ends && (is_same c.empty && (is_same c.opened && (is_same c.server && (is_same c.text && (is_same c.users && is_same c.total)))))))

-- anything is seen
abbrev pub shows : Row → Bool
shows r = is_some r.attributes || (is_some r.body || (is_some r.ends || (is_some r.empty || (is_some r.opened || (is_some r.server || (is_some r.text || (is_some r.users || is_some r.total)))))))

-- OF TWO SCRIPTS

-- a part that is not seen in both is seen in one alone
abbrev pub in_one : Became → Became
in_one became.New = became.Second
in_one became.Lost = became.First
in_one b = b

-- entries have the same names in the same order
abbrev pub same_names : List EntryRow → List EntryRow → Bool
same_names [] [] = true
same_names [] (f ∷ fs) = false
same_names (e ∷ es) [] = false
same_names (e ∷ es) (f ∷ fs) = if bytes_eq e.name f.name then same_names es fs else false

-- the same of two directories that are seen
abbrev pub list_the_same : Option (Option BodyRow) → Option (Option BodyRow) → Bool
list_the_same (Some (Some (body.Entries es))) (Some (Some (body.Entries fs))) = same_names es fs
list_the_same _ _ = false

-- what differs of each part: entries are compared by their names alone
abbrev pub between : Row → Row → Change → Change
between x y c = record {
  attributes = in_one c.attributes;
  body = if list_the_same x.body y.body then became.Same else in_one c.body;
  ends = in_one c.ends;
  empty = in_one c.empty;
  opened = in_one c.opened;
  server = in_one c.server;
  text = in_one c.text;
  users = in_one c.users;
  total = in_one c.total;
  by_name = true;
}
