-- What a set of tasks learns between two looks, a line for each thing.
use Rattle.std.specs.Prelude.{◌≡◌, ◌↔◌, ◌⊎◌, ℕ, Bool, true, false, List, [], ◌∷◌, ◌++◌, Option, Some, if◌then◌else◌, bytes_eq, codes}
use Rattle.hurd_creds.specs.declared.name.Name.{Name}
use Rattle.hurd_views.specs.Views.{SameRows, has_row, row_at}
use Rattle.hurd_views.specs.declared.rows.BodyRow.{BodyRow}
use Rattle.hurd_views.specs.declared.rows.BodyRow.TheVariants as body
use Rattle.hurd_views.specs.declared.rows.Row.{Row}
use Rattle.hurd_views.specs.declared.view.View.{View}
use Rattle.hurd_lessons.specs.Changes.{IsChange, is_kept, shows}
use Rattle.hurd_lessons.specs.Differences.{body_change, changed_node, changed_open, empty_change, ends_change, noted, number_change, server_change, text_change}
use Rattle.hurd_places.specs.Places.{place_of}
use Rattle.hurd_lessons.specs.Values.{line_from, names_of, with_part}
use Rattle.hurd_lessons.specs.declared.changes.Became.{Became}
use Rattle.hurd_lessons.specs.declared.changes.Became.TheVariants as became
use Rattle.hurd_lessons.specs.declared.changes.Change.{Change}

-- what a body is called
abbrev pub is_listing : Option (Option BodyRow) → Bool
is_listing (Some (Some (body.Entries es))) = true
is_listing _ = false

abbrev pub body_word : Row → Row → List ℕ
body_word x y = if is_listing x.body then codes "entries" else if is_listing y.body then codes "entries" else codes "bytes"

-- entries that are new or others say whether there are any
abbrev pub emptiness : Became → Became → Became
emptiness became.New e = became.Same
emptiness became.Changed e = became.Same
emptiness became.First became.First = became.Same
emptiness became.Second became.Second = became.Same
emptiness _ e = e

-- who comes to see what is in a node, or no longer sees it, is told so by that alone, and not of its readers and writers too
abbrev pub ends_beside : Became → Became → Became
ends_beside became.New became.New = became.Same
ends_beside became.Lost became.Lost = became.Same
ends_beside became.First became.First = became.Same
ends_beside became.Second became.Second = became.Same
ends_beside _ e = e

-- the parts of a node that changed, each by its word, and by what it was and is where it is seen both times
abbrev pub note_node : View → View → Row → Row → Change → List ℕ → List ℕ
note_node a b x y c words = noted words (codes "attributes") (changed_node a b words x.attributes y.attributes) c.attributes

abbrev pub note_ends : Row → Row → Change → List ℕ → List ℕ
note_ends x y c words = noted words (codes "readers and writers") (ends_change words x.ends y.ends) (ends_beside c.body c.ends)

abbrev pub note_body : Row → Row → Change → List ℕ → List ℕ
note_body x y c words = noted words (body_word x y) (with_part words (Some (body_change c.by_name x.body y.body))) c.body

abbrev pub note_empty : Row → Change → List ℕ → List ℕ
note_empty y c words = noted words (codes "emptiness") (with_part words (Some (empty_change y.empty))) (emptiness c.body c.empty)

-- the same of an open, and of a server, its text, its users and its total
abbrev pub note_open : Row → Row → Change → List ℕ → List ℕ
note_open x y c words = noted words (codes "open") (changed_open words x.opened y.opened) c.opened

abbrev pub note_server : View → View → Row → Row → Change → List ℕ → List ℕ
note_server a b x y c words = noted words (codes "program") (server_change a b words x.server y.server) c.server

abbrev pub note_text : Row → Row → Change → List ℕ → List ℕ
note_text x y c words = noted words (codes "text") (text_change words x.text y.text) c.text

abbrev pub note_users : Row → Row → Change → List ℕ → List ℕ
note_users x y c words = noted words (codes "users") (number_change words (codes "users") x.users y.users) c.users

abbrev pub note_total : Row → Row → Change → List ℕ → List ℕ
note_total x y c words = noted words (codes "total") (number_change words (codes "total") x.total y.total) c.total

-- all parts that changed under a name
abbrev pub parts_of : View → View → Row → Row → Change → List ℕ
parts_of a b x y c =
    note_total x y c (note_users x y c (note_text x y c (note_server a b x y c (note_open x y c (note_empty y c (note_body x y c (note_ends x y c (note_node a b x y c []))))))))

-- parts, where there are any
abbrev pub or_changed : List ℕ → List ℕ
or_changed [] = codes "changed"
or_changed (b ∷ bs) = b ∷ bs

-- what is said of a thing of which x was seen before, and y after
abbrev pub said_of : View → View → Row → Row → Change → List ℕ
said_of a b x y c =
    if shows y
    then (if shows x then [] else codes "new: ") ++ or_changed (parts_of a b x y c)
    else codes "no longer seen"

-- a place before, and the one after it where that is another
abbrev pub moved : List ℕ → List ℕ → List ℕ
moved old new = if bytes_eq old new then old else old ++ (codes " -> " ++ new)

-- where something is: where it was seen, and where it is seen then if that is another place
abbrev pub place_in : View → View → Name → List ℕ
place_in a b n =
    if shows (row_at a.rows n)
    then (if shows (row_at b.rows n) then moved (place_of a n) (place_of b n) else place_of a n)
    else place_of b n

-- a line of a name
abbrev pub line : List ℕ → View → View → Name → Change → List ℕ
line who a b n c = line_from who (place_in a b n) (said_of a b (row_at a.rows n) (row_at b.rows n) c)

-- a name has a line, unless nothing changed under it
abbrev pub LineOf : List ℕ → View → View → Name → List ℕ → Type 0
LineOf who a b n text =
    (c : Change) × IsChange (row_at a.rows n) (row_at b.rows n) c × (text ≡ (if is_kept c then [] else line who a b n c))

-- a name that is only in the view before has one, and none that is in both: it has its line already
abbrev pub GoneLineOf : List ℕ → View → View → Name → List ℕ → Type 0
GoneLineOf who a b n text = ((has_row b.rows n ≡ true) × (text ≡ [])) ⊎ ((has_row b.rows n ≡ false) × LineOf who a b n text)

-- one text for each name, joined
abbrev pub Lines : (Name → List ℕ → Type 0) → List Name → List ℕ → Type 0
Lines P [] text = text ≡ []
Lines P (n ∷ ns) text = (here rest : List ℕ) × (text ≡ here ++ rest) × P n here × Lines P ns rest

-- a line, where something doesn't hold
abbrev pub Unless : Type 0 → List ℕ → List ℕ → Type 0
Unless P said text = (P × (text ≡ [])) ⊎ ((P → ⊥) × (text ≡ said))

abbrev pub tasks_line : List ℕ → List ℕ
tasks_line who = codes "  " ++ (who ++ codes ": own ports\n")

abbrev pub count_line : List ℕ → List ℕ
count_line who = codes "  " ++ (who ++ codes ": number of tasks\n")

-- what is learned between two views: what is seen in the later one, in its order, and then what is no longer seen; and at last of the
-- tasks themselves
pub record Lessons (who : List ℕ) (a b : View) (text : List ℕ) : Type 0 where
  pub seen : List ℕ
  pub gone : List ℕ
  pub tasks : List ℕ
  pub count : List ℕ
  pub joined : text ≡ seen ++ (gone ++ (tasks ++ count))
  pub are_seen : Lines (LineOf who a b) (names_of b) seen
  pub are_gone : Lines (GoneLineOf who a b) (names_of a) gone
  pub are_tasks : Unless (a.seats.items ≡ b.seats.items) (tasks_line who) tasks
  pub is_count : Unless (a.count ≡ b.count) (count_line who) count

-- nothing is said exactly where nothing differs
abbrev pub SilentWhereSame : Type 0
SilentWhereSame = (who : List ℕ) (a b : View) (text : List ℕ) → Lessons who a b text → (text ≡ []) ↔ SameRows a b

-- between a view and itself nothing is learned
abbrev pub NothingBetween : Type 0
NothingBetween = (who : List ℕ) (a : View) → Lessons who a a []

-- two views have one text
abbrev pub OneText : Type 0
OneText = (who : List ℕ) (a b : View) (s t : List ℕ) → Lessons who a b s → Lessons who a b t → s ≡ t
