-- What differs of what some tasks see in two scripts, a line for each thing.
use Rattle.std.specs.Prelude.{◌≡◌, ℕ, List, [], ◌∷◌, ◌++◌, Option, Some, None, if◌then◌else◌, bytes_eq, codes, is_some, map}
use Rattle.std.specs.Global.{Vec}
use Rattle.std.specs.Map.{lookup}
use Rattle.hurd_creds.specs.Names.{is_one}
use Rattle.hurd_creds.specs.declared.name.Name.{Name}
use Rattle.hurd_sight.specs.Reach.{among}
use Rattle.hurd_words.specs.Printing.{spaced}
use Rattle.hurd_views.specs.Views.{no_row, row_at}
use Rattle.hurd_views.specs.declared.rows.Row.{Row}
use Rattle.hurd_views.specs.declared.view.View.{View}
use Rattle.hurd_places.specs.Places.{node_path, place_by, place_of}
use Rattle.hurd_lessons.specs.Changes.{IsChange, between, shows}
use Rattle.hurd_lessons.specs.Lessons.{Lines, moved, parts_of, tasks_line}
use Rattle.hurd_lessons.specs.Seen.{seat_lines}
use Rattle.hurd_lessons.specs.Values.{line_from, names_of, number_part, with_part}
use Rattle.hurd_lessons.specs.declared.changes.Change.{Change}

-- WHICH THINGS ARE PAIRED

-- of what sort a thing is: a node, an open or a server
abbrev pub sort_of : Row → List ℕ
sort_of r = if is_some r.attributes then codes "node" else if is_some r.opened then codes "open" else codes "server"

-- where it is, without the ports on it
abbrev pub spot_of : View → Name → Row → List ℕ
spot_of v n r = if is_some r.attributes then node_path v n else place_by v n r

-- what tells it from others of its sort: its name if one of these tasks made it, else where it is
abbrev pub told_by : View → Name → Row → List ℕ
told_by v n r = if among v.sight.tasks.items n.task.0 then spaced n.task.0 ++ spaced n.count else spot_of v n r

-- by its key it is found in the other view
abbrev pub key_by : View → Name → Row → List ℕ
key_by v n r = sort_of r ++ told_by v n r

abbrev pub key_of : View → Name → List ℕ
key_of v n = key_by v n (row_at v.rows n)

-- a key and a name, as a map keeps them
abbrev pub keyed : Vec ℕ × Name → List ℕ × Name
keyed e = (e.0.items, e.1)

-- names by their keys, and one more, unless one has its key already
abbrev pub with_key : List (List ℕ × Name) → List ℕ → Name → List (List ℕ × Name)
with_key names k n = if is_some (lookup (bytes_eq k) names) then names else names ++ (k, n) ∷ []

-- the same for a name under which anything is seen
abbrev pub with_thing : View → List (List ℕ × Name) → Name → List (List ℕ × Name)
with_thing v names n = if shows (row_at v.rows n) then with_key names (key_of v n) n else names

abbrev pub with_things : View → List (List ℕ × Name) → List Name → List (List ℕ × Name)
with_things v names [] = names
with_things v names (n ∷ ns) = with_things v (with_thing v names n) ns

-- a view's things by their keys are kept in a map, and nothing is seen in this row
abbrev pub IsSide : View → List (Vec ℕ × Name) → Row → Type 0
IsSide v things nothing = (map keyed things ≡ with_things v [] (names_of v)) × (nothing ≡ no_row)

-- the first thing of a view that has a key
abbrev pub thing_at : View → List ℕ → Option Name
thing_at v k = lookup (bytes_eq k) (with_things v [] (names_of v))

-- what a thing of the first view is paired with in the second: each is the first in its view that has the key
abbrev pub mate_by : View → View → Name → List ℕ → Option Name
mate_by v w n k = if is_one n (thing_at v k) then thing_at w k else None

abbrev pub mate_of : View → View → Name → Option Name
mate_of v w n = mate_by v w n (key_of v n)

-- WHAT IS SAID

-- a thing of the view v that has no mate in w has a line, which begins with a word and says what is seen of it
abbrev pub AloneLine : List ℕ → List ℕ → View → View → Name → List ℕ → Type 0
AloneLine who word w v n text =
    (c : Change) × IsChange no_row (row_at v.rows n) c
    × (text ≡ (if shows (row_at v.rows n) then line_from who (place_of v n) (word ++ parts_of w v no_row (row_at v.rows n) c) else []))

-- the parts of a pair that differ, and at last which task made it
abbrev pub pair_parts : View → View → Name → Name → Change → List ℕ
pair_parts a b n m c =
    with_part (parts_of a b (row_at a.rows n) (row_at b.rows m) (between (row_at a.rows n) (row_at b.rows m) c)) (number_part (codes "made by task") n.task.0 m.task.0)

-- a pair has a line if a part of it differs, or else its place
abbrev pub pair_text : List ℕ → List ℕ → List ℕ → List ℕ → List ℕ
pair_text who old new [] = if bytes_eq old new then [] else line_from who (moved old new) (codes "place")
pair_text who old new (b ∷ bs) = line_from who (moved old new) (b ∷ bs)

-- these are the parts of a pair
abbrev pub IsOfPair : View → View → Name → Name → List ℕ → Type 0
IsOfPair a b n m words = (c : Change) × IsChange (row_at a.rows n) (row_at b.rows m) c × (words ≡ pair_parts a b n m c)

abbrev pub PairLine : List ℕ → View → View → Name → Name → List ℕ → Type 0
PairLine who a b n m text = (words : List ℕ) × IsOfPair a b n m words × (text ≡ pair_text who (place_of a n) (place_of b m) words)

-- a thing of the second view has a line by its mate in the first, if it has one
abbrev pub SecondBy : List ℕ → View → View → Name → Option Name → List ℕ → Type 0
SecondBy who a b m None text = AloneLine who (codes "only in the second: ") a b m text
SecondBy who a b m (Some n) text = PairLine who a b n m text

abbrev pub SecondLine : List ℕ → View → View → Name → List ℕ → Type 0
SecondLine who a b m text = SecondBy who a b m (mate_of b a m) text

-- a thing of the first view has one if it has no mate in the second: else it has its line already
abbrev pub FirstBy : List ℕ → View → View → Name → Option Name → List ℕ → Type 0
FirstBy who a b n None text = AloneLine who (codes "only in the first: ") b a n text
FirstBy who a b n (Some m) text = text ≡ []

abbrev pub FirstLine : List ℕ → View → View → Name → List ℕ → Type 0
FirstLine who a b n text = FirstBy who a b n (mate_of a b n) text

-- the tasks themselves have a line, unless the same is printed of them
abbrev pub tasks_beside : List ℕ → View → View → List ℕ
tasks_beside who a b =
    if bytes_eq (seat_lines who a a.sight.tasks.items a.seats.items) (seat_lines who b b.sight.tasks.items b.seats.items) then [] else tasks_line who

-- where no line says what differs, this one says that something does
abbrev pub or_unnamed : List ℕ → List ℕ → List ℕ
or_unnamed who [] = codes "  " ++ (who ++ codes ": a difference that no line names\n")
or_unnamed who (b ∷ bs) = b ∷ bs

-- what differs between the views of two scripts: the things of the second, in their order, then what is in the first alone, and at last the tasks themselves
pub record Beside (who : List ℕ) (a b : View) (text : List ℕ) : Type 0 where
  pub seen : List ℕ
  pub gone : List ℕ
  pub joined : text ≡ or_unnamed who (seen ++ (gone ++ tasks_beside who a b))
  pub are_seen : Lines (SecondLine who a b) (names_of b) seen
  pub are_gone : Lines (FirstLine who a b) (names_of a) gone

-- what is paired is of one sort, and each is the other's mate
abbrev pub MatesAreMutual : Type 0
MatesAreMutual = (v w : View) (n m : Name) → mate_of v w n ≡ Some m → (mate_of w v m ≡ Some n) × (sort_of (row_at v.rows n) ≡ sort_of (row_at w.rows m))
