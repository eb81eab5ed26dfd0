-- What is printed of who could help to see what.
use Rattle.std.specs.Prelude.{ℕ, Bool, true, false, not, ◌&&◌, ◌==◌, if◌then◌else◌, List, [], ◌∷◌, ◌++◌, Option, Some, None, codes, decimal, slice_get}
use Rattle.hurd_creds.specs.declared.name.TaskId.{TaskId}
use Rattle.hurd_ports.specs.Tables.{Task}
use Rattle.hurd_places.specs.Places.{place_of}
use Rattle.hurd_sight.specs.Reach.{among}
use Rattle.hurd_sight.specs.declared.parts.SeenPart.{SeenPart}
use Rattle.hurd_sight.specs.declared.parts.SeenPart.TheVariants as seen
use Rattle.hurd_teaching.specs.Aides.{is_root_task}
use Rattle.hurd_views.specs.declared.view.View.{View}
use Rattle.hurd_words.specs.Spelling.{spelled}
use Rattle.hurd_can.specs.Help.{Help}
use Rattle.hurd_can.specs.Listed.{body_at, has_entries}
use Rattle.hurd_can.specs.declared.helped.Pair.{Pair}

-- a task by its name, or by its number if it has none
abbrev pub name_or : TaskId → Option (List ℕ) → List ℕ
name_or d (Some name) = spelled name
name_or d None = codes "task " ++ decimal d.0

abbrev pub task_name : List (List ℕ) → TaskId → List ℕ
task_name names d = name_or d (slice_get names d.0)

-- with one set of helpers more
abbrev pub or_more : List ℕ → List ℕ → List ℕ
or_more [] set = set
or_more (b ∷ bs) set = (b ∷ bs) ++ (codes ", or " ++ set)

-- whether a test comes out as it is wanted
abbrev pub is_wanted : Bool → Bool → Bool
is_wanted wanted b = if wanted then b else not b

-- with each of these tasks that has the uid of root, or hasn't
abbrev pub with_ones : List (List ℕ) → List Task → Bool → List ℕ → List TaskId → List ℕ
with_ones names tasks root text [] = text
with_ones names tasks root text (d ∷ ds) =
    with_ones names tasks root (if is_wanted root (is_root_task tasks d) then or_more text (codes "with " ++ task_name names d) else text) ds

-- with each of these pairs
abbrev pub with_twos : List (List ℕ) → List ℕ → List Pair → List ℕ
with_twos names text [] = text
with_twos names text (p ∷ ps) = with_twos names (or_more text (codes "with " ++ (task_name names p.one ++ (codes " and " ++ task_name names p.other)))) ps

-- or that more help is wanted
abbrev pub or_others : List ℕ → List ℕ
or_others [] = codes "with more than two others"
or_others (b ∷ bs) = b ∷ bs

-- each set of helpers that is enough: those without root's uid come first, those with it last
abbrev pub helpers_text : List (List ℕ) → List Task → Help → List ℕ
helpers_text names tasks h = or_others (with_ones names tasks true (with_twos names (with_ones names tasks false [] h.ones) h.twos) h.ones)

-- one more who saw the part before
abbrev pub before_more : List (List ℕ) → List ℕ → TaskId → List ℕ
before_more names [] d = codes "; seen before by " ++ task_name names d
before_more names (b ∷ bs) d = (b ∷ bs) ++ (codes ", " ++ task_name names d)

-- those of these tasks who saw the part before, and whose help alone isn't enough
abbrev pub before_text : List (List ℕ) → Help → List ℕ → List TaskId → List ℕ
before_text names h text [] = text
before_text names h text (d ∷ ds) = before_text names h (if among h.before d.0 && not (among h.ones d.0) then before_more names text d else text) ds

-- what a part is called
abbrev pub part_word : View → SeenPart → List ℕ
part_word v (seen.Attributes n) = codes "attributes"
part_word v (seen.Empty n) = codes "whether it is empty"
part_word v (seen.Body n) = if has_entries (body_at v n) then codes "entries" else codes "bytes"
part_word v (seen.Ends n) = codes "readers and writers"
part_word v (seen.Open n) = codes "open"
part_word v (seen.Options n) = codes "server"
part_word v (seen.Text n) = codes "text of the server"
part_word v (seen.Users n) = codes "users of the server"
part_word v (seen.Total n) = codes "total of the server"
part_word v (seen.Task t) = codes "ports"

-- where a part is
abbrev pub part_place : View → SeenPart → List ℕ
part_place v (seen.Attributes n) = place_of v n
part_place v (seen.Empty n) = place_of v n
part_place v (seen.Body n) = place_of v n
part_place v (seen.Ends n) = place_of v n
part_place v (seen.Open n) = place_of v n
part_place v (seen.Options n) = place_of v n
part_place v (seen.Text n) = place_of v n
part_place v (seen.Users n) = place_of v n
part_place v (seen.Total n) = place_of v n
part_place v (seen.Task t) = codes "task " ++ decimal t.0

-- the line of a part: where it is, what it is, who could help to see it, and who saw it before
abbrev pub line_head : List ℕ → List ℕ → List ℕ → List ℕ
line_head who place word = codes "  " ++ (who ++ (codes " could see: " ++ (place ++ (codes ": " ++ (word ++ codes ": ")))))

abbrev pub line_tail : List ℕ → List ℕ → List ℕ
line_tail helpers before = helpers ++ (before ++ 10 ∷ [])

abbrev pub could_line : View → List (List ℕ) → List Task → List TaskId → List ℕ → Help → List ℕ
could_line v names tasks all who h =
    line_head who (part_place v h.part) (part_word v h.part) ++ line_tail (helpers_text names tasks h) (before_text names h [] all)

-- one part, or several
abbrev pub parts_word : ℕ → List ℕ
parts_word count = if count == 1 then codes " part" else codes " parts"

-- how many parts there are, and what help is
abbrev pub count_text : List ℕ → ℕ → List ℕ
count_text who count = who ++ (codes " could be shown " ++ (decimal count ++ parts_word count))

abbrev pub help_text : List ℕ → List ℕ
help_text sees = codes "; help is any act that touches what " ++ (sees ++ codes ", meant or not\n")

abbrev pub last_line : List ℕ → List ℕ → ℕ → List ℕ
last_line who sees count = count_text who count ++ help_text sees
