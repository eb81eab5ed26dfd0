-- Which commands are tried, to show WHO a part: the helpers, or WHO with them, open the way to it.
use Rattle.std.specs.Prelude.{ℕ, ◌==◌, Bool, true, false, if◌then◌else◌, List, [], ◌∷◌, ◌++◌, codes, drop}
use Rattle.std.specs.List.{slice_split}
use Rattle.hurd_creds.specs.declared.name.TaskId.{TaskId}
use Rattle.hurd_ports.specs.Tables.{Task}
use Rattle.hurd_sight.specs.declared.parts.SeenPart.{SeenPart}
use Rattle.hurd_sight.specs.declared.parts.SeenPart.TheVariants as seen
use Rattle.hurd_views.specs.declared.view.View.{View}
use Rattle.hurd_witnesses.specs.Trials.{part_at, scripted}
use Rattle.hurd_teaching.specs.Aides.{is_root_task}
use Rattle.hurd_can.specs.Could.{is_wanted, task_name}
use Rattle.hurd_can.specs.Listed.{body_at, has_entries}
use Rattle.hurd_can.specs.declared.helped.Pair.{Pair}
use Rattle.hurd_can.specs.declared.ways.HelpSet.{HelpSet}
use Rattle.hurd_can.specs.declared.ways.HelpSet.TheVariants.{One, Two}

-- SETS OF HELPERS

-- who is in a set
abbrev pub tasks_in : HelpSet → List TaskId
tasks_in (One d) = d ∷ []
tasks_in (Two p) = p.one ∷ p.other ∷ []

-- each of these tasks that has the uid of root, or hasn't, is a set
abbrev pub sets_of_one : List Task → Bool → List HelpSet → List TaskId → List HelpSet
sets_of_one tasks root sets [] = sets
sets_of_one tasks root sets (d ∷ ds) = sets_of_one tasks root (if is_wanted root (is_root_task tasks d) then sets ++ One d ∷ [] else sets) ds

-- each of these pairs is
abbrev pub sets_of_two : List HelpSet → List Pair → List HelpSet
sets_of_two sets [] = sets
sets_of_two sets (p ∷ ps) = sets_of_two (sets ++ Two p ∷ []) ps

-- all sets of a part, in the order in which its line names them
abbrev pub sets_of : List Task → List TaskId → List Pair → List HelpSet
sets_of tasks ones twos = sets_of_one tasks true (sets_of_two (sets_of_one tasks false [] ones) twos) ones

-- a set in words
abbrev pub set_name : List (List ℕ) → HelpSet → List ℕ
set_name names (One d) = task_name names d
set_name names (Two p) = task_name names p.one ++ (codes " and " ++ task_name names p.other)

-- the names of these tasks, after others
abbrev pub called : List (List ℕ) → List (List ℕ) → List TaskId → List (List ℕ)
called names done [] = done
called names done (d ∷ ds) = called names (done ++ task_name names d ∷ []) ds

-- the names of the helpers; and of these and of WHO
abbrev pub helper_names : List (List ℕ) → HelpSet → List (List ℕ)
helper_names names set = called names [] (tasks_in set)

abbrev pub member_names : List (List ℕ) → HelpSet → List TaskId → List (List ℕ)
member_names names set who = called names (helper_names names set) who

-- PATHS

-- the path of a place, without the words in brackets after it, as a script writes it
abbrev pub path_of : List ℕ → List ℕ
path_of place = scripted (part_at 40 0 (part_at 32 0 place))

-- the names on a path, without its first slash
abbrev pub names_on : List ℕ → List (List ℕ)
names_on path = slice_split (λ b. b == 47) (drop 1 path)

-- COMMANDS

-- a line of a script: a user's command on a path
abbrev pub line_by : List ℕ → List ℕ → List ℕ → List ℕ → List ℕ
line_by member word path tail = member ++ (word ++ (path ++ tail))

-- somebody opens what is at a path; and before that, if it is wanted, the root of the server that is active there
abbrev pub opened : Bool → List ℕ → List (List ℕ) → List ℕ → List (List ℕ)
opened roots path lines name =
    (if roots then lines ++ line_by name (codes " chmod 755 ") path (codes "/.") ∷ [] else lines) ++ line_by name (codes " chmod 755 ") path [] ∷ []

-- each of these does
abbrev pub opens_at : Bool → List ℕ → List (List ℕ) → List (List ℕ) → List (List ℕ)
opens_at roots path lines [] = lines
opens_at roots path lines (m ∷ ms) = opens_at roots path (opened roots path lines m) ms

-- a path, and a name after it
abbrev pub below : List ℕ → List ℕ → List ℕ
below path name = (path ++ 47 ∷ []) ++ name

-- they do so at each step of a path
abbrev pub opens_along : Bool → List (List ℕ) → List ℕ → List (List ℕ) → List (List ℕ) → List (List ℕ)
opens_along roots members path lines [] = lines
opens_along roots members path lines (name ∷ names) =
    opens_along roots members (below path name) (opens_at roots (below path name) lines members) names

-- they open the way to a path: the root, and each step
abbrev pub opens : Bool → List (List ℕ) → List ℕ → List (List ℕ) → List (List ℕ)
opens roots members path lines = opens_along roots members [] (opens_at roots (codes "/") lines members) (names_on path)

-- each of these gives this command on a path
abbrev pub each_does : List ℕ → List ℕ → List (List ℕ) → List (List ℕ) → List (List ℕ)
each_does word path lines [] = lines
each_does word path lines (m ∷ ms) = each_does word path (lines ++ line_by m word path [] ∷ []) ms

-- two scripts are tried: the helpers open the way; and they and WHO send away a server, and open the way and the roots of servers on it
abbrev pub way_by_helpers : List (List ℕ) → HelpSet → List ℕ → List (List ℕ)
way_by_helpers names set path = opens false (helper_names names set) path []

abbrev pub way_by_all : List (List ℕ) → HelpSet → List TaskId → List ℕ → List (List ℕ)
way_by_all names set who path = opens true (member_names names set who) path (each_does (codes " settrans -g ") path [] (member_names names set who))

-- the command that looks at a part: at entries, at bytes, at what a server says of itself, or else at attributes
abbrev pub look_at : View → SeenPart → List ℕ
look_at v (seen.Body n) = if has_entries (body_at v n) then codes " ls " else codes " cat "
look_at v (seen.Options n) = codes " fsysopts "
look_at v (seen.Text n) = codes " fsysopts "
look_at v _ = codes " ls -d "
