-- What is said of each part that could be shown, and of the ways to show it.
use Rattle.std.specs.Prelude.{◌≡◌, ℕ, Bool, true, false, List, [], ◌++◌, Option, length}
use Rattle.hurd_creds.specs.declared.name.TaskId.{TaskId}
use Rattle.hurd_dialogue.specs.Sorts.{Sort}
use Rattle.hurd_ports.specs.Tables.{Task}
use Rattle.hurd_views.specs.declared.view.View.{View}
use Rattle.hurd_can.specs.Could.{could_line, last_line, part_place}
use Rattle.hurd_can.specs.Dated.{SinceIn, made_before}
use Rattle.hurd_can.specs.Help.{Help}
use Rattle.hurd_can.specs.Remembered.{row_of}
use Rattle.hurd_can.specs.Tried.{AllSaid, SaysWay}
use Rattle.hurd_can.specs.declared.text.Scene.{Scene}
use Rattle.hurd_can.specs.Ways.{look_at, path_of, sets_of}

-- all that a text of what could be shown is made of: the sort of the script, and the script; the names of its users; WHO, what they are called, and that they see;
-- and whether ways are wanted
pub record Asked : Type 0 where
  pub sort : Sort
  pub script : List ℕ
  pub names : List (List ℕ)
  pub who : List TaskId
  pub called : List ℕ
  pub sees : List ℕ
  pub how : Bool

abbrev pub asked_of : Sort → Scene → Asked
asked_of sort s = record { sort = sort; script = s.script.now; names = s.names.now; who = s.learners.now; called = s.who.now; sees = s.sees.now; how = s.how }

-- the ways to show a part, one for each set of helpers, if they are wanted; all see it together as it is since so many commands
abbrev pub SaysWays : Bool → Asked → View → List Task → List TaskId → Help → List ℕ → Type 0
SaysWays false a v tasks all h text = text ≡ []
SaysWays true a v tasks all h text =
    (since : Option ℕ) × SinceIn a.sort a.script (row_of v h.part) all h.part since
    × AllSaid (SaysWay a.sort a.script a.names a.who h.part (made_before since) (look_at v h.part) (path_of (part_place v h.part))) (sets_of tasks h.ones h.twos) text

-- the line of a part, and the ways to show it
abbrev pub SaysPart : Asked → View → List Task → List TaskId → Help → List ℕ → Type 0
SaysPart a v tasks all h text = (ways : List ℕ) × (text ≡ could_line v a.names tasks all a.called h ++ ways) × SaysWays a.how a v tasks all h ways

-- what is said of these parts, and how many they are
abbrev pub SaysAll : Asked → View → List Task → List TaskId → List Help → List ℕ → Type 0
SaysAll a v tasks all hs text = (said : List ℕ) × AllSaid (SaysPart a v tasks all) hs said × (text ≡ said ++ last_line a.called a.sees (length hs))
