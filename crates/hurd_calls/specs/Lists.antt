-- Lists of calls, as a sort of texts.
use Rattle.std.specs.Prelude.{ℕ, ◌+◌, List, [], Option, codes, length, map}
use Rattle.hurd_kinds.specs.Boxes.{box_meaning}
use Rattle.hurd_kinds.specs.declared.server_box.ServerBox.{ServerBox}
use Rattle.hurd_lists.specs.Lists.{Standing, listed_by, reading_of}
use Rattle.hurd_lists.specs.declared.reader.ListedCall.{ListedCall}
use Rattle.hurd_tmpfs.specs.Tree.{new_tmpfs}
use Rattle.hurd_world.specs.Boot.{boot_of, first_world}
use Rattle.hurd_world.specs.Held.{Whole, world_of}
use Rattle.hurd_dialogue.specs.Complaints.{complaint_by}
use Rattle.hurd_dialogue.specs.Parts.{Way}
use Rattle.hurd_dialogue.specs.Sorts.{Sort}
use Rattle.hurd_calls.specs.Making.{parts_of}
use Rattle.hurd_calls.specs.Readings.{bad_line, flaw_in, said_in}
use Rattle.hurd_calls.specs.Tasks.{called, task_of}

-- texts that tell each of their calls with its reply, made over an empty tree in memory, by what a text says, the line at which it is bad, and why.
-- Their tasks' lines are in front of the calls
abbrev pub telling_calls : (List ℕ → Standing) → (List ℕ → Option ℕ) → (List ℕ → Option (List ℕ)) → Sort
telling_calls said bad flaw = record {
  complaint = λ text. complaint_by (codes ": bad call list: ") text (bad text) (flaw text);
  stranger = codes ": no such task: ";
  thing = codes " call";
  bad = bad;
  boot = λ text. boot_of new_tmpfs (said text).tasks;
  world = λ text. first_world new_tmpfs (said text).tasks;
  parts = λ text. parts_of (said text).calls (first_world new_tmpfs (said text).tasks);
  heading = λ text. length (said text).tasks + 1;
  names = λ text. [];
  finds = λ text name. task_of (length (said text).tasks) name;
  called = called;
}

-- lists, each of which is read as a whole
abbrev pub lists : Sort
lists = telling_calls (λ text. said_in (reading_of text)) (λ text. bad_line (reading_of text)) (λ text. flaw_in (reading_of text))

-- how far a list of so many tasks is, with these calls left
abbrev pub way_of : Whole ServerBox → List (ListedCall ServerBox) → ℕ → ℕ → Way
way_of world calls told tasks = record {
  left = parts_of (map (listed_by box_meaning) calls) (world_of box_meaning world);
  world = world_of box_meaning world;
  told = told;
  heading = tasks + 1;
  names = [];
  finds = λ name. task_of tasks name;
}
