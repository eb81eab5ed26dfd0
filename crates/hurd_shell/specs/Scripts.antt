-- Scripts, as a sort of texts.
use Rattle.std.specs.Prelude.{ℕ, List, Option, codes, length, option_and_then, option_map}
use Rattle.hurd_trans_iface.specs.Meaning.{begin}
use Rattle.hurd_kinds.specs.Boxes.{box_meaning}
use Rattle.hurd_kinds.specs.declared.server_box.ServerBox.{ServerBox}
use Rattle.hurd_script.specs.Flaws.{flaw_at, flaw_text}
use Rattle.hurd_script.specs.Script.{bad, names_of, users_of}
use Rattle.hurd_tmpfs.specs.Tree.{new_tmpfs}
use Rattle.hurd_words.specs.Users.{task_of}
use Rattle.hurd_world.specs.Boot.{boot_of, first_world}
use Rattle.hurd_world.specs.Held.{world_of}
use Rattle.hurd_dialogue.specs.Complaints.{complaint_by}
use Rattle.hurd_dialogue.specs.Parts.{Way}
use Rattle.hurd_dialogue.specs.Sorts.{Sort}
use Rattle.hurd_shell.specs.Session.{View, left_in}
use Rattle.hurd_shell.specs.Transcript.{dialogue_of, told_by}

-- why a script is bad, if it is, in words
abbrev pub flaw_in : List ℕ → Option (List ℕ)
flaw_in text = option_map flaw_text (option_and_then (flaw_at text) (bad text))

-- a script tells its transcript, begun over an empty tree in memory, with the servers that the words make. Its users' lines stand in front of its
-- commands, one for each but root
abbrev pub scripts : Sort
scripts = record {
  complaint = λ text. complaint_by (codes ": bad script: ") text (bad text) (flaw_in text);
  stranger = codes ": no such user: ";
  thing = codes " command";
  bad = bad;
  boot = λ text. boot_of new_tmpfs (users_of text);
  world = λ text. first_world new_tmpfs (users_of text);
  parts = λ text. told_by begin (dialogue_of text new_tmpfs);
  heading = λ text. length (names_of text);
  names = names_of;
  finds = λ text name. task_of (names_of text) name;
  called = λ word tasks. word;
}

-- how far a session is, with these names of users
abbrev pub way_of : View ServerBox → List (List ℕ) → Way
way_of s names = record {
  left = told_by begin (left_in box_meaning s);
  world = world_of box_meaning s.world;
  told = s.given;
  heading = length names;
  names = names;
  finds = λ name. task_of names name;
}
