-- The vectors of a list of calls.
use Rattle.std.specs.Prelude.{◌≡◌, ℕ, true, List, [], ◌∷◌}
use Rattle.std.specs.List.{concat}
use Rattle.hurd_machine.specs.World.{World}
use Rattle.hurd_laws.specs.Step.{reply_of}
use Rattle.hurd_lists.specs.Lists.{Listed, Standing, reading_of}
use Rattle.hurd_terminal.specs.Faults.{IsFront}
use Rattle.hurd_terminal.specs.Runs.{Program}
use Rattle.hurd_tmpfs.specs.Tree.{new_tmpfs}
use Rattle.hurd_world.specs.Boot.{first_world}
use Rattle.hurd_calls.specs.Lists.{lists}
use Rattle.hurd_calls.specs.Making.{after_call}
use Rattle.hurd_calls.specs.Readings.{said_in}
use Rattle.hurd_vectors.specs.Lines.{header_of, vector_of}

-- the vector of a call that is made in a world
abbrev pub vector_in : Listed → World → List ℕ
vector_in c w = vector_of c.line (reply_of w c.task.0 c.call)

-- the vectors of calls that are made one after another
unfoldable pub vectors_from : List Listed → World → List (List ℕ)
vectors_from [] w = []
vectors_from (c ∷ cs) w = vector_in c w ∷ vectors_from cs (after_call c w)

-- the vectors of a list that says this: its tasks, then each call, made over an empty tree in memory
abbrev pub vectors_by : List ℕ → Standing → List (List ℕ)
vectors_by text said = header_of text ∷ vectors_from said.calls (first_world new_tmpfs said.tasks)

abbrev pub vectors_of : List ℕ → List (List ℕ)
vectors_of text = vectors_by text (said_in (reading_of text))

-- all that is printed of a list
abbrev pub printed_of : List ℕ → List ℕ
printed_of text = concat (vectors_of text)

-- the program that prints it
abbrev pub vectors : Program
vectors = record {
  complaint = lists.complaint;
  stranger = [];
  bad = lists.bad;
  boot = lists.boot;
  known = λ text. true;
  IsAll = λ text printed. printed ≡ printed_of text;
  IsPart = λ text printed. IsFront printed (printed_of text);
}
