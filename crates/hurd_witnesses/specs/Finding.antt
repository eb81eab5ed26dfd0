-- The program that prints a text with what some learn, and how they could be told it.
use Rattle.std.specs.Prelude.{ℕ, List, None}
use Rattle.hurd_dialogue.specs.Sorts.{Sort}
use Rattle.hurd_teaching.specs.Programs.{learning}
use Rattle.hurd_terminal.specs.Faults.{IsFront}
use Rattle.hurd_terminal.specs.Runs.{Program}
use Rattle.hurd_witnesses.specs.Witnesses.{IsWitnessed}

-- what those that WHO names learn of a text is printed, and after each line of it how they could be told it
abbrev pub Found : Sort → List ℕ → List ℕ → List ℕ → Type 0
Found sort word text printed = (learned : List ℕ) × (learning sort None word).IsAll text learned × IsWitnessed sort word text learned printed

abbrev pub finding : Sort → List ℕ → Program
finding sort word = record {
  complaint = (learning sort None word).complaint;
  stranger = (learning sort None word).stranger;
  bad = (learning sort None word).bad;
  boot = (learning sort None word).boot;
  known = (learning sort None word).known;
  IsAll = Found sort word;
  IsPart = λ text printed. (all : List ℕ) × Found sort word text all × IsFront printed all;
}
