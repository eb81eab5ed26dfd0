-- Commands of some users, each chosen by all answers before it.
use Rattle.std.specs.Prelude.{◌≡◌, ℕ, zero, suc, Bool, true, List, [], ◌∷◌, ◌++◌}
use Rattle.hurd_words.specs.declared.answers.Answer.{Answer}
use Rattle.hurd_machine.specs.World.{World}
use Rattle.hurd_machine.specs.Sight.{SameView}
use Rattle.hurd_machine.specs.Sound.{Sound}
use Rattle.hurd_script.specs.Commands.{CommandLine}
use Rattle.hurd_laws.specs.Runs.{run}
use Rattle.hurd_shell.specs.Isolation.{command_calls, command_part, parts_to, world_after}
use Rattle.hurd_shell.specs.Transcript.{Maker, dialogue, parts_by}

-- so many commands, each chosen by the answers to those before it
abbrev pub chosen_commands : Maker → ℕ → (List Answer → CommandLine) → List Answer → World → List CommandLine
chosen_commands make zero next told w = []
chosen_commands make (suc k) next told w =
    let c = next told in c ∷ chosen_commands make k next (told ++ command_part make c w ∷ []) (run w (command_calls make c w))

-- chosen so in two worlds, they are the same commands, S gets the same answers, and G, who chose them, sees the same afterwards
pub record TellNothing (S G : ℕ → Bool) (make : Maker) (v w : World) (k : ℕ) (next : List Answer → CommandLine) : Type 0 where
  pub commands : chosen_commands make k next [] v ≡ chosen_commands make k next [] w
  pub told : let cs = chosen_commands make k next [] v in let ds = chosen_commands make k next [] w in
      parts_to S cs (parts_by make (dialogue cs v)) ≡ parts_to S ds (parts_by make (dialogue ds w))
  pub sees : SameView G (world_after make (chosen_commands make k next [] v) v) (world_after make (chosen_commands make k next [] w) w)

-- if two worlds look the same to G, and all commands are of users of G, no user can tell them apart, however the commands are chosen
abbrev pub ChosenCommandsTellNothing : Type 0
ChosenCommandsTellNothing =
    (S G : ℕ → Bool) (make : Maker) (v w : World) (k : ℕ) (next : List Answer → CommandLine) → Sound v → Sound w → SameView G v w
    → ((told : List Answer) → G (next told).task ≡ true) → TellNothing S G make v w k next
