-- Commands that some users choose by what they were told are the same in two worlds that show them the same.
use Rattle.std.proofs.Common.{◌≡◌, ◌∙◌, ℕ, zero, suc, Bool, true, true≢false, List, [], ◌∷◌, ◌++◌, length, sym, refl, ap, subst}
use Rattle.hurd_machine.proofs.Common.{SameView, Sound, World}
use Rattle.hurd_words.specs.declared.answers.Answer.{Answer}
use Rattle.hurd_script.specs.Commands.{CommandLine}
use Rattle.hurd_laws.specs.Runs.{run}
use Rattle.hurd_shell.specs.Isolation.{UnmovedCommands, command_calls, command_part, parts_to, world_after}
use Rattle.hurd_shell.specs.Transcript.{Maker, dialogue, parts_by}
use Rattle.hurd_shell.proofs.IsolationLaws.{isolated_by_view, one_part_each, own_command, run_sound}
use Rattle.hurd_shell.specs.Chosen.{ChosenCommandsTellNothing, chosen_commands}

-- all commands are of users of G
abbrev AllOf : (ℕ → Bool) → List CommandLine → Type 0
AllOf G [] = Unit {0}
AllOf G (c ∷ cs) = (G c.task ≡ true) × AllOf G cs

-- then there are no others, who could move what G sees
none_moves : (G : ℕ → Bool) (make : Maker) (cs : List CommandLine) (w : World) → AllOf G cs → UnmovedCommands G make cs w
none_moves G make [] w all = tt
none_moves G make (c ∷ cs) w all = (λ out. absurd (true≢false (sym all.0 ∙ out)), none_moves G make cs (run w (command_calls make c w)) all.1)

-- and all parts are theirs
all_parts : (G : ℕ → Bool) (cs : List CommandLine) (parts : List Answer) → AllOf G cs → length parts ≡ length cs → parts_to G cs parts ≡ parts
all_parts G [] [] all e = refl
all_parts G [] (p ∷ ps) all e = absurd (cc)
all_parts G (c ∷ cs) [] all e = absurd (cc)
all_parts G (c ∷ cs) (p ∷ ps) all e = rw all.0 (ap (λ qs. p ∷ qs) (all_parts G cs ps all.1 (cc)))

module _ (G : ℕ → Bool) (make : Maker) (next : List Answer → CommandLine) (ours : (told : List Answer) → G (next told).task ≡ true) where
  chosen_ours : (k : ℕ) (told : List Answer) (w : World) → AllOf G (chosen_commands make k next told w)
  chosen_ours zero told w = tt
  chosen_ours (suc k) told w = let c : CommandLine = next told in (ours told, chosen_ours k (told ++ command_part make c w ∷ []) (run w (command_calls make c w)))

  same_commands : (k : ℕ) (told : List Answer) (v w : World) → Sound v → Sound w → SameView G v w → chosen_commands make k next told v ≡ chosen_commands make k next told w
  same_commands zero told v w sv sw x = refl
  same_commands (suc k) told v w sv sw x =
      let c : CommandLine = next told in
      let own = own_command G make v w c sv sw (ours told) x in
      ap (λ cs. c ∷ cs) (
      same_commands k (told ++ command_part make c v ∷ []) (run v (command_calls make c v)) (run w (command_calls make c w)) (run_sound (command_calls make c v) v sv) (run_sound (command_calls make c w) w sw) own.1
      ∙ ap (λ part. chosen_commands make k next (told ++ part ∷ []) (run w (command_calls make c w))) own.0
      )

pub chosen_commands_tell_nothing : ChosenCommandsTellNothing
chosen_commands_tell_nothing S G make v w k next sv sw x ours =
    let cs : List CommandLine = chosen_commands make k next [] v in
    let ds : List CommandLine = chosen_commands make k next [] w in
    let same : cs ≡ ds = same_commands G make next ours k [] v w sv sw x in
    let all : AllOf G cs = chosen_ours G make next ours k [] v in
    let told = isolated_by_view G make v w cs cs sv sw x refl (none_moves G make cs v all) (none_moves G make cs w all) in
    let parts : parts_by make (dialogue cs v) ≡ parts_by make (dialogue cs w) =
    sym (all_parts G cs (parts_by make (dialogue cs v)) all (one_part_each make cs v)) ∙ told.0 ∙ all_parts G cs (parts_by make (dialogue cs w)) all (one_part_each make cs w) in
    record {
      commands = same;
      told = ap (parts_to S cs) parts ∙ ap (λ (es : List CommandLine). parts_to S es (parts_by make (dialogue es w))) same;
      sees = subst (λ (es : List CommandLine). SameView G (world_after make cs v) (world_after make es w)) same told.1;
    }
