-- What a list and then a text tell, and what both tell as one list.
use Rattle.std.proofs.Common.{◌≡◌, ◌∙◌, ◌≤◌, ℕ, List, [], ◌∷◌, ◌++◌, None, Result, Ok, Err, ap, length, refl, sym}
use Rattle.std.proofs.lemmas.Bool.{le-ltb}
use Rattle.hurd_creds.specs.Access.{IdSets}
use Rattle.hurd_creds.specs.Limits.{most_script}
use Rattle.hurd_lists.specs.Flaws.{BadLine}
use Rattle.hurd_lists.specs.Lists.{Listed, Standing, reading_of}
use Rattle.hurd_machine.specs.World.{World}
use Rattle.hurd_tmpfs.specs.Tree.{new_tmpfs}
use Rattle.hurd_world.specs.Boot.{first_world}
use Rattle.hurd_sitting.specs.Sittings.{Begins, Makes, behind, calls_in, told_by, without_tasks}
use Rattle.hurd_sitting.proofs.PartLaws.{as_one}
use Rattle.hurd_sitting.proofs.ReadLaws.{joined_read}

-- a text of calls alone says no task, and these calls
no_tasks : (tasks : List IdSets) (said calls : List Listed) → without_tasks tasks said ≡ Ok calls → (tasks ≡ []) × (said ≡ calls)
no_tasks [] said calls e = (refl, cc)
no_tasks (ids ∷ more) said calls e = cc

calls_said : (r : Result Standing BadLine) (calls : List Listed) → calls_in r ≡ Ok calls → (more : Standing) × (r ≡ Ok more) × (more.tasks ≡ []) × (more.calls ≡ calls)
calls_said (Err bad) calls e = cc
calls_said (Ok more) calls e =
    let alone = no_tasks more.tasks more.calls calls e in
    (more, refl, alone.0, alone.1)

pub texts_one : (list text told more : List ℕ) (w x : World) → Begins list told w → Makes None text w more x → length (list ++ 10 ∷ text) ≤ most_script
    → Begins (list ++ 10 ∷ text) (told ++ more) x
texts_one list text told more w x begins makes few =
    let first = first_world new_tmpfs begins.said.tasks in
    let alone = calls_said (reading_of text) makes.calls makes.reads in
    let both = as_one begins.said.calls makes.calls first in
    record {
      said = record { tasks = begins.said.tasks; calls = begins.said.calls ++ makes.calls };
      reads = joined_read list text begins.said alone.0 begins.reads alone.1 alone.2 (le-ltb most_script _ few)
          ∙ ap (λ (cs : List Listed). Ok (record { tasks = begins.said.tasks; calls = begins.said.calls ++ cs })) alone.3;
      boots = begins.boots;
      tells = ap (λ (bs : List ℕ). bs ++ more) begins.tells
          ∙ (ap (λ (bs : List ℕ). told_by begins.said.calls first ++ bs) (makes.tells ∙ ap (told_by makes.calls) begins.leaves) ∙ sym both.tells);
      leaves = makes.leaves ∙ (ap (behind makes.calls) begins.leaves ∙ sym both.leaves);
    }
