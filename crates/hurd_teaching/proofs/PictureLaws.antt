-- What is drawn of a text, and that it is one picture.
use Rattle.std.proofs.Common.{◌≡◌, ◌∙◌, ap, sym, subst, refl, ℕ, Bool, false, true, List, map, length, Option, Some, None, Result, Ok, Err}
use Rattle.std.specs.Prelude.{IfErr, IfOk, OnOk, Vec, drop, is_some}
use Rattle.std.specs.Global.{Global}
use Rattle.std.specs.Io.KnownBytes.{Appends}
use Rattle.std.proofs.lemmas.List.{length-map}
use Rattle.hurd_creds.specs.declared.name.TaskId.{TaskId}
use Rattle.hurd_machine.specs.World.{World}
use Rattle.hurd_ports.specs.Seats.{seat_task}
use Rattle.hurd_ports.specs.declared.table.TaskSeat.{TaskSeat}
use Rattle.hurd_dialogue.specs.Parts.{Way, world_behind}
use Rattle.hurd_dialogue.specs.Sorts.{Begins, Sort, last_world}
use Rattle.hurd_pictures.specs.Pictures.{picture}
use Rattle.hurd_pictures.specs.declared.names.Titles.{Titles}
use Rattle.hurd_teaching.specs.Learners.{Named, tasks_named}
use Rattle.hurd_teaching.specs.Looks.{asks_of, starts_of}
use Rattle.hurd_teaching.specs.declared.learners.Learners.{Learners}
use Rattle.hurd_teaching.proofs.ProgramLaws.{adds_piece, these}
use Rattle.hurd_terminal.specs.Faults.{AppendsFront}
use Rattle.hurd_terminal.specs.Runs.{Adds}
use Rattle.hurd_terminal.specs.declared.fault.Fault.{Fault}
use Rattle.hurd_terminal.specs.declared.fault.Fault.TheVariants.{Write}
use Rattle.hurd_terminal.specs.declared.print.Output.{Output}
use Rattle.hurd_views.specs.Views.{Views}
use Rattle.hurd_views.specs.declared.view.View.{View}
use Rattle.hurd_words.specs.Lines.{lines_of}
use Rattle.hurd_teaching.specs.Drawings.{IsDrawn, IsPicture, Marked, SeenBy, called_of, drawing, marked_by, marked_tasks, wide_tasks}
use Rattle.hurd_teaching.specs.Owners.{all_tasks, owners_of, tasks_below}

-- where something is there, what holds of it may be said in other words
pub said_so : {T E : Type 0} (P Q : T → Type 0) (r : Result T E) → ((x : T) → P x → Q x) → IfOk r P → IfOk r Q
said_so P Q (Ok x) so is = so x is
said_so P Q (Err e) so is = is

-- a picture of all that is seen by the tasks of these rows is one of the world
pub is_picture : (names : List (List ℕ)) (w : World) (titles : Titles) (view : View) (who : List ℕ) (seen wide : Option View) (seats : List TaskSeat) (tasks : List TaskId) (text : List ℕ)
    → titles.tasks.items ≡ names → titles.owners.items ≡ owners_of names (map seat_task seats) → map seat_task seats ≡ w.tasks → tasks ≡ tasks_below (length seats) → Views tasks w view
    → text ≡ picture titles tasks view who seen wide → IsPicture names who seen wide w text
is_picture names w titles view who seen wide seats tasks text named owned rows numbered views is = record {
  titles = titles;
  named = named;
  owned = owned ∙ ap (owners_of names) rows;
  view = view;
  all = subst (λ (ts : List TaskId). Views ts w view) same views;
  is = is ∙ ap (λ (ts : List TaskId). picture titles ts view who seen wide) same;
}
  where
    same : tasks ≡ all_tasks w.tasks
    same = numbered ∙ ap tasks_below (sym (length-map seats seat_task) ∙ ap length rows)

-- it is drawn of the world, where these views are of those who are marked
pub is_drawn : (names : List (List ℕ)) (marked : Option Marked) (w : World) (seen wide : Option View) (text : List ℕ) → SeenBy (marked_tasks marked) w seen → SeenBy (wide_tasks marked) w wide
    → IsPicture names (called_of marked) seen wide w text → IsDrawn names marked w text
is_drawn names marked w seen wide text theirs helped is = record { seen = seen; theirs = theirs; wide = wide; helped = helped; is = is }

module _ (sort : Sort) (text : List ℕ) (way : Way) (begins : Begins sort text way) where
  -- the picture was printed, or a front of it
  pub plain_adds : {W : Type 0} (output : Output W) (was : Bool) (before after : Option (List ℕ)) (ended : Result (Unit {0}) Fault) (whole : List ℕ)
      → IsDrawn way.names None (world_behind way.world way.left) whole → OnOk ended (Appends before after whole × (output.failed ≡ was))
      → IfErr ended (λ fault. (fault ≡ Write) × (output.failed ≡ true) × AppendsFront before after whole) → Adds (drawing sort false None) text before after ended
  plain_adds output was before after ended whole drawn ok err =
      let there : IsDrawn (sort.names text) None (last_world sort text) whole = rw (begins.names, begins.world, begins.left) at drawn in
      adds_piece (drawing sort false None) output was before after text whole ended (record { good = begins.good; known = refl }) there (λ front is. (whole, there, is)) ok err

  module _ (word : List ℕ) (learners : Learners)
      (named : Named (tasks_named way.finds word) (sort.called word) (drop way.heading (asks_of (lines_of text))) (starts_of way.heading (lines_of text)) (Some learners)) where
    -- the same where some are marked
    pub marked_adds : (can : Bool) {W : Type 0} (output : Output W) (was : Bool) (before after : Option (List ℕ)) (ended : Result (Unit {0}) Fault) (whole : List ℕ)
        → IsDrawn way.names (Some (marked_by can learners (world_behind way.world way.left))) (world_behind way.world way.left) whole
        → OnOk ended (Appends before after whole × (output.failed ≡ was))
        → IfErr ended (λ fault. (fault ≡ Write) × (output.failed ≡ true) × AppendsFront before after whole) → Adds (drawing sort can (Some word)) text before after ended
    marked_adds can output was before after ended whole drawn ok err =
        let are = these sort text word way begins learners named in
        let there : IsDrawn (sort.names text) (Some (marked_by can learners (last_world sort text))) (last_world sort text) whole =
        rw (begins.names, begins.world, begins.left) at drawn in
        adds_piece (drawing sort can (Some word)) output was before after text whole ended (record { good = begins.good; known = ap is_some are.tasks }) (learners, are, there)
        (λ front is. (whole, (learners, are, there), is)) ok err
