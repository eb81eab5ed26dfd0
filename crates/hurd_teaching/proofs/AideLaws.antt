-- The tasks that could show some tasks more, by their rows.
use Rattle.std.proofs.Common.{◌≡◌, ◌∙◌, ap, sym, subst, List, filter, length, map}
use Rattle.std.proofs.lemmas.List.{length-map}
use Rattle.hurd_creds.specs.declared.name.TaskId.{TaskId}
use Rattle.hurd_machine.specs.World.{World}
use Rattle.hurd_ports.specs.Seats.{seat_task}
use Rattle.hurd_ports.specs.declared.table.TaskSeat.{TaskSeat}
use Rattle.hurd_views.specs.Views.{Views}
use Rattle.hurd_views.specs.declared.view.View.{View}
use Rattle.hurd_teaching.specs.Aides.{aides_of, is_aide}
use Rattle.hurd_teaching.specs.Owners.{tasks_below}

-- those of the tasks that have a row are those of all
pub all_aides : (who : List TaskId) (seats : List TaskSeat) (tasks aides : List TaskId) → tasks ≡ tasks_below (length seats)
    → aides ≡ filter (is_aide who (map seat_task seats)) tasks → aides ≡ aides_of who (map seat_task seats)
all_aides who seats tasks aides numbered is =
    is ∙ ap (filter (is_aide who (map seat_task seats))) (numbered ∙ ap tasks_below (sym (length-map seats seat_task)))

-- and a view of those by these rows is one of those of the world
pub aides_see : (w : World) (who aides : List TaskId) (seats : List TaskSeat) (view : View) → map seat_task seats ≡ w.tasks → aides ≡ aides_of who (map seat_task seats)
    → Views aides w view → Views (aides_of who w.tasks) w view
aides_see w who aides seats view rows is views = subst (λ (ts : List TaskId). Views ts w view) (is ∙ ap (aides_of who) rows) views
