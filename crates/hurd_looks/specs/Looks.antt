-- When two worlds look the same to some tasks except for names of what others made.
use Rattle.std.specs.Prelude.{List}
use Rattle.hurd_creds.specs.declared.name.TaskId.{TaskId}
use Rattle.hurd_machine.specs.Renamed.{OtherNames}
use Rattle.hurd_machine.specs.Sound.{Sound}
use Rattle.hurd_machine.specs.World.{World}
use Rattle.hurd_sight.specs.Reach.{among}
use Rattle.hurd_laws.specs.After.{LooksLike}
use Rattle.hurd_views.specs.Views.{Views}
use Rattle.hurd_views.specs.declared.view.View.{View}
use Rattle.hurd_looks.specs.Renamed.{AreAlike}

-- of two worlds in which some tasks have views that are the same except for names, the first looks to these tasks as the second, by other names
abbrev pub AlikeLooks : Type 0
AlikeLooks =
    (tasks : List TaskId) (v w : World) (a b : View) → Sound v → Sound w → Views tasks v a → Views tasks w b → AreAlike (among tasks) a b
    → (f : OtherNames) × LooksLike (among tasks) f v w
