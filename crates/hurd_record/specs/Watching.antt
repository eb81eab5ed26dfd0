-- Those whom a report names, and what they saw.
use Rattle.std.specs.Prelude.{Option, Some, None}
use Rattle.std.specs.Coded.{Coded, coded_option}
use Rattle.hurd_machine.specs.World.{World}
use Rattle.hurd_teaching.specs.Watched.{SeenOf}
use Rattle.hurd_teaching.specs.declared.learners.Learners.{Learners}
use Rattle.hurd_teaching.specs.contracts.learners.Learners as learners
use Rattle.hurd_views.specs.declared.view.View.{View}

-- what was seen, if there was a look, was this world's
abbrev pub SeenIf : Option Learners → World → Option View → Type 0
SeenIf None w seen = Unit {0}
SeenIf (Some learners) w seen = SeenOf learners.tasks.items w seen

abbrev pub coded_learners : Coded (Option Learners)
coded_learners = coded_option learners.the_row.coded
