-- What is found out at the end of a text.
use Rattle.std.specs.Prelude.{Bool, List}
use Rattle.hurd_creds.specs.declared.name.TaskId.{TaskId}
use Rattle.hurd_machine.specs.World.{World}
use Rattle.hurd_sight.specs.declared.parts.SeenPart.{SeenPart}
use Rattle.hurd_views.specs.declared.view.View.{View}
use Rattle.hurd_can.specs.Help.{AreHelped, Help, Picks}
use Rattle.hurd_can.specs.Listed.{Unseen, listed}
use Rattle.hurd_can.specs.Programs.{others_of}

-- the parts that are listed of a view and that some tasks don't see, each with those of all tasks who could help
abbrev pub HelpsAtEnd : World → View → List TaskId → List TaskId → Bool → List Help → Type 0
HelpsAtEnd w view who tasks every helps =
    (parts : List SeenPart) × Picks (Unseen w who) (listed every view) parts × AreHelped w who (others_of who tasks) parts helps
