-- What is kept of a record whose world has begun.
use Rattle.std.proofs.Common.{ℕ, List, Option, true}
use Rattle.hurd_creds.specs.declared.name.TaskId.{TaskId}
use Rattle.hurd_dialogue.specs.Parts.{Way}
use Rattle.hurd_lessons.specs.declared.tally.Tally.{Tally}
use Rattle.hurd_teaching.specs.Learners.{Speech}
use Rattle.hurd_teaching.specs.Shown.{StepsTo}
use Rattle.hurd_teaching.specs.Watched.{SeenOf}
use Rattle.hurd_views.specs.declared.view.View.{View}

-- after a call was told, what is kept of what is seen is of the world after it
pub step_sees : (most : Option ℕ) (tasks : List TaskId) (who : Speech) (old new : Way) (tally count : Tally) (before after : Option (List ℕ)) (kept : Option View)
    → StepsTo most tasks who old tally before true new kept count after → SeenOf tasks new.world kept
unfolding StepsTo
step_sees most tasks who old new tally count before after kept (p, left, world, told, this) = rw world this.seen
