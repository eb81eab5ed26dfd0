use Rattle.hurd_lessons.proofs.BesideLaws.{told_apart_is_one}
use Rattle.hurd_lessons.proofs.laws.said_in_one_way.Goals as goal
use Rattle.hurd_lessons.proofs.OneLesson.{seen_is_one, taught_is_one}

pub returns : goal.returns
returns c = record { taught = taught_is_one; apart = told_apart_is_one; seen = seen_is_one }
