use Rattle.hurd_lessons.proofs.LessonLaws as law
use Rattle.hurd_lessons.proofs.lines.silent_where_same.Goals as goal

pub returns-clause-silent : goal.returns-clause-silent
returns-clause-silent c = law.silent_where_same

pub returns-clause-one : goal.returns-clause-one
returns-clause-one c = law.one_text
