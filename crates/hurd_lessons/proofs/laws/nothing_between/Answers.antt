use Rattle.hurd_lessons.proofs.NothingLaws as law
use Rattle.hurd_lessons.proofs.laws.nothing_between.Goals as goal

pub returns : goal.returns
returns c = law.nothing_between
