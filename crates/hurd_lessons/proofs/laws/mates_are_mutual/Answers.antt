use Rattle.hurd_lessons.proofs.Mates as law
use Rattle.hurd_lessons.proofs.laws.mates_are_mutual.Goals as goal

pub returns : goal.returns
returns c = law.mates_are_mutual
