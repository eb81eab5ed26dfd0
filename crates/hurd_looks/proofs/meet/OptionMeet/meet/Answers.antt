use Rattle.std.proofs.Common.{refl}
use Rattle.hurd_looks.proofs.MeetLaws.{none_alone, none_meets, ok_then, some_alone, some_meets}
use Rattle.hurd_looks.proofs.meet.OptionMeet.meet.Goals as goal

pub returns-in-Some-Some : goal.returns-in-Some-Some
returns-in-Some-Some g c = ok_then _ _ (λ met h. some_meets g.T.Meet.renamed _ _ _ _ _ _ met c.in-Some-Some.is-0 c.in-Some-Some.is-1 h) c.meet.result c.meet.ensures

pub returns-in-None-None : goal.returns-in-None-None
returns-in-None-None g c = none_meets g.T.Meet.renamed _ _ _ _ c.in-None-None.is-0 c.in-None-None.is-1 refl

pub returns-in_default : goal.returns-in_default
returns-in_default g c = some_alone g.T.Meet.renamed _ _ _ _ _ c.in_default.is-0 c.in_default.is-1

pub returns-in_default-2 : goal.returns-in_default-2
returns-in_default-2 g c = none_alone g.T.Meet.renamed _ _ _ _ _ c.in_default.is-0 c.in_default.is-1
