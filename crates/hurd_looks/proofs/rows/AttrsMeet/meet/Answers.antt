use Rattle.hurd_looks.proofs.MeetLaws.{ok_then, pairs_as, pairs_never, said_no, said_yes}
use Rattle.hurd_looks.proofs.SplitLaws.{attrs_beside, attrs_split}
use Rattle.hurd_looks.proofs.rows.AttrsMeet.meet.Goals as goal

pub returns-then-not-same_but_parent : goal.returns-then-not-same_but_parent
returns-then-not-same_but_parent c = pairs_never _ (λ g e. said_no c.same_but_parent.ensures c.if-not-same_but_parent.true (attrs_beside g c.args.self.now c.args.other.now e)) _ _

pub returns : goal.returns
returns c =
    ok_then _ _ (λ met h. pairs_as _ _ (λ g. attrs_split g c.args.self.now c.args.other.now (said_yes c.same_but_parent.ensures c.if-not-same_but_parent.false)) _ met _ h) c.meet.result c.meet.ensures
