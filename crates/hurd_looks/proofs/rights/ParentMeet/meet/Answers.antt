use Rattle.std.proofs.Common.{ap}
use Rattle.hurd_ports.specs.declared.parents.Parent.{Parent}
use Rattle.hurd_looks.proofs.MeetLaws.{ok_then, pairs_as, pairs_both, pairs_no}
use Rattle.hurd_looks.proofs.SplitLaws.{way_split}
use Rattle.hurd_looks.proofs.rights.ParentMeet.meet.Goals as goal

pub returns-then-not-branch : goal.returns-then-not-branch
returns-then-not-branch c = pairs_no _ _ (λ g e. ap (λ (w : Parent). w.at) e) _ _ _ c.if-not-branch.true c.in_ok-meet.ensures

pub returns : goal.returns
returns c = ok_then _ _ (λ met h. pairs_as _ _ (λ g. way_split g c.args.self.now c.args.other.now) _ met _ (pairs_both _ _ _ _ _ met _ c.if-not-branch.false c.in_ok-meet.ensures h)) c.meet-2.result c.meet-2.ensures
