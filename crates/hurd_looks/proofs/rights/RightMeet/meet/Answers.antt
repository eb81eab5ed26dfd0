use Rattle.std.proofs.Common.{ap}
use Rattle.hurd_machine.proofs.Common.{Control, Io, Start}
use Rattle.hurd_machine.specs.Renamed.{right_renamed}
use Rattle.hurd_looks.proofs.MeetLaws.{ok_then, pairs_as, pairs_never}
use Rattle.hurd_looks.proofs.SplitLaws.{control_alike, io_alike, no_other, start_alike}
use Rattle.hurd_looks.proofs.rights.RightMeet.meet.Goals as goal

pub returns-in-Io-Io : goal.returns-in-Io-Io
returns-in-Io-Io c = ok_then _ _ (λ met h. pairs_as _ _ (λ g. io_alike g c.args.self.now c.args.other.now _ _ c.in-Io-Io.is-0 c.in-Io-Io.is-1) _ met _ h) c.meet.result c.meet.ensures

pub returns-in-Control-Control : goal.returns-in-Control-Control
returns-in-Control-Control c =
    ok_then _ _ (λ met h. pairs_as _ _ (λ g. control_alike g c.args.self.now c.args.other.now _ _ c.in-Control-Control.is-0 c.in-Control-Control.is-1) _ met _ h)
    c.meet-in-Control-Control.result c.meet-in-Control-Control.ensures

pub returns-in-Start-Start : goal.returns-in-Start-Start
returns-in-Start-Start c =
    ok_then _ _ (λ met h. pairs_as _ _ (λ g. start_alike g c.args.self.now c.args.other.now _ _ c.in-Start-Start.is-0 c.in-Start-Start.is-1) _ met _ h)
    c.meet-in-Start-Start.result c.meet-in-Start-Start.ensures

pub returns-in_default : goal.returns-in_default
returns-in_default c = pairs_never _ (λ g. no_other g (right_renamed g) c.args.self.now c.args.other.now Io _ (ap (right_renamed g) c.in_default.is-0) c.in_default.not-Io-1) _ _

pub returns-in_default-2 : goal.returns-in_default-2
returns-in_default-2 c = pairs_never _ (λ g. no_other g (right_renamed g) c.args.self.now c.args.other.now Control _ (ap (right_renamed g) c.in_default.is-0) c.in_default.not-Control-1) _ _

pub returns-in_default-3 : goal.returns-in_default-3
returns-in_default-3 c = pairs_never _ (λ g. no_other g (right_renamed g) c.args.self.now c.args.other.now Start _ (ap (right_renamed g) c.in_default.is-0) c.in_default.not-Start-1) _ _
