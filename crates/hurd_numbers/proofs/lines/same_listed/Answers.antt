use Rattle.hurd_numbers.proofs.LineLaws.{listed_same}
use Rattle.hurd_numbers.proofs.lines.same_listed.Goals as goal

pub returns : goal.returns
returns g c = λ h. listed_same g.S.Server.meaning c.args.read.now c.args.call.now c.if-read-call.false (c.same_call.ensures c.if-not-same_call.false) (c.same_server.ensures h)
