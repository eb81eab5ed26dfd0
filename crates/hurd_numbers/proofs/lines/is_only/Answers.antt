use Rattle.hurd_numbers.proofs.LineLaws.{one_only}
use Rattle.hurd_numbers.proofs.lines.is_only.Goals as goal

pub returns-in-len1 : goal.returns-in-len1
returns-in-len1 g c = λ h. one_only g.S.Server.meaning c.args.calls.now c.args.call.now c.read-item.result c.in-len1.len_at_least c.in-len1.len_below c.read-item.is (c.same_listed.ensures h)
