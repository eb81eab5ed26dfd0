use Rattle.std.proofs.Common.{ap}
use Rattle.std.specs.FinSet.{contains-from_list_nat}
use Rattle.hurd_creds.specs.Access.{holds_uid}
use Rattle.hurd_creds.proofs.ids.Ids.holds_uid.Goals as goal

pub returns : goal.returns
returns c =
    let members = contains-from_list_nat c.self.inside.uids.items c.args.uid in
    let held = ap (λ ids. holds_uid ids c.args.uid) c.self.view_is in
    cc (c.contains.ensures.value, members, held)
