use Rattle.std.proofs.Common.{ap}
use Rattle.std.specs.FinSet.{contains-from_list_nat}
use Rattle.hurd_creds.specs.Access.{holds_gid}
use Rattle.hurd_creds.proofs.ids.Ids.holds_gid.Goals as goal

pub returns : goal.returns
returns c =
    let members = contains-from_list_nat c.self.inside.gids.items c.args.gid in
    let held = ap (λ ids. holds_gid ids c.args.gid) c.self.view_is in
    cc (c.contains.ensures.value, members, held)
