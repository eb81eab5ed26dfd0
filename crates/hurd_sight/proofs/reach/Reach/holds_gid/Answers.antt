use Rattle.std.proofs.Common.{◌∙◌, ap, sym}
use Rattle.hurd_machine.proofs.Common.{IdSets, contains-from_list_nat, holds_gid}
use Rattle.hurd_sight.proofs.reach.Reach.holds_gid.Goals as goal

pub returns : goal.returns
returns c =
    c.has.ensures
    ∙ (sym (contains-from_list_nat c.self.inside.gids.keys c.args.gid)
    ∙ ap (λ (ids : IdSets). holds_gid ids c.args.gid) c.self.view_is)
