use Rattle.std.proofs.Common.{◌∙◌, ap, sym}
use Rattle.hurd_machine.proofs.Common.{IdSets, contains-from_list_nat, holds_uid}
use Rattle.hurd_sight.proofs.reach.Reach.holds_uid.Goals as goal

pub returns : goal.returns
returns c =
    c.has.ensures
    ∙ (sym (contains-from_list_nat c.self.inside.uids.keys c.args.uid)
    ∙ ap (λ (ids : IdSets). holds_uid ids c.args.uid) c.self.view_is)
