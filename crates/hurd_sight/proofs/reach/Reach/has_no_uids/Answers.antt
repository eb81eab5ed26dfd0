use Rattle.std.proofs.Common.{◌∙◌, ap}
use Rattle.hurd_creds.specs.Access.{IdSets, has_no_uids}
use Rattle.hurd_creds.proofs.IdLaws.{no_ids}
use Rattle.hurd_sight.proofs.ReachLaws.{is_none}
use Rattle.hurd_sight.proofs.reach.Reach.has_no_uids.Goals as goal

pub returns : goal.returns
returns c = is_none c.is_empty.result _ c.is_empty.ensures ∙ (no_ids c.self.inside.uids.keys ∙ ap (λ (ids : IdSets). has_no_uids ids) c.self.view_is)
