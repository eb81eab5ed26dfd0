use Rattle.std.proofs.Common.{◌∙◌, sym}
use Rattle.hurd_sight.proofs.ReachLaws.{one_test, serves_is, serves_one}
use Rattle.hurd_sight.proofs.reach.Reach.could_serve.Goals as goal

pub returns-else-holds_uid : goal.returns-else-holds_uid
returns-else-holds_uid c =
    let means =
    serves_one c.args.self.now c.args.ids.now c.uids.result.now c.holds_any.result c.uids.ensures (sym c.holds_uid.ensures ∙ c.if-holds_uid.false) c.holds_any.ensures in
    record { test = one_test _ _ means (serves_is c.args.self.now c.args.ids.now); means = means }
