use Rattle.std.proofs.Common.{◌≡◌, ◌-◌, ◌∙◌, arith, length, sym, take}
use Rattle.std.proofs.lemmas.Grind.{common_steps}
use Rattle.std.proofs.lemmas.Result.{IfOk-weaker}
use Rattle.hurd_machine.specs.Calls.{reply_by}
use Rattle.hurd_client.proofs.OpeningLaws.{after_deallocate, after_lookup, after_reauthenticate}
use Rattle.hurd_client.proofs.opening.Opening.replied.Goals as goal

pub returns-in-Ok-clause-turn : goal.returns-in-Ok-clause-turn
returns-in-Ok-clause-turn g c =
    let after = rw (sym c.looked_of.ensures ∙ c.in-Ok.is) at (after_lookup c.args.self.way c.args.self.step (reply_by g.S.Server.meaning c.args.reply) c.in-LooksUp.target c.in-LooksUp.is) in
    IfOk-weaker c.looked.result _ _ (λ turn is. is ∙ sym after) c.looked.ensures.turn

pub returns-in-Err-clause-turn : goal.returns-in-Err-clause-turn
returns-in-Err-clause-turn g c =
    let after = rw (sym c.looked_of.ensures ∙ c.in-Err.is) at (after_lookup c.args.self.way c.args.self.step (reply_by g.S.Server.meaning c.args.reply) c.in-LooksUp.target c.in-LooksUp.is) in
    rw c.onward.ensures (sym after)

pub returns-in-Reauthenticates-clause-turn : goal.returns-in-Reauthenticates-clause-turn
returns-in-Reauthenticates-clause-turn g c =
    let after = rw (sym c.port_of.ensures) at (after_reauthenticate c.args.self.way c.args.self.step (reply_by g.S.Server.meaning c.args.reply) c.in-Reauthenticates.target c.in-Reauthenticates.is) in
    IfOk-weaker c.reauthenticated.result _ _ (λ turn is. is ∙ sym after) c.reauthenticated.ensures.turn

pub returns-in-Ends-clause-turn : goal.returns-in-Ends-clause-turn
returns-in-Ends-clause-turn g c =
    let left : c.pop.new.self.items ≡ take (length c.args.self.way.held.items - 1) c.args.self.way.held.items = grind (arith, common_steps) in
    rw c.onward-in-Ends.ensures (after_deallocate c.args.self.way c.args.self.step (reply_by g.S.Server.meaning c.args.reply) c.in-Ends.end _ c.in-Ends.is left)
