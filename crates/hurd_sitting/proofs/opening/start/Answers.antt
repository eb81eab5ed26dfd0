use Rattle.std.proofs.Common.{◌∙◌, sym}
use Rattle.hurd_kinds.specs.Boxes.{box_meaning}
use Rattle.hurd_lists.specs.Lists.{listed_by}
use Rattle.hurd_machine.specs.Calls.{reply_by}
use Rattle.hurd_trans_iface.specs.Meaning.{begin}
use Rattle.hurd_sitting.proofs.OpenLaws.{starts_with, starts_without}
use Rattle.hurd_sitting.proofs.opening.start.Goals as goal

pub returns-then-begun-clause-ok : goal.returns-then-begun-clause-ok
returns-then-begun-clause-ok c =
    starts_with (listed_by box_meaning c.in_ok-call.call) (reply_by box_meaning c.in_ok-reply.reply) (begin c.args.words) _ (sym c.if-begun.true ∙ c.in_ok-begun.ensures) c.in_ok-call.ensures c.in_ok-reply.ensures.ok
    c.started_of.ensures

pub returns-else-begun-clause-ok : goal.returns-else-begun-clause-ok
returns-else-begun-clause-ok c =
    starts_without (listed_by box_meaning c.in_ok-call.call) (reply_by box_meaning c.in_ok-reply.reply) (begin c.args.words) (sym c.if-begun.false ∙ c.in_ok-begun.ensures) c.in_ok-call.ensures c.in_ok-reply.ensures.ok
