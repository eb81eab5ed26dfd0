use Rattle.std.proofs.Common.{◌∙◌, sym}
use Rattle.hurd_lists.proofs.ReplyLemmas.{flag_absent, flag_pushed}
use Rattle.hurd_lists.proofs.replies.push_flag.Goals as goal

pub returns-then-not-asks : goal.returns-then-not-asks
returns-then-not-asks c = λ rows. flag_absent _ _ _ _ c.args.name.now rows (sym c.asks.ensures ∙ c.if-not-asks.true)

pub returns : goal.returns
returns c = λ rows. flag_pushed _ _ _ _ _ _ rows (sym c.asks.ensures ∙ c.if-not-asks.false) c.in_ok-push_name.ensures
