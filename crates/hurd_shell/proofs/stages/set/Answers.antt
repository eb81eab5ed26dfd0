use Rattle.std.proofs.Common.{sym, ◌∙◌}
use Rattle.hurd_shell.proofs.StageLaws.{asks_server, no_words, not_active}
use Rattle.hurd_shell.proofs.stages.set.Goals as goal
use Rattle.hurd_shell.proofs.stages.set.Goals.{else-active-via-then-active+else-has_any, else-active-via-else-active}

pub returns-in_ok-at : goal.returns-in_ok-at
returns-in_ok-at g c = rw c.in_ok-at.ensures (asks_server _ _ _ _ _ _ c.if-active.true (sym c.has_any.ensures ∙ c.if-has_any.true))

pub returns-else-active : goal.returns-else-active
returns-else-active g c = elim c.else-active.branch [
  | else-active-via-then-active+else-has_any w ↦ no_words _ _ _ _ (sym w.has_any.ensures ∙ w.if-has_any.false) c.set_and_close.ensures
  | else-active-via-else-active w ↦ not_active _ _ _ _ w.if-active.false c.set_and_close.ensures
]
