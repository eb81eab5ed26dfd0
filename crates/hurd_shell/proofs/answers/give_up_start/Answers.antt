use Rattle.std.proofs.lemmas.Result.{IfOk-weaker}
use Rattle.hurd_shell.proofs.AnswerLaws.{refused, without_start}
use Rattle.hurd_shell.proofs.answers.give_up_start.Goals as goal

pub returns-in-Sets : goal.returns-in-Sets
returns-in-Sets g c = rw c.in-Sets.is (λ words. refused _ _ _)

pub returns-in-Opens : goal.returns-in-Opens
returns-in-Opens g c = IfOk-weaker c.start_failed.result _ _ (λ u d words. without_start c.args.stage.now words c.in-Opens.is u d) c.start_failed.ensures
