use Rattle.std.proofs.Common.{◌≡◌, IfOk, Option, subst}
use Rattle.hurd_words.specs.declared.answers.Answer.{Answer}
use Rattle.hurd_witnesses.proofs.AnswerLaws.{begun_answers, unbegun_answers}
use Rattle.hurd_witnesses.proofs.answers.answer.Goals as goal

pub returns-in-Ok : goal.returns-in-Ok
returns-in-Ok g c =
    subst (λ (o : Option Answer). IfOk c.last_part.result (λ told. told ≡ o))
    (begun_answers g.T.Telling.sort c.args.text.now (g.T.Telling.way c.deref_mut.result.now) (rw (← c.deref_mut.ensures.value) at c.in-Ok.ensures.ok)) c.last_part.ensures

pub returns-in-Err : goal.returns-in-Err
returns-in-Err g c = unbegun_answers g.T.Telling.sort c.args.text.now c.in-Err.fault c.in-Err.ensures.err _ c.nothing_told.ensures
