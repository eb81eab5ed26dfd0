use Rattle.std.proofs.Common.{refl}
use Rattle.hurd_shell.proofs.AnswerLaws.{brought, offer_back, offer_begun, offer_brings}
use Rattle.hurd_shell.proofs.SoundLaws.{does_sound}
use Rattle.hurd_shell.proofs.answers.bring.Goals as goal

pub returns-in-Ok : goal.returns-in-Ok
returns-in-Ok g c =
    let made = rw (c.offer-call.ensures, c.as_stage.ensures) at c.in-Ok.ensures.ok in
    record {
      ok = (refl, rw (c.read_at-answer.ensures, c.as_stage-in-Ok.ensures) (brought g.S.Server.meaning c.args.waiting.stage c.args.waiting.words c.args.server c.in-Ok.answer made));
      err = tt;
      sound = does_sound c.in-Ok.answer c.in-Ok.ensures.ok;
    }

pub returns-in-Err : goal.returns-in-Err
returns-in-Err g c =
    let back = rw (c.offer-call.ensures, c.as_stage.ensures) at c.in-Err.ensures.err.0 in
    record {
      ok = tt;
      err = offer_back c.args.waiting.stage c.args.waiting.words _ _ back;
      sound = rw c.in-Err.ensures.err.1 (λ sound. sound);
    }

pub offered-requires : goal.offered-requires
offered-requires g c = rw (c.offer-call.ensures, c.as_stage.ensures) (record {
  begun = offer_begun g.S.Server.meaning c.args.waiting.stage c.args.waiting.words c.args.server c.requires;
  brings = offer_brings c.args.waiting.stage c.args.waiting.words c.args.server;
})
