use Rattle.std.proofs.Common.{◌∙◌, refl, sym}
use Rattle.std.proofs.lemmas.Result.{err_from_is_err_and}
use Rattle.hurd_machine.specs.Calls.{reply_by}
use Rattle.hurd_world.specs.Held.{world_of}
use Rattle.hurd_calls.proofs.CallingLaws.{made_or_same, answer_right, world_right}
use Rattle.hurd_calls.proofs.calling.answer.Goals as goal

pub returns-clause-answer : goal.returns-clause-answer
returns-clause-answer g c =
    answer_right g.S.Server.meaning c.args.listed c.args.server c.requires c.with_server.result c.with_server.ensures.is _ c.call-reply.result _ c.call-reply.ensures.answer (sym c.lacks_memory.ensures ∙ c.if-lacks_memory.false)
    _ _ refl c.in_ok-answered.ensures

pub returns-clause-world : goal.returns-clause-world
returns-clause-world g c =
    world_right g.S.Server.meaning c.args.listed c.args.server c.requires c.with_server.result c.with_server.ensures.is _ c.call-reply.result _ c.call-reply.ensures.answer (sym c.lacks_memory.ensures ∙ c.if-lacks_memory.false)

pub returns-then-lacks_memory-clause-err : goal.returns-then-lacks_memory-clause-err
returns-then-lacks_memory-clause-err g c =
    made_or_same g.S.Server.meaning c.args.listed c.args.server c.requires c.with_server.result c.with_server.ensures.is (world_of g.S.Server.meaning c.args.world.now) (reply_by g.S.Server.meaning c.call-reply.result)
    (world_of g.S.Server.meaning c.call-reply.new.self) c.call-reply.ensures.answer

pub returns-in_err-answered-clause-err : goal.returns-in_err-answered-clause-err
returns-in_err-answered-clause-err g c =
    let p = err_from_is_err_and c.from_residual.result c.from_residual.ensures.1 in
    rw p.1 (made_or_same g.S.Server.meaning c.args.listed c.args.server c.requires c.with_server.result c.with_server.ensures.is (world_of g.S.Server.meaning c.args.world.now) (reply_by g.S.Server.meaning c.call-reply.result)
    (world_of g.S.Server.meaning c.call-reply.new.self) c.call-reply.ensures.answer)
