use Rattle.std.proofs.Common.{◌∙◌, sym}
use Rattle.std.proofs.lemmas.Result.{IfOk-weaker}
use Rattle.hurd_calls.proofs.CallingLaws.{world_right}
use Rattle.hurd_vectors.proofs.CallLaws.{vector_right}
use Rattle.hurd_vectors.proofs.calling.vector.Goals as goal

pub returns-clause-vector : goal.returns-clause-vector
returns-clause-vector g c =
    IfOk-weaker c.vector_of.result _ _
    (λ vector is. vector_right g.S.Server.meaning c.args.listed c.args.server c.requires c.with_server.result c.with_server.ensures.is _ c.call-reply.result _ c.call-reply.ensures.answer (sym c.lacks_memory.ensures ∙ c.if-lacks_memory.false)
    c.as_slice.result.now _ c.as_slice.ensures is)
    c.vector_of.ensures

pub returns-clause-world : goal.returns-clause-world
returns-clause-world g c =
    IfOk-weaker c.vector_of.result _ _
    (λ vector is. world_right g.S.Server.meaning c.args.listed c.args.server c.requires c.with_server.result c.with_server.ensures.is _ c.call-reply.result _ c.call-reply.ensures.answer (sym c.lacks_memory.ensures ∙ c.if-lacks_memory.false))
    c.vector_of.ensures
