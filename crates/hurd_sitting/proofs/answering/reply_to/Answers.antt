use Rattle.std.proofs.Common.{◌∙◌, sym}
use Rattle.hurd_machine.specs.Calls.{reply_by}
use Rattle.hurd_world.specs.Held.{world_of}
use Rattle.hurd_calls.proofs.CallingLaws.{made_or_same, right}
use Rattle.hurd_sitting.proofs.answering.reply_to.Goals as goal

pub returns-clause-reply : goal.returns-clause-reply
returns-clause-reply g c =
    (right g.S.Server.meaning c.args.listed c.args.server c.requires c.with_server.result c.with_server.ensures.is _ c.call-reply.result _ c.call-reply.ensures.answer (sym c.lacks_memory.ensures ∙ c.if-lacks_memory.false)).0

pub returns-clause-world : goal.returns-clause-world
returns-clause-world g c =
    (right g.S.Server.meaning c.args.listed c.args.server c.requires c.with_server.result c.with_server.ensures.is _ c.call-reply.result _ c.call-reply.ensures.answer (sym c.lacks_memory.ensures ∙ c.if-lacks_memory.false)).1

pub returns-then-lacks_memory-clause-err : goal.returns-then-lacks_memory-clause-err
returns-then-lacks_memory-clause-err g c =
    made_or_same g.S.Server.meaning c.args.listed c.args.server c.requires c.with_server.result c.with_server.ensures.is (world_of g.S.Server.meaning c.args.world.now) (reply_by g.S.Server.meaning c.call-reply.result)
    (world_of g.S.Server.meaning c.call-reply.new.self) c.call-reply.ensures.answer
