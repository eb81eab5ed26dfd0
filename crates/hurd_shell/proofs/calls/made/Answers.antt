use Rattle.std.proofs.Common.{◌∙◌, sym, subst}
use Rattle.hurd_machine.specs.Calls.{Reply, call_by, reply_by}
use Rattle.hurd_laws.specs.Called.{Lacks}
use Rattle.hurd_laws.proofs.Served.{called_lacks, called_step}
use Rattle.hurd_world.specs.Held.{world_of}
use Rattle.hurd_shell.proofs.ReplyLaws.{lacks_by}
use Rattle.hurd_shell.proofs.calls.made.Goals as goal

pub returns-then-lacks_memory-clause-err : goal.returns-then-lacks_memory-clause-err
returns-then-lacks_memory-clause-err g c =
    let f = g.S.Server.meaning in
    let w = world_of f c.args.world.now in
    let x = world_of f c.call-reply.new.self in
    let lacks = lacks_by f c.call-reply.result ∙ sym c.lacks_memory.ensures ∙ c.if-lacks_memory.true in
    let l = called_lacks w x c.args.task.0 (call_by f c.args.call) (reply_by f c.call-reply.result) c.call-reply.ensures.answer lacks in
    subst (λ (r : Reply). Lacks w c.args.task.0 (call_by f c.args.call) r x) l.told l

pub returns-clause-ok : goal.returns-clause-ok
returns-clause-ok g c =
    let f = g.S.Server.meaning in
    let w = world_of f c.args.world.now in
    let x = world_of f c.call-reply.new.self in
    let found = lacks_by f c.call-reply.result ∙ sym c.lacks_memory.ensures ∙ c.if-lacks_memory.false in
    record { step = called_step w x c.args.task.0 (call_by f c.args.call) (reply_by f c.call-reply.result) c.call-reply.ensures.answer found; stays = c.call-reply.ensures.noted }
