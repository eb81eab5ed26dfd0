use Rattle.std.proofs.Common.{◌∙◌, refl, sym}
use Rattle.hurd_machine.specs.Calls.{call_by}
use Rattle.hurd_laws.proofs.Served.{called_lacks}
use Rattle.hurd_machine.specs.declared.call.Reply.TheVariants.{Back}
use Rattle.hurd_world.specs.Held.{world_of}
use Rattle.hurd_client.specs.Programs.{set_of}
use Rattle.hurd_shell.proofs.ReplyLaws.{called_does, refused_does, other_does}
use Rattle.hurd_shell.proofs.calls.offered.Goals as goal

pub returns-in-Done-clause-ok : goal.returns-in-Done-clause-ok
returns-in-Done-clause-ok g c = called_does set_of c.in-Done.ensures.answer c.in-Done.ensures.noted refl refl

pub returns-in-Refused-clause-ok : goal.returns-in-Refused-clause-ok
returns-in-Refused-clause-ok g c = refused_does g.S.Server.meaning c.args.call c.requires.brings c.in-Refused.ensures.answer c.in-Refused.ensures.noted

pub returns-then-is_no_memory-clause-err : goal.returns-then-is_no_memory-clause-err
returns-then-is_no_memory-clause-err g c =
    let f = g.S.Server.meaning in
    let w = world_of f c.args.world.now in
    let x = world_of f c.call.new.self in
    let lacks = sym c.is_no_memory.ensures ∙ c.if-is_no_memory.true in
    (c.in-Back.ensures.back, (called_lacks w x c.args.task.0 (call_by f c.args.call) (Back c.in-Back.errno (f c.in-Back.server)) c.in-Back.ensures.answer lacks).same)

pub returns-in-Back-clause-ok : goal.returns-in-Back-clause-ok
returns-in-Back-clause-ok g c = called_does set_of c.in-Back.ensures.answer c.in-Back.ensures.noted (sym c.is_no_memory.ensures ∙ c.if-is_no_memory.false) refl

pub returns : goal.returns
returns g c = record { ok = other_does g.S.Server.meaning _ c.call.result c.in-Found.is c.call.ensures.answer c.call.ensures.noted; err = tt }
