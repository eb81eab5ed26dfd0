-- What is asked, what is stored, and what the core does.
use Rattle.std.specs.Prelude.{Err, Ok}
use Rattle.hurd_core.specs.Core.{world_of}
use Rattle.hurd_core.specs.PortNode.{named_of}
use Rattle.hurd_fsys.proofs.SeatingLaws.{may_store, set_aimless, set_emptied, set_seated}
use Rattle.hurd_fsys.proofs.setting.file_set_translator.Goals as goal

pub store-requires : goal.store-requires
store-requires g c =
    let w = world_of g.S.Server.meaning c.args.core.now in
    may_store g.S.Server.meaning w c.args.task.0 c.args.port c.args.setting c.args.words c.args.server _ c.is_brought.ensures (named_of c.in-Ok.named) c.in-Ok.ensures c.if-sets_nothing.ensures _
    c.in-Ok-old_server.ensures

pub seat_with-requires-clause-may : goal.seat_with-requires-clause-may
seat_with-requires-clause-may g c =
    let w = world_of g.S.Server.meaning c.args.core.now in
    may_store g.S.Server.meaning w c.args.task.0 c.args.port c.args.setting c.args.words c.args.server _ c.is_brought.ensures (named_of c.in-Ok.named) c.in-Ok.ensures c.if-sets_nothing.ensures _
    c.in-Ok-old_server.ensures

pub returns-in-None-clause-planned : goal.returns-in-None-clause-planned
returns-in-None-clause-planned g c =
    let w = world_of g.S.Server.meaning c.args.core.now in
    set_emptied g.S.Server.meaning w c.args.task.0 c.args.port c.args.setting c.args.words c.args.server _ c.is_brought.ensures (named_of c.in-Ok.named) c.in-Ok.ensures c.if-sets_nothing.ensures _
    c.in-Ok-old_server.ensures (tt {0}) (world_of g.S.Server.meaning c.store.new.core) _ c.in-None.is c.store.ensures c.empty_seat.ensures

pub returns-in-None-clause-free : goal.returns-in-None-clause-free
returns-in-None-clause-free g c none = returns-in-None-clause-planned g c

pub returns-in-Err-aims-clause-planned : goal.returns-in-Err-aims-clause-planned
returns-in-Err-aims-clause-planned g c =
    let w = world_of g.S.Server.meaning c.args.core.now in
    set_aimless g.S.Server.meaning w c.args.task.0 c.args.port c.args.setting c.args.words c.args.server _ c.is_brought.ensures (named_of c.in-Ok.named) c.in-Ok.ensures c.if-sets_nothing.ensures _
    c.in-Ok-old_server.ensures c.in-Some.server c.in-Some.is c.in-Err-aims.errno c.in-Err-aims.ensures

pub returns-in-Ok-seat_with-clause-planned : goal.returns-in-Ok-seat_with-clause-planned
returns-in-Ok-seat_with-clause-planned g c =
    let w = world_of g.S.Server.meaning c.args.core.now in
    set_seated g.S.Server.meaning w c.args.task.0 c.args.port c.args.setting c.args.words c.args.server _ c.is_brought.ensures (named_of c.in-Ok.named) c.in-Ok.ensures c.if-sets_nothing.ensures _
    c.in-Ok-old_server.ensures
    c.in-Some.server c.in-Some.is c.in-Ok-aims.targets.items c.in-Ok-aims.ensures (Ok c.in-Ok-seat_with.field-0) _ (rw (c.leaver.ensures, c.root_mode.ensures, c.root.ensures) at c.in-Ok-seat_with.ensures.does)

pub returns-in-Err-seat_with-clause-planned : goal.returns-in-Err-seat_with-clause-planned
returns-in-Err-seat_with-clause-planned g c =
    let w = world_of g.S.Server.meaning c.args.core.now in
    set_seated g.S.Server.meaning w c.args.task.0 c.args.port c.args.setting c.args.words c.args.server _ c.is_brought.ensures (named_of c.in-Ok.named) c.in-Ok.ensures c.if-sets_nothing.ensures _
    c.in-Ok-old_server.ensures c.in-Some.server c.in-Some.is c.in-Ok-aims.targets.items c.in-Ok-aims.ensures (Err c.in-Err-seat_with.errno) _ c.in-Err-seat_with.ensures.does
