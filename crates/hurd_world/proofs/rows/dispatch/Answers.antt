use Rattle.std.proofs.Common.{refl}
use Rattle.hurd_machine.specs.World.{World}
use Rattle.hurd_core.specs.Core.{world_of}
use Rattle.hurd_world.proofs.RowLaws.{begun_box, set_row, start_row}
use Rattle.hurd_world.proofs.rows.dispatch.Goals as goal

pub returns-in-FileSetTranslator : goal.returns-in-FileSetTranslator
returns-in-FileSetTranslator g c =
    let f = g.S.Server.meaning in
    let w : World = world_of g.S.Server.meaning c.args.core.now in
    let x : World = world_of g.S.Server.meaning c.file_set_translator.new.core in
    let set = c.file_set_translator.ensures in
    set_row f w w c.args.task.0 c.args.call c.set.result x refl c.in-FileSetTranslator.port c.in-FileSetTranslator.setting c.in-FileSetTranslator.words c.in-FileSetTranslator.server _ _ x
    c.in-FileSetTranslator.is refl refl c.set.ensures set.planned set.free set.back

pub returns-in-FsysStartup : goal.returns-in-FsysStartup
returns-in-FsysStartup g c =
    let f = g.S.Server.meaning in
    let w : World = world_of g.S.Server.meaning c.args.core.now in
    let x : World = world_of g.S.Server.meaning c.fsys_startup.new.core in
    start_row f w w c.args.task.0 c.args.call c.started.result x refl c.in-FsysStartup.server c.fsys_startup.result _ x
    c.in-FsysStartup.is refl refl c.started.ensures c.fsys_startup.ensures.tried c.fsys_startup.ensures.back

pub file_set_translator-requires : goal.file_set_translator-requires
file_set_translator-requires g c = begun_box g.S.Server.meaning c.in-FileSetTranslator.server (rw c.in-FileSetTranslator.is at c.requires)

pub fsys_startup-requires : goal.fsys_startup-requires
fsys_startup-requires g c = rw c.in-FsysStartup.is at c.requires
