use Rattle.std.proofs.Common.{ap, refl}
use Rattle.hurd_machine.specs.declared.call.Call.TheVariants.{Plain}
use Rattle.hurd_machine.specs.World.{World}
use Rattle.hurd_core.specs.Core.{world_of}
use Rattle.hurd_world.proofs.RowLaws.{lookup_row}
use Rattle.hurd_world.proofs.lent.lent.Goals as goal

pub returns-in-DirLookup : goal.returns-in-DirLookup
returns-in-DirLookup g c =
    let f = g.S.Server.meaning in
    let w : World = world_of g.S.Server.meaning c.args.core.now in
    let x : World = world_of g.S.Server.meaning c.dir_lookup.new.core in
    let of = c.in-DirLookup in
    lookup_row f w w c.args.task.0 (Plain c.args.call.now) c.found.result x refl of.dir of.path of.flags of.mode c.dir_lookup.result _ x
    (ap Plain of.is) refl refl c.found.ensures (rw c.as_slice.ensures at c.dir_lookup.ensures)
