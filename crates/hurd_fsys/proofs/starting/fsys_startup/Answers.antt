-- What it is to start, what is asked of that, and what the core does.
use Rattle.std.proofs.Common.{inl}
use Rattle.hurd_machine.specs.World.{words_at}
use Rattle.hurd_core.specs.Core.{world_of, without_box}
use Rattle.hurd_core.specs.PortNode.{header_with}
use Rattle.hurd_fsys.specs.Starting.{Startup}
use Rattle.hurd_fsys.proofs.StartupLaws.{starts_lacks, starts_none, starts_refused, starts_seated}
use Rattle.hurd_fsys.proofs.starting.fsys_startup.Goals as goal

pub returns-in_default-clause-tried : goal.returns-in_default-clause-tried
returns-in_default-clause-tried g c =
    let w = world_of g.S.Server.meaning c.args.core.now in
    inl (starts_none w c.args.task.0 (g.S.Server.meaning c.args.server) c.in_default.ensures)

pub returns-in-Err-clause-tried : goal.returns-in-Err-clause-tried
returns-in-Err-clause-tried g c =
    let w = world_of g.S.Server.meaning c.args.core.now in
    starts_lacks w c.args.task.0 c.in-Some.start.now c.in-Some.ensures (g.S.Server.meaning c.args.server) c.in-Err.errno c.if-is_no_memory.ensures c.in-Err.ensures

pub returns-in-Err-2-clause-tried : goal.returns-in-Err-2-clause-tried
returns-in-Err-2-clause-tried g c =
    let w = world_of g.S.Server.meaning c.args.core.now in
    starts_refused w c.args.task.0 c.in-Some.start.now c.in-Some.ensures (g.S.Server.meaning c.args.server) c.in-Err.errno _ _ c.if-is_no_memory.ensures c.in-Err.ensures c.unpend.ensures

pub returns-clause-tried : goal.returns-clause-tried
returns-clause-tried g c =
    let w = world_of g.S.Server.meaning c.args.core.now in
    let s = c.in-Some.start.now in
    let m = g.S.Server.meaning c.args.server in
    let a : Startup = record { header = header_with (words_at w s.node) c.in-Ok.found.0; targets = c.in-Ok.found.1.items; task = c.in-Ok.ensures.0 } in
    starts_seated w c.args.task.0 s c.in-Some.ensures m a c.in-Ok.ensures.1
    (without_box c.seat.result) _ (tt {0}) (rw (c.root_mode.ensures, c.root.ensures) at c.seat.ensures.does)
