-- What the server takes, and the cursor past it.
use Rattle.std.proofs.Common.{sym, w64}
use Rattle.std.proofs.lemmas.Int.{to_z-of_z}
use Rattle.std.proofs.lemmas.Result.{err_from_is_err_and}
use Rattle.hurd_machine.specs.declared.call.Reply.TheVariants.{Count}
use Rattle.hurd_nodes.specs.Needs.{FreeWrite}
use Rattle.hurd_core.specs.Core.{world_of}
use Rattle.hurd_io.specs.Io.{write_asks, writes}
use Rattle.hurd_io.proofs.RowLaws.{io-short-free}
use Rattle.hurd_io.proofs.io.io_write.Goals as goal

pub returns-in_err-count-clause-free : goal.returns-in_err-count-clause-free
returns-in_err-count-clause-free g c free =
    let w = world_of g.S.Server.meaning c.args.core.now in
    let asked = rw (to_z-of_z w64 c.args.offset c.ranges.offset) at c.in_ok-to.ensures in
    let owed = c.in_err-count.ensures in
    let p = err_from_is_err_and c.from_residual-in_err-count.result c.from_residual-in_err-count.ensures.1 in
    rw (p.1, p.2)
    (io-short-free w (write_asks w c.args.task.0 c.args.port c.args.offset) (writes c.args.bytes.now w) (λ n. Count n) (λ n. n) c.in_ok-to.to (sym asked)
    (λ a. FreeWrite a.at c.args.bytes.now) _ _ owed.does owed.free free)
