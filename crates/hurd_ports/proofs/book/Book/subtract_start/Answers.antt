use Rattle.std.proofs.Common.{arith}
use Rattle.hurd_ports.specs.Counts.{Besides}
use Rattle.hurd_ports.proofs.CountLaws.{one_itself}
use Rattle.hurd_ports.proofs.book.Book.subtract_start.Goals as goal

pub subtract-requires : goal.subtract-requires
subtract-requires c =
    let name = c.in-Some.start.node in
    let counted = rw c.in-Some.is at (c.requires Besides name) in
    let one = one_itself name in
    omega arith
