use Rattle.std.proofs.Common.{arith}
use Rattle.hurd_ports.specs.Counts.{Besides, Opens, Servers, Uses}
use Rattle.hurd_ports.proofs.CountLaws.{one_itself}
use Rattle.hurd_ports.proofs.book.Book.subtract.Goals as goal

pub subtract-requires : goal.subtract-requires
subtract-requires c =
    let name = c.in-Io.right.node in
    let counted = rw c.in-Io.is at (c.requires Uses name) in
    let one = one_itself name in
    omega arith

pub subtract-requires-in-Io : goal.subtract-requires-in-Io
subtract-requires-in-Io c =
    let name = c.in-Io.right.open_name in
    let counted = rw c.in-Io.is at (c.requires Opens name) in
    let one = one_itself name in
    omega arith

pub subtract_ways-requires : goal.subtract_ways-requires
subtract_ways-requires c n =
    let counted = rw c.in-Io.is at (c.requires Besides n) in
    rw c.as_slice.ensures.is (omega arith)

pub subtract-requires-in-Control : goal.subtract-requires-in-Control
subtract-requires-in-Control c =
    let name = c.in-Control.server in
    let counted = rw c.in-Control.is at (c.requires Servers name) in
    let one = one_itself name in
    omega arith

pub subtract-requires-in-Start : goal.subtract-requires-in-Start
subtract-requires-in-Start c =
    let name = c.in-Start.node in
    let counted = rw c.in-Start.is at (c.requires Besides name) in
    let one = one_itself name in
    omega arith
