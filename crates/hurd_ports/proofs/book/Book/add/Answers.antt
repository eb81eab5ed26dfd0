use Rattle.std.proofs.Common.{arith}
use Rattle.hurd_ports.specs.Counts.{Besides, Opens, Servers, Uses}
use Rattle.hurd_ports.proofs.book.Book.add.Goals as goal

pub add-requires-clause-room : goal.add-requires-clause-room
add-requires-clause-room c = let room = c.requires.room Opens in omega arith

pub add-requires-clause-fits : goal.add-requires-clause-fits
add-requires-clause-fits c = let fits = c.requires.fits Opens c.in-Io.right.open_name in omega arith

pub add-requires-in-Io-clause-room : goal.add-requires-in-Io-clause-room
add-requires-in-Io-clause-room c = let room = c.requires.room Uses in omega arith

pub add-requires-in-Io-clause-fits : goal.add-requires-in-Io-clause-fits
add-requires-in-Io-clause-fits c = let fits = c.requires.fits Uses c.in-Io.right.node in omega arith

pub add_ways-requires-clause-room : goal.add_ways-requires-clause-room
add_ways-requires-clause-room c = let room = c.requires.room Besides in omega (arith, c.as_slice.ensures.limit)

pub add_ways-requires-clause-fits : goal.add_ways-requires-clause-fits
add_ways-requires-clause-fits c n =
    let fits = c.requires.fits Besides n in
    omega arith

pub add-requires-in-Control-clause-room : goal.add-requires-in-Control-clause-room
add-requires-in-Control-clause-room c = let room = c.requires.room Servers in omega arith

pub add-requires-in-Control-clause-fits : goal.add-requires-in-Control-clause-fits
add-requires-in-Control-clause-fits c = let fits = c.requires.fits Servers c.in-Control.server in omega arith

pub add-requires-in-Start-clause-room : goal.add-requires-in-Start-clause-room
add-requires-in-Start-clause-room c = let room = c.requires.room Besides in omega arith

pub add-requires-in-Start-clause-fits : goal.add-requires-in-Start-clause-fits
add-requires-in-Start-clause-fits c = let fits = c.requires.fits Besides c.in-Start.node in omega arith
