use Rattle.std.proofs.Common.{slice_index_or, arith}
use Rattle.hurd_creds.specs.Names.{same_name}
use Rattle.hurd_ports.specs.declared.parents.Parent.{Parent}
use Rattle.hurd_ports.proofs.CountLaws.{one_at_most, ways_end, ways_most, ways_next}
use Rattle.hurd_ports.proofs.book.add_ways.Goals as goal

-- where a way was indexed out of its bounds
abbrev none : Parent
none = record { at = record { task = record { 0 = 0 }; count = 0 }; parent = record { task = record { 0 = 0 }; count = 0 } }

pub add-requires-clause-room : goal.add-requires-clause-room
add-requires-clause-room c = omega (arith, c.loop-way.invariant.room, c.loop-way-test.true)

pub add-requires-clause-fits : goal.add-requires-clause-fits
add-requires-clause-fits c =
    let ws = c.args.ways.now in
    let way = slice_index_or ws c.loop-way.way-index none in
    let so_far = c.loop-way.invariant.more way.at in
    let most = ways_most (same_name way.at) ws in
    let before = c.requires.fits way.at in
    omega (arith, c.requires.short)

pub add-requires-in-loop-way-clause-room : goal.add-requires-in-loop-way-clause-room
add-requires-in-loop-way-clause-room c = omega (arith, c.loop-way.invariant.room, c.loop-way-test.true, c.add.ensures.room)

pub add-requires-in-loop-way-clause-fits : goal.add-requires-in-loop-way-clause-fits
add-requires-in-loop-way-clause-fits c =
    let ws = c.args.ways.now in
    let way = slice_index_or ws c.loop-way.way-index none in
    let so_far = c.loop-way.invariant.more way.parent in
    let most = ways_most (same_name way.parent) ws in
    let before = c.requires.fits way.parent in
    let first = c.add.ensures.more way.parent in
    let one = one_at_most (same_name way.parent way.at) in
    omega (arith, c.requires.short)

pub loop-way-preserved : goal.loop-way-preserved
loop-way-preserved c = record {
  more = λ n.
      let next = ways_next (same_name n) c.args.ways.now c.loop-way.way-index none c.loop-way-test.true in
      let so_far = c.loop-way.invariant.more n in
      let first = c.add.ensures.more n in
      let second = c.add-in-loop-way.ensures.more n in
      omega arith;
  room = omega (arith, c.loop-way.invariant.room, c.add.ensures.room, c.add-in-loop-way.ensures.room);
}

pub returns : goal.returns
returns c n =
    let so_far = c.loop-way.invariant.more n in
    let end = ways_end (same_name n) c.args.ways.now c.loop-way.way-index c.loop-way-test.false in
    omega arith
