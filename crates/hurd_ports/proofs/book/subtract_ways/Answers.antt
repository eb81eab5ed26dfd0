use Rattle.std.proofs.Common.{slice_index_or, arith}
use Rattle.hurd_creds.specs.Names.{same_name}
use Rattle.hurd_ports.specs.declared.parents.Parent.{Parent}
use Rattle.hurd_ports.proofs.CountLaws.{one_itself, ways_end, ways_next}
use Rattle.hurd_ports.proofs.book.subtract_ways.Goals as goal

-- where a way was indexed out of its bounds
abbrev none : Parent
none = record { at = record { task = record { 0 = 0 }; count = 0 }; parent = record { task = record { 0 = 0 }; count = 0 } }

pub subtract-requires : goal.subtract-requires
subtract-requires c =
    let ws = c.args.ways.now in
    let i = c.loop-way.way-index in
    let way = slice_index_or ws i none in
    let next = ways_next (same_name way.at) ws i none c.loop-way-test.true in
    let left = c.loop-way.invariant.less way.at in
    let all = c.requires way.at in
    let one = one_itself way.at in
    omega arith

pub subtract-requires-in-loop-way : goal.subtract-requires-in-loop-way
subtract-requires-in-loop-way c =
    let ws = c.args.ways.now in
    let i = c.loop-way.way-index in
    let way = slice_index_or ws i none in
    let next = ways_next (same_name way.parent) ws i none c.loop-way-test.true in
    let left = c.loop-way.invariant.less way.parent in
    let all = c.requires way.parent in
    let one = one_itself way.parent in
    let less = c.subtract.ensures.less way.parent in
    omega arith

pub loop-way-preserved : goal.loop-way-preserved
loop-way-preserved c = record {
  less = λ n.
      let next = ways_next (same_name n) c.args.ways.now c.loop-way.way-index none c.loop-way-test.true in
      let left = c.loop-way.invariant.less n in
      let first = c.subtract.ensures.less n in
      let second = c.subtract-in-loop-way.ensures.less n in
      omega arith;
}

pub returns : goal.returns
returns c n =
    let left = c.loop-way.invariant.less n in
    let end = ways_end (same_name n) c.args.ways.now c.loop-way.way-index c.loop-way-test.false in
    omega arith
