use Rattle.std.proofs.Common.{slice_index_or, arith}
use Rattle.hurd_creds.specs.declared.name.Name.{Name}
use Rattle.hurd_nodes.proofs.AimLaws.{listings-end, listings-next, listings_least}
use Rattle.hurd_nodes.proofs.aims.subtract_targets.Goals as goal

-- where a target was indexed out of its bounds
abbrev none : Name
none = record { task = record { 0 = 0 }; count = 0 }

pub subtract-requires : goal.subtract-requires
subtract-requires c =
    let ts = c.args.targets.now in
    let i = c.loop-target.target-index in
    let target = slice_index_or ts i none in
    let least = listings_least ts i none c.loop-target-test.true in
    let left = c.loop-target.invariant.less target in
    let all = c.requires target in
    omega arith

pub loop-target-preserved : goal.loop-target-preserved
loop-target-preserved c = record {
  less = λ n.
      let next = listings-next n c.args.targets.now c.loop-target.target-index none c.loop-target-test.true in
      let left = c.loop-target.invariant.less n in
      let one = c.subtract.ensures.less n in
      omega arith;
  room = omega (arith, c.loop-target.invariant.room, c.subtract.ensures.room);
}

pub returns-clause-less : goal.returns-clause-less
returns-clause-less c n =
    let left = c.loop-target.invariant.less n in
    let end = listings-end n c.args.targets.now c.loop-target.target-index c.loop-target-test.false in
    omega arith
