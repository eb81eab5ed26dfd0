use Rattle.std.proofs.Common.{slice_index_or, arith}
use Rattle.hurd_creds.specs.declared.name.Name.{Name}
use Rattle.hurd_nodes.proofs.AimLaws.{listings-end, listings-next, listings_least}
use Rattle.hurd_nodes.proofs.aims.add_targets.Goals as goal

-- where a target was indexed out of its bounds
abbrev none : Name
none = record { task = record { 0 = 0 }; count = 0 }

pub add-requires-clause-room : goal.add-requires-clause-room
add-requires-clause-room c = omega (arith, c.loop-target.invariant.room, c.loop-target-test.true)

pub add-requires-clause-fits : goal.add-requires-clause-fits
add-requires-clause-fits c =
    let ts = c.args.targets.now in
    let target = slice_index_or ts c.loop-target.target-index none in
    let so_far = c.loop-target.invariant.more target in
    let least = listings_least ts c.loop-target.target-index none c.loop-target-test.true in
    let before = c.requires.fits target in
    omega arith

pub loop-target-preserved : goal.loop-target-preserved
loop-target-preserved c = record {
  more = λ n.
      let next = listings-next n c.args.targets.now c.loop-target.target-index none c.loop-target-test.true in
      let so_far = c.loop-target.invariant.more n in
      let one = c.add.ensures.more n in
      omega arith;
  room = omega (arith, c.loop-target.invariant.room, c.add.ensures.room);
}

pub returns : goal.returns
returns c n =
    let so_far = c.loop-target.invariant.more n in
    let end = listings-end n c.args.targets.now c.loop-target.target-index c.loop-target-test.false in
    omega arith
