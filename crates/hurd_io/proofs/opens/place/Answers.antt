use Rattle.std.proofs.Common.{◌≤◌, ◌<◌, ◌+ℤ◌, pos, arith, w64}
use Rattle.std.proofs.lemmas.Int.{to_z-of_z}
use Rattle.hurd_io.specs.Io.{i64_greatest}
use Rattle.hurd_io.proofs.PlaceLaws.{place-some, place-large, place-none}
use Rattle.hurd_io.proofs.opens.place.Goals as goal

pub returns-in_default : goal.returns-in_default
returns-in_default c =
    let no = rw (to_z-of_z w64 c.args.offset c.ranges.offset) at c.in_default.ensures in
    place-none (pos c.args.origin +ℤ c.args.offset) no

pub returns-then-place-gt-MOST_PLACE : goal.returns-then-place-gt-MOST_PLACE
returns-then-place-gt-MOST_PLACE c =
    let is = rw (to_z-of_z w64 c.args.offset c.ranges.offset) at c.in-Some.ensures in
    let past : i64_greatest < c.in-Some.place = c.if-place-gt-MOST_PLACE.true in
    place-large (pos c.args.origin +ℤ c.args.offset) c.in-Some.place is.0 is.1 past

pub returns : goal.returns
returns c =
    let is = rw (to_z-of_z w64 c.args.offset c.ranges.offset) at c.in-Some.ensures in
    let within : c.in-Some.place ≤ i64_greatest = omega arith in
    place-some (pos c.args.origin +ℤ c.args.offset) c.in-Some.place is.0 is.1 within
