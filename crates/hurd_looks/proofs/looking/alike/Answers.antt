use Rattle.hurd_sight.specs.Reach.{among}
use Rattle.hurd_looks.proofs.LookLaws.{rows_differ, seats_differ, whole}
use Rattle.hurd_looks.proofs.looking.alike.Goals as goal

pub returns-then-not-branch : goal.returns-then-not-branch
returns-then-not-branch c =
    let seats = rw (c.as_slice.ensures.value, c.as_slice-2.ensures.value) at c.in_ok-meet_all.ensures in
    seats_differ (among c.args.tasks.now) c.args.one.now c.args.two.now _ c.requires.start _ _ c.if-not-branch.true seats

pub returns-then-not-branch-2 : goal.returns-then-not-branch-2
returns-then-not-branch-2 c =
    let seats = rw (c.as_slice.ensures.value, c.as_slice-2.ensures.value) at c.in_ok-meet_all.ensures in
    rows_differ (among c.args.tasks.now) c.args.one.now c.args.two.now _ c.requires.start _ _ c.if-not-branch.false seats _ _ c.if-not-branch-2.true c.in_ok-meet_rows.ensures

pub returns : goal.returns
returns c =
    let seats = rw (c.as_slice.ensures.value, c.as_slice-2.ensures.value) at c.in_ok-meet_all.ensures in
    whole (among c.args.tasks.now) c.args.one.now c.args.two.now _ c.requires.start _ _ c.if-not-branch.false seats _ _ c.if-not-branch-2.false c.in_ok-meet_rows.ensures
    c.requires.count c.keep_own.ensures.one c.keep_own.result c.keep_own.ensures.keep
