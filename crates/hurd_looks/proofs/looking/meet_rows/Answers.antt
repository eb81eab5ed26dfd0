use Rattle.std.proofs.Common.{◌∙◌, refl, sym}
use Rattle.hurd_looks.specs.Renamed.{listed, named_row_renamed}
use Rattle.hurd_looks.proofs.MeetLaws.{before_done, before_next, before_none, before_stops, other_length}
use Rattle.hurd_looks.proofs.LookLaws.{listed_length, listed_there}
use Rattle.hurd_looks.proofs.looking.meet_rows.Goals as goal

pub returns-then-len : goal.returns-then-len
returns-then-len c = other_length named_row_renamed (listed c.args.some.now) (listed c.args.others.now)
    (λ e. c.if-len.true (c.len.ensures ∙ sym (listed_length c.args.some.now) ∙ e ∙ listed_length c.args.others.now ∙ sym c.len-2.ensures)) c.args.pairs.now c.args.pairs.now

pub loop-i-init : goal.loop-i-init
loop-i-init c = before_none named_row_renamed (listed c.args.some.now) (listed c.args.others.now) c.args.pairs.now c.args.pairs.now refl

pub returns-then-not-branch : goal.returns-then-not-branch
returns-then-not-branch c =
    let same = sym c.len.ensures ∙ c.if-len.false ∙ c.len-2.ensures in
    let within = rw c.len-i-end.ensures at c.loop-i-test.true in
    let x = listed_there c.args.some.now c.loop-i.i within in
    let y = listed_there c.args.others.now c.loop-i.i (rw same at within) in
    before_stops named_row_renamed c.loop-i.i (listed c.args.some.now) (listed c.args.others.now) x.0 y.0 x.1 y.1
    (listed_length c.args.some.now ∙ same ∙ sym (listed_length c.args.others.now))
    c.args.pairs.now c.loop-i.pairs _ c.meet_row.new.pairs c.if-not-branch.true c.loop-i.invariant (c.in_ok-meet_row.ensures x.0 y.0 x.1 y.1)

pub loop-i-preserved : goal.loop-i-preserved
loop-i-preserved c =
    let same = sym c.len.ensures ∙ c.if-len.false ∙ c.len-2.ensures in
    let within = rw c.len-i-end.ensures at c.loop-i-test.true in
    let x = listed_there c.args.some.now c.loop-i.i within in
    let y = listed_there c.args.others.now c.loop-i.i (rw same at within) in
    before_next named_row_renamed c.loop-i.i (listed c.args.some.now) (listed c.args.others.now) x.0 y.0 x.1 y.1
    c.args.pairs.now c.loop-i.pairs _ c.meet_row.new.pairs c.if-not-branch.false c.loop-i.invariant (c.in_ok-meet_row.ensures x.0 y.0 x.1 y.1)

pub returns : goal.returns
returns c =
    before_done named_row_renamed c.loop-i.i (listed c.args.some.now) (listed c.args.others.now)
    (rw (listed_length c.args.some.now) (rw c.len-i-end.ensures at c.loop-i-test.false))
    (listed_length c.args.some.now ∙ sym c.len.ensures ∙ c.if-len.false ∙ c.len-2.ensures ∙ sym (listed_length c.args.others.now))
    c.args.pairs.now c.loop-i.pairs c.loop-i.invariant
