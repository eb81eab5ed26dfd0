use Rattle.std.proofs.Common.{◌≢◌, ◌≤◌, ◌+◌, lit≤, sym, ◌∙◌, arith, length-append}
use Rattle.smallvec.specs.SmallVec.{small_vec_len}
use Rattle.hurd_creds.specs.Access.{most_ids}
use Rattle.hurd_creds.proofs.IdLaws.{once-none, scan-again, scan-more, scan-full}
use Rattle.hurd_creds.proofs.ids.each_once.Goals as goal

pub loop-id-init : goal.loop-id-init
loop-id-init c = rw c.new-found.ensures.items (once-none, lit≤ tt, c.new-found.ensures.capacity)

pub loop-id-preserved-then-contains : goal.loop-id-preserved-then-contains
loop-id-preserved-then-contains c =
    let once = scan-again _ _ _ c.loop-id-test.true c.loop-id.invariant.0 (rw c.as_slice.ensures at (sym c.contains.ensures.value ∙ c.if-contains.true)) in
    (once, c.loop-id.invariant.1, c.loop-id.invariant.2)

pub returns-then-len-eq-MOST_IDS-clause-too_many : goal.returns-then-len-eq-MOST_IDS-clause-too_many
returns-then-len-eq-MOST_IDS-clause-too_many c =
    scan-full _ _ _ c.loop-id-test.true c.loop-id.invariant.0 (rw c.as_slice.ensures at (sym c.contains.ensures.value ∙ c.if-contains.false)) (sym c.len.ensures.value ∙ c.if-len-eq-MOST_IDS.true)

pub loop-id-preserved : goal.loop-id-preserved
loop-id-preserved c =
    let once = scan-more _ _ _ c.loop-id-test.true c.loop-id.invariant.0 (rw c.as_slice.ensures at (sym c.contains.ensures.value ∙ c.if-contains.false)) in
    let apart : small_vec_len c.loop-id.found ≢ 32 = λ e. c.if-len-eq-MOST_IDS.false (c.len.ensures.value ∙ e) in
    let room : small_vec_len c.loop-id.found + 1 ≤ most_ids = omega arith in
    rw c.push_reserved.ensures.items (once, rw length-append room, c.push_reserved.ensures.capacity ∙ c.loop-id.invariant.2)
